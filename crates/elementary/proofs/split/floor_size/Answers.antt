-- `elementary::split::floor_size` meets its contract.
use mathlib.Core.Path.{◌≡◌}
use Prim.Native.Nat.{◌-◌, ◌^◌}
use native.Mathlib.Nat.{lt_of_lt_of_le}
use native.Mathlib.Omega.{arith}
use lib.Pow.{pow_mono}
use Rattle.elementary.specs.Split.{floor_size}
use Rattle.elementary.proofs.Value.{floor_below_one}
use Rattle.elementary.proofs.split.floor_size.Goals as goal
use Rattle.elementary.proofs.split.floor_size.Goals.{Then-magnitude-le1074}

-- with 1074 digits or fewer the number is below 1
below_one : (c : Then-magnitude-le1074) → let a = c.args in floor_size a.negative a.magnitude.significand (2 ^ (1127 - a.magnitude.digits)) ≡ floor_size a.negative 1 2
below_one c =
    let m = c.magnitude.inside in
    rw (← c.magnitude.view_is)
    (floor_below_one c.args.negative m.significand (2 ^ (1127 - m.digits)) (omega arith)
    (lt_of_lt_of_le c.magnitude.invariant.narrow (pow_mono {i = 53} {j = 1127 - m.digits} (omega arith))))

pub returns-then-negative : goal.returns-then-negative
returns-then-negative c = rw (below_one (goal.at.returns-then-negative c).Then-magnitude-le1074, c.if-negative.true)

pub returns-else-negative : goal.returns-else-negative
returns-else-negative c = rw (below_one (goal.at.returns-else-negative c).Then-magnitude-le1074, c.if-negative.false)
