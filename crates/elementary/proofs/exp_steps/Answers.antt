-- `elementary::exp_steps` meets its contract.
use Prim.Native.Nat.{◌≤◌, ◌^◌}
use native.Mathlib.Omega.{arith}
use lib.Dec.{lit≤}
use Rattle.elementary.specs.Arithmetic.{◌⊕◌, ◌⊘◌}
use Rattle.elementary.specs.Constants.{0·5, ln_2}
use Rattle.elementary.specs.Steps.{exp_steps}
use Rattle.elementary.proofs.Sizes.{within_more, exponent_within, floor_within}
use Rattle.elementary.proofs.exp_steps.Goals as goal
use Rattle.elementary.proofs.exp_steps.Goals.{After-floor-k}

pub floor-k-requires : goal.floor-k-requires
floor-k-requires c = within_more (c.args.y ⊘ ln_2 ⊕ 0·5) 1493 (2 ^ 51) (lit≤ tt) (exponent_within c.args.y c.requires)

-- k is at most 1494 in size
short : (c : After-floor-k) → c.floor-k.result.size ≤ 1494
short c = rw c.floor-k.ensures (floor_within _ 1493 (exponent_within c.args.y c.requires))

pub signed_number-requires : goal.signed_number-requires
signed_number-requires c = omega (arith, short (goal.at.signed_number-requires c).After-floor-k)

pub signed_power-requires : goal.signed_power-requires
signed_power-requires c = omega (arith, short (goal.at.signed_power-requires c).After-floor-k)

pub signed_power-requires-2 : goal.signed_power-requires-2
signed_power-requires-2 c = omega (arith, short (goal.at.signed_power-requires-2 c).After-floor-k)

pub returns : goal.returns
unfolding exp_steps
returns c = rw (c.signed_power-2.ensures, c.signed_power.ensures, c.exp_series-p.ensures, c.signed_number.ensures, c.floor-k.ensures)
