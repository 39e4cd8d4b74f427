-- `elementary::from_bits` meets its contract.
use mathlib.Core.Path.{sym, ◌∙◌}
use native.Mathlib.Omega.{arith}
use Rattle.elementary.proofs.Floats.{nan_above, nan_below}
use Rattle.elementary.proofs.from_bits.Goals as goal
use Rattle.elementary.proofs.from_bits.Goals.{then-bits-gt9218868437227405312+else-bits-lt9223372036854775808, else-bits-gt9218868437227405312}

pub returns-then-bits-lt9223372036854775808 : goal.returns-then-bits-lt9223372036854775808
returns-then-bits-lt9223372036854775808 c =
    let low = c.if-bits-lt9223372036854775808.true in
    let high = c.if-bits-gt9218868437227405312.true in
    c.nan.ensures ∙ sym (nan_above c.args.bits (omega (arith, low, high)))

pub returns-then-bits-gt18442240474082181120 : goal.returns-then-bits-gt18442240474082181120
returns-then-bits-gt18442240474082181120 c =
    let high = c.if-bits-gt18442240474082181120.true in
    c.nan-then-bits-gt18442240474082181120.ensures ∙ sym (nan_above c.args.bits (omega (arith, high, c.ranges.bits)))

pub float_from_bits-result : goal.float_from_bits-result
float_from_bits-result c =
    let high = c.if-bits-gt18442240474082181120.false in
    nan_below c.args.bits
    (elim c.if-bits-gt9218868437227405312.branch [
      | then-bits-gt9218868437227405312+else-bits-lt9223372036854775808 w ↦ omega arith
      | else-bits-gt9218868437227405312 w ↦ omega arith
    ])
