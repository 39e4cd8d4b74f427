-- `elementary::sqrt_steps` meets its contract.
use native.Mathlib.Omega.{arith}
use borrow.Author.Tests.{eq-eqb, ne_eqb}
use lib.IntN.{pos}
use lib.Ieee.{binary64}
use lib.Ieee.Fits.{of_int-fits, mul-fits}
use Rattle.elementary.specs.Arithmetic.{whole}
use Rattle.elementary.specs.Constants.{2·0}
use Rattle.elementary.proofs.Ranges.{whole_value}
use Rattle.elementary.specs.Steps.{sqrt_steps}
use Rattle.elementary.proofs.RootScaled.{scaled_root, doubled_value}
use Rattle.elementary.proofs.sqrt_steps.Goals as goal
use Rattle.elementary.proofs.sqrt_steps.Goals.{then-x-eq1, else-x-eq1}

pub returns : goal.returns
unfolding sqrt_steps
returns c =
    let t = c.x.invariant in
    elim c.if-x-eq1.branch [
      | then-x-eq1 w ↦
          rw (← c.x.view_is, eq-eqb _ _ w.if-x-eq1.true, c.sqrt.ensures.value, c.power.ensures, w.w-is, c.number-significand.ensures)
          (scaled_root _ _ _ (of_int-fits binary64 (pos _)) (whole_value _ (omega (arith, t.narrow))) t.full (omega (arith, t.narrow)))
      | else-x-eq1 w ↦
          rw (← c.x.view_is, ne_eqb _ _ w.if-x-eq1.false, c.sqrt.ensures.value, c.power.ensures, w.w-is, c.number-significand.ensures)
          (scaled_root _ _ _ (mul-fits binary64 2·0 (whole _)) (doubled_value _ (omega (arith, t.full)) t.narrow) (omega (arith, t.full)) (omega (arith, t.narrow)))
    ]
