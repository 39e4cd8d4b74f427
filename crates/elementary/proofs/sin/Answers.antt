-- `elementary::sin` meets its contract.
use Rattle.std.proofs.Common.{refl, ap, ◌∙◌}
use lib.Ieee.{of_int, round, of_bits}
use Rattle.elementary.specs.Arithmetic.{◌⊗◌}
use Rattle.elementary.specs.Steps.{SIN}
use Rattle.elementary.proofs.Series.{next}
use Rattle.elementary.proofs.sin.Goals as goal

pub loop-k-init : goal.loop-k-init
unfolding SIN of_int round of_bits
loop-k-init c = refl

pub loop-k-preserved : goal.loop-k-preserved
loop-k-preserved c = c.loop-k.invariant ∙ ap (λ p. c.args.x ⊗ p) (next _ _ _ _ _ c.loop-k-test.true)
