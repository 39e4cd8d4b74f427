-- `elementary::ln_sum` meets its contract.
use Rattle.std.proofs.Common.{refl, ◌∙◌}
use lib.Ieee.{of_int, round, of_bits, div}
use Rattle.elementary.specs.Steps.{ln_sum}
use Rattle.elementary.proofs.Series.{next, at_end}
use Rattle.elementary.proofs.ln_sum.Goals as goal

pub loop-k-init : goal.loop-k-init
unfolding of_int round of_bits div
loop-k-init c = refl

pub loop-k-preserved : goal.loop-k-preserved
loop-k-preserved c = c.loop-k.invariant ∙ next _ _ _ _ _ c.loop-k-test.true

pub returns : goal.returns
unfolding ln_sum of_int round of_bits div
returns c = rw (c.number-e.ensures, ← (c.loop-k.invariant ∙ at_end _ _ _ _ c.loop-k-test.false))
