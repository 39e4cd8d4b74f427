-- `elementary::exp_series` meets its contract.
use Rattle.std.proofs.Common.{refl, ◌∙◌}
use lib.Ieee.{of_int, round, of_bits}
use Rattle.elementary.proofs.Series.{next}
use Rattle.elementary.proofs.exp_series.Goals as goal

pub loop-j-init : goal.loop-j-init
unfolding of_int round of_bits
loop-j-init c = refl

pub loop-j-preserved : goal.loop-j-preserved
loop-j-preserved c = c.loop-j.invariant ∙ next _ _ _ _ _ c.loop-j-test.true
