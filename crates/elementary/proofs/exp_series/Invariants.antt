-- The loop of `exp_series`: the series so far, through the numbers that are left.
use Rattle.std.proofs.Common.{◌≡◌, drop}
use Rattle.elementary.specs.Arithmetic.{◌⊕◌, ◌⊗◌, ◌⊘◌}
use Rattle.elementary.specs.Constants.{1·0}
use Rattle.elementary.specs.Steps.{exp_series}
use Rattle.elementary.proofs.Series.{through_floats}
use Rattle.elementary.proofs.exp_series.Given as goal

abbrev pub invariant-loop-j : goal.invariant-loop-j
invariant-loop-j l = exp_series l.r ≡ through_floats (λ p j. 1·0 ⊕ l.r ⊗ p ⊘ j) l.p (drop l.j-index l.j-items)
