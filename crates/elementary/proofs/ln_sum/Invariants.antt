-- The loop of `ln_sum`: the series so far, through the numbers that are left.
use Rattle.std.proofs.Common.{◌≡◌, drop}
use Rattle.elementary.specs.Arithmetic.{◌⊕◌, ◌⊗◌, ◌⊘◌}
use Rattle.elementary.specs.Constants.{1·0}
use Rattle.elementary.specs.Steps.{ln_series}
use Rattle.elementary.proofs.Series.{through_floats}
use Rattle.elementary.proofs.ln_sum.Given as goal

abbrev pub invariant-loop-k : goal.invariant-loop-k
invariant-loop-k l = ln_series l.u ≡ through_floats (λ p k. p ⊗ l.u ⊕ 1·0 ⊘ k) l.p (drop l.k-index l.k-items)
