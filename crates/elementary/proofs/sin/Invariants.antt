-- The loop of `sin`: the series so far, through the numbers that are left.
use Rattle.std.proofs.Common.{◌≡◌, drop}
use Rattle.elementary.specs.Arithmetic.{◌⊖◌, ◌⊗◌, ◌⊘◌}
use Rattle.elementary.specs.Constants.{1·0}
use Rattle.elementary.specs.Steps.{SIN}
use Rattle.elementary.proofs.Series.{through_floats}
use Rattle.elementary.proofs.sin.Given as goal

abbrev pub invariant-loop-k : goal.invariant-loop-k
invariant-loop-k l = SIN l.x ≡ l.x ⊗ through_floats (λ p k. 1·0 ⊖ l.z ⊗ p ⊘ k) l.p (drop l.k-index l.k-items)
