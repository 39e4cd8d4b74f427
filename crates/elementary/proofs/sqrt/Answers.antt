-- `elementary::sqrt` meets its contract: the steps of a positive number's parts, and otherwise the definition's answer.
use mathlib.Core.Path.{◌∙◌}
use lib.Ieee.{of_bits, neg}
use Rattle.elementary.specs.Steps.{SQRT}
use Rattle.elementary.proofs.Floats.{true_t}
use Rattle.elementary.proofs.RootOperation.{sqrt_operation}
use Rattle.elementary.proofs.sqrt.Goals as goal

pub returns-then-negative : goal.returns-then-negative
unfolding SQRT of_bits neg
returns-then-negative c = simp (← c.positive_parts.ensures, c.in-Zero.is, c.if-negative.true)

pub returns-else-negative : goal.returns-else-negative
unfolding SQRT of_bits neg
returns-else-negative c = simp (← c.positive_parts.ensures, c.in-Zero.is, c.if-negative.false)

pub returns-in-Not : goal.returns-in-Not
unfolding SQRT
returns-in-Not c = rw (← c.positive_parts.ensures, c.in-Not.is)

pub returns-in-Finite : goal.returns-in-Finite
unfolding SQRT
returns-in-Finite c = rw (← c.positive_parts.ensures, c.in-Finite.is) c.sqrt_steps.ensures

pub returns-then-x : goal.returns-then-x
returns-then-x c = c.sqrt.ensures.value ∙ sqrt_operation c.args.x (true_t c.well_formed.0.1)
