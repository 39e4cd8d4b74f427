-- `elementary::ln` meets its contract: the steps of a positive number's parts, and otherwise the definition's answer.
use Rattle.elementary.specs.Steps.{LN}
use Rattle.elementary.proofs.ln.Goals as goal

pub returns-in-Not : goal.returns-in-Not
unfolding LN
returns-in-Not c = rw (← c.positive_parts.ensures, c.in-Not.is)

pub returns-in-Zero : goal.returns-in-Zero
unfolding LN
returns-in-Zero c = rw (← c.positive_parts.ensures, c.in-Zero.is) c.nan.ensures

pub returns-in-Finite : goal.returns-in-Finite
unfolding LN
returns-in-Finite c = rw (← c.positive_parts.ensures, c.in-Finite.is) c.ln_steps.ensures
