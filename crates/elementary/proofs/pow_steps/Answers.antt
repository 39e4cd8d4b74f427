-- `elementary::pow_steps` meets its contract: each arm is what the definition picks by the same tests.
use Rattle.elementary.specs.Steps.{pow_steps}
use Rattle.elementary.proofs.pow_steps.Goals as goal

pub returns-then-y : goal.returns-then-y
unfolding pow_steps
returns-then-y c = rw (c.if-x.true, c.if-y.true)

pub returns-else-y : goal.returns-else-y
unfolding pow_steps
returns-else-y c = rw (c.if-x.true, c.if-y.false) c.infinity.ensures

pub returns-else-x : goal.returns-else-x
unfolding pow_steps
returns-else-x c = rw (c.if-x.false, ← c.ln.ensures) c.exp.ensures
