-- `elementary::ln_steps` meets its contract.
use Rattle.elementary.specs.Steps.{ln_steps}
use Rattle.elementary.proofs.ln_steps.Goals as goal

pub returns-then-m : goal.returns-then-m
unfolding ln_steps
returns-then-m c = rw (← c.x.view_is, ← c.number-m.ensures, c.if-m.true) c.ln_sum.ensures

pub returns-else-m : goal.returns-else-m
unfolding ln_steps
returns-else-m c = rw (← c.x.view_is, ← c.number-m.ensures, c.if-m.false) c.ln_sum-else-m.ensures
