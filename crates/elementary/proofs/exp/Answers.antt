-- `elementary::exp` meets its contract.
use Rattle.std.proofs.Common.{sym, ◌∙◌}
use Rattle.elementary.specs.Steps.{EXP}
use Rattle.elementary.proofs.Sizes.{between_bounds}
use Rattle.elementary.proofs.exp.Goals as goal

pub returns-then-is_nan : goal.returns-then-is_nan
unfolding EXP
returns-then-is_nan c = rw (← c.is_nan.ensures.value, c.if-is_nan.true) c.nan.ensures

pub returns-then-y : goal.returns-then-y
unfolding EXP
returns-then-y c = rw (← c.is_nan.ensures.value, c.if-is_nan.false, c.if-y.true) c.infinity.ensures

pub returns-then-y-2 : goal.returns-then-y-2
unfolding EXP
returns-then-y-2 c = rw (← c.is_nan.ensures.value, c.if-is_nan.false, c.if-y.false, c.if-y-2.true)

pub exp_steps-requires : goal.exp_steps-requires
exp_steps-requires c = between_bounds c.args.y (sym c.is_nan.ensures.value ∙ c.if-is_nan.false) c.if-y.false c.if-y-2.false

pub returns : goal.returns
unfolding EXP
returns c = rw (← c.is_nan.ensures.value, c.if-is_nan.false, c.if-y.false, c.if-y-2.false) c.exp_steps.ensures
