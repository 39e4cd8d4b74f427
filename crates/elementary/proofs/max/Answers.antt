-- `max` meets its contract: each arm is what the definition picks where the tests are as that arm found them.
use Rattle.std.proofs.Common.{sym, ◌∙◌}
use Rattle.elementary.specs.Tests.{max_of}
use Rattle.elementary.proofs.Floats.{differs}
use Rattle.elementary.proofs.max.Goals as goal

pub returns-then-a-b : goal.returns-then-a-b
unfolding max_of
returns-then-a-b c = simp c.if-a-b.true

pub returns-then-is_nan : goal.returns-then-is_nan
unfolding max_of
returns-then-is_nan c = simp (c.if-a-b.false, differs c.args.a, sym c.is_nan.ensures.value ∙ c.if-is_nan.true)

pub returns-else-is_nan : goal.returns-else-is_nan
unfolding max_of
returns-else-is_nan c = simp (c.if-a-b.false, differs c.args.a, sym c.is_nan.ensures.value ∙ c.if-is_nan.false)
