-- `is_between` meets its contract: the second test is the answer where the first holds.
use Rattle.elementary.specs.Tests.{between}
use Rattle.elementary.proofs.is_between.Goals as goal

pub returns-then-low-x : goal.returns-then-low-x
unfolding between
returns-then-low-x c = simp c.if-low-x.true

pub returns-else-low-x : goal.returns-else-low-x
unfolding between
returns-else-low-x c = simp c.if-low-x.false
