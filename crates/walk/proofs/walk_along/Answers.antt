-- `walk_along` meets its contract: each turn is one query of the definition's walk.
use Rattle.std.proofs.Common.{◌∙◌, arith, length-set}
use Rattle.walk.proofs.Turns.{one_more}
use Rattle.walk.proofs.walk_along.Goals as goal

pub loop-i-preserved : goal.loop-i-preserved
loop-i-preserved c =
    let one = one_more _ _ c.args.queries.now c.loop-i.i _ _ c.loop-i-test.true c.advance.ensures.made c.value.ensures in
    record {
      room = omega arith;
      cells = simp length-set c.loop-i.invariant.cells;
      counted = c.loop-i.invariant.counted ∙ one.counted;
      written = c.loop-i.invariant.written ∙ one.written c.loop-i.answers;
    }
