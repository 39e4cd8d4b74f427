-- `numbers` meets its contract.
use lib.Ieee.{nan}
use Rattle.std.proofs.Common.{arith, get_or, take_all}
use Rattle.sheet_text.specs.Text.{numbers_text}
use Rattle.sheet_text.proofs.Puts.{prints_none, prints_then, numbers_more, number_long, mark_long}
use Rattle.sheet_text.proofs.text.Text.numbers.Goals as goal

pub loop-k-init : goal.loop-k-init
unfolding numbers_text
loop-k-init c = (omega arith, prints_none _ (omega (arith, c.requires.1)))

pub loop-k-preserved : goal.loop-k-preserved
loop-k-preserved c =
    let l = c.loop-k in
    (omega (arith, l.invariant.0, c.number.ensures.place, c.mark.ensures.place, number_long, mark_long), rw (numbers_more c.args.row.now c.args.marks.now l.k nan (omega arith)) (prints_then l.invariant.1 (prints_then c.number.ensures (rw c.mark_at.ensures at c.mark.ensures))))

pub returns : goal.returns
returns c =
    let l = c.loop-k in
    rw (take_all l.k c.args.row.now (omega arith)) at (prints_then l.invariant.1 c.bytes.ensures)

pub mark-requires : goal.mark-requires
mark-requires c =
    let l = c.loop-k in
    omega (arith, l.invariant.0, l.invariant.1.long, c.loop-k-test.true, c.requires.0, c.requires.1, c.number.ensures.place, c.number.ensures.long, number_long (get_or c.args.row.now l.k nan))
