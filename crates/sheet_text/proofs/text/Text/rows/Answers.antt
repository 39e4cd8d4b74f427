-- `rows` meets its contract.
use Rattle.std.proofs.Common.{arith}
use native.Mathlib.Nat.{mul-suc}
use native.Mathlib.Numerals.{add-one}
use Rattle.sheet_text.specs.Text.{numbered_text, row_lines}
use Rattle.sheet_text.proofs.Puts.{prints_none, prints_then, lines_more, row_long}
use Rattle.sheet_text.proofs.text.Text.rows.Goals as goal

pub loop-number-init : goal.loop-number-init
unfolding row_lines
loop-number-init c = (omega arith, prints_none _ (omega (arith, c.requires.1)))

pub loop-number-preserved : goal.loop-number-preserved
loop-number-preserved c =
    let l = c.loop-number in
    let a = c.args in
    let row = c.row.ensures in
    let p = rw (row.cells (omega arith), row.marks (omega arith)) at c.row-in-loop-number.ensures in
    (omega (arith, l.invariant.0, c.row-in-loop-number.ensures.place, row_long, mul-suc (numbered_text a.name.now) l.number, add-one l.number), rw lines_more (prints_then l.invariant.1 p))
