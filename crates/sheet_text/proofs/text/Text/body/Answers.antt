-- `body` meets its contract.
use Rattle.std.proofs.Common.{arith}
use Rattle.sheet_text.specs.Text.{body_text}
use Rattle.sheet_text.proofs.Puts.{prints_then}
use Rattle.sheet_text.proofs.text.Text.body.Goals as goal

pub returns : goal.returns
unfolding body_text
returns c =
    let row = c.row.ensures in
    prints_then c.rows.ensures (
    prints_then (rw (row.cells (omega (arith, c.base_row.ensures)), row.marks (omega (arith, c.base_row.ensures)), c.base_row.ensures) at c.line.ensures)
    (rw c.total_row.ensures at c.rows-2.ensures))
