-- The loop of `rows`: the lines of the rows before this number are printed.
use Rattle.std.proofs.Common.{◌≤◌, ◌+◌, ◌*◌}
use Rattle.drag_sheet.specs.Planes.{lent}
use Rattle.sheet_text.specs.Bytes.{Prints}
use Rattle.sheet_text.specs.Text.{numbered_text, row_lines}
use Rattle.sheet_text.proofs.text.Text.rows.Given as goal

abbrev pub invariant-loop-number : goal.invariant-loop-number
invariant-loop-number l = (l.self.len ≤ l.initial.self.len + numbered_text l.name * l.number) × Prints (row_lines l.name l.numbered l.first l.number 0 l.planes.layout.columns (lent l.planes.cells.now l.planes.marks.now)) l.initial.self l.self
