-- The loop of `write_alike`: the rows before this one are written.
use Rattle.sheet_data.specs.RowLaws.{RowsDone}
use Rattle.drag_sheet.proofs.marks.write_alike.Given as goal

abbrev pub invariant-loop-number : goal.invariant-loop-number
invariant-loop-number l = RowsDone l.layout.columns (λ r. l.row) l.first l.count l.initial.marks l.marks l.number
