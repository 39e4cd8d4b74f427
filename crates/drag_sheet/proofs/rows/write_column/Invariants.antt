-- The loop of `write_column`: the cells of the rows before this one are put.
use Rattle.drag_sheet.proofs.Laying.{Putting}
use Rattle.drag_sheet.proofs.rows.write_column.Given as goal

abbrev pub invariant-loop-row : goal.invariant-loop-row
invariant-loop-row g l = (d : g.row.T.Denot) → Putting d l.column l.layout.finishes l.layout.columns l.values l.initial.cells l.cells l.row
