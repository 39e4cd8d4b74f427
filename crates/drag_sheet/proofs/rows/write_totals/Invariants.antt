-- The loop of `write_totals`: the totals of the finishes before this one are written.
use Rattle.drag_sheet.proofs.MadeRows.{TotalsDone}
use Rattle.drag_sheet.proofs.rows.write_totals.Given as goal

abbrev pub invariant-loop-finish : goal.invariant-loop-finish
invariant-loop-finish l = TotalsDone l.layout.finishes l.layout.columns l.initial.cells l.cells l.finish
