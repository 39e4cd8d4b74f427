-- The loop of `write_frictions`: the friction rows of the finishes before this one are written.
use Rattle.sheet_data.specs.Layout.{friction_row}
use Rattle.sheet_data.specs.Contents.{contents_of}
use Rattle.sheet_data.specs.RowLaws.{RowsDone}
use Rattle.drag_sheet.specs.Planes.{cell_plane}
use Rattle.drag_sheet.specs.Build.{row_of}
use Rattle.drag_sheet.proofs.rows.write_frictions.Given as goal

abbrev pub invariant-loop-finish : goal.invariant-loop-finish
invariant-loop-finish l = RowsDone l.sheet.settings.count (row_of cell_plane (contents_of l.sheet)) (friction_row 0) l.sheet.settings.finishes l.initial.cells l.cells l.finish
