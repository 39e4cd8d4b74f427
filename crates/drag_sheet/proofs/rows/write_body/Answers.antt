-- `write_body` meets its contract: the friction rows, then the base row and the total rows.
use mathlib.Core.Path.{◌∙◌}
use Rattle.sheet_data.specs.Layout.{friction_row}
use Rattle.sheet_data.specs.Contents.{contents_of}
use Rattle.sheet_data.specs.Rows.{from}
use Rattle.sheet_data.specs.RowLaws.{rows_append}
use Rattle.drag_sheet.specs.Planes.{cell_plane}
use Rattle.drag_sheet.specs.Build.{row_of}
use Rattle.drag_sheet.specs.Calls.{nozzle_rows, body_rows}
use Rattle.drag_sheet.proofs.rows.write_body.Goals as goal

pub returns : goal.returns
unfolding body_rows
returns c =
    c.write_nozzle_rows.ensures
    ∙ rw (c.write_frictions.ensures, rows_append c.args.sheet.now.settings.count (row_of cell_plane (contents_of c.args.sheet.now)) (nozzle_rows c.args.sheet.now.settings.finishes) (from (friction_row 0) c.args.sheet.now.settings.finishes) c.args.cells.now)
