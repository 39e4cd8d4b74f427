-- `write_nozzle_rows` meets its contract: the base row, then the total rows.
use mathlib.Core.Path.{ap, ◌∙◌}
use Rattle.sheet_data.specs.Rows.{rows_written}
use Rattle.drag_sheet.specs.Planes.{cell_plane}
use Rattle.drag_sheet.specs.Writing.{totalled}
use Rattle.drag_sheet.proofs.rows.write_nozzle_rows.Goals as goal

pub returns : goal.returns
unfolding rows_written
returns c =
    c.write_totals.ensures ∙ rw (c.layout_of.ensures.0, c.layout_of.ensures.1) (ap (totalled cell_plane c.args.sheet.now.settings.finishes c.args.sheet.now.settings.count) c.write_base.ensures)
