-- `row_at` meets its contract: the row of the part at the place, after the part before it.
use mathlib.Core.Path.{refl}
use Rattle.drag_sheet.specs.Planes.{cell_plane, mark_plane}
use Rattle.drag_sheet.proofs.MadeRows.{row_made}
use Rattle.drag_sheet.proofs.row_at.Goals as goal

pub returns : goal.returns
returns c =
    let d = c.args.sheet.design in
    let slots = c.well_formed.0.1.1.1.0.1.1.1.0.1.0.1 in
    let f = c.part_row.ensures in
    record {
      cells = row_made cell_plane c.args.sheet c.args.place _ _ slots c.requires.0 c.fore_diameter-fore.ensures refl f.cells;
      marks = row_made mark_plane c.args.sheet c.args.place _ _ slots c.requires.1 c.fore_diameter-fore.ensures refl f.marks;
    }
