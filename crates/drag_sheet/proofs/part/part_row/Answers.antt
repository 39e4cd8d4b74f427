-- `part_row` meets its contract: the row of what was prepared, over the columns that count.
use mathlib.Core.Path.{refl}
use Rattle.drag_sheet.specs.Formulas.{cell_of, mark_of, value_of}
use Rattle.drag_sheet.specs.Planes.{cell_plane, mark_plane}
use Rattle.drag_sheet.proofs.Taken.{taken_row}
use Rattle.drag_sheet.proofs.part.part_row.Goals as goal
use Rattle.drag_sheet.proofs.part.part_row.Goals.{Start}

pub returns : goal.returns
returns c =
    let f = c.fill_row.ensures in
    rw (← c.prepare.ensures, c.in_ok-row.was) record {
      cells = taken_row cell_plane (λ M. value_of (cell_of c.in_ok-row.row M)) c.in_ok-row.row c.args.settings.now c.requires.0 (λ M. refl) f.cells;
      marks = taken_row mark_plane (mark_of c.in_ok-row.row) c.in_ok-row.row c.args.settings.now c.requires.0 (λ M. refl) f.marks;
    }
