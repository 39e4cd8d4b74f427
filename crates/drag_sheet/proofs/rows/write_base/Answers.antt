-- `write_base` meets its contract: the cells that `fill_base` was lent, put back.
use mathlib.Core.Path.{◌≡◌, ◌∙◌}
use Prim.Native.Nat.{◌+◌, ◌≤◌}
use native.Mathlib.Omega.{arith}
use lib.ListN.{length}
use Rattle.sheet_data.specs.Layout.{base_row}
use Rattle.sheet_data.specs.Contents.{contents_of}
use Rattle.sheet_data.specs.RowLaws.{middle_long, put_row}
use Rattle.drag_sheet.specs.Formulas.{base_area}
use Rattle.drag_sheet.specs.Body.{base_over}
use Rattle.drag_sheet.specs.Planes.{cell_plane}
use Rattle.drag_sheet.specs.Build.{row_of}
use Rattle.drag_sheet.proofs.Laying.{placed}
use Rattle.drag_sheet.proofs.Taken.{taken_cells}
use Rattle.drag_sheet.proofs.MadeRows.{base_made}
use Rattle.drag_sheet.proofs.rows.write_base.Goals as goal
use Rattle.drag_sheet.proofs.rows.write_base.Goals.{After-offset-at, Start}

-- there is room for the row from its offset on
room : (c : After-offset-at) → c.offset-at.result + c.args.sheet.now.settings.count ≤ length c.args.cells.now
room c = omega (arith, (placed c.layout_of-layout.ensures c.offset-at.ensures).inside, c.requires.room)

pub returns : goal.returns
returns c =
    let f = c.fill_base in
    let S = c.args.sheet.now.settings in
    let m = middle_long c.offset-at.result S.count c.args.cells.now (room (goal.at.returns c).After-offset-at) in
    let e : f.new.out ≡ row_of cell_plane (contents_of c.args.sheet.now) (base_row S.finishes) =
    f.ensures ∙ rw (m, c.base_area-area.ensures) (taken_cells (base_over (base_area (contents_of c.args.sheet.now))) S ∙ base_made (contents_of c.args.sheet.now)) in
    put_row c.offset-at.result S.count f.new.out c.args.cells.now (f.auto.out ∙ m) ∙ rw (e, (placed c.layout_of-layout.ensures c.offset-at.ensures).place, c.base_row.ensures, c.layout_of-layout.ensures.0)
