-- `build_rows` meets its contract: the part rows, then the last rows, over cells of +0 and marks of 0.
use mathlib.Core.Path.{◌≡◌, sym, ◌∙◌}
use native.Mathlib.Omega.{arith}
use lib.ListN.{length}
use lib.Seq.{length-take-le}
use Rattle.sheet_data.specs.Contents.{contents_of, parts_of}
use Rattle.drag_sheet.specs.Planes.{cell_plane, mark_plane}
use Rattle.drag_sheet.proofs.Verdicts.{filled_passed}
use Rattle.drag_sheet.proofs.Laying.{from_nothing}
use Rattle.drag_sheet.proofs.rows.build_rows.Goals as goal

pub returns : goal.returns
returns c =
    let f = c.part_rows in
    let s = c.args.sheet in
    let p = sym f.ensures.cells.verdict ∙ c.in_ok-part_rows.was in
    let n : length (parts_of s.design) ≡ s.design.count = length-take-le s.design.count s.design.parts (omega (arith, c.requires.0.parts, c.well_formed.0.1.1.1.0.1.1.1.0.1.0.1)) in
    record {
      cells = filled_passed p (from_nothing cell_plane (contents_of s) s.design.count _ _ _ n c.requires.0.parts c.requires.1 (f.ensures.cells.made p) c.write_body.ensures);
      marks = filled_passed p (from_nothing mark_plane (contents_of s) s.design.count _ _ _ n c.requires.0.parts c.requires.2 (f.ensures.marks.made p) c.mark_body.ensures);
    }
