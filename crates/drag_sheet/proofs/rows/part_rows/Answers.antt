-- `part_rows` meets its contract.
use mathlib.Core.Path.{◌≡◌, refl, sym, ◌∙◌}
use Prim.Native.Nat.{◌+◌, ◌≤◌, ◌<◌}
use native.Mathlib.Omega.{arith}
use lib.ListN.{length, take}
use lib.Seq.{length-take-le}
use Rattle.aero_error.proofs.HandedOn.{handed_on}
use Rattle.sheet_data.specs.Layout.{most_parts}
use Rattle.sheet_data.specs.Contents.{contents_of}
use Rattle.sheet_data.specs.RowLaws.{middle_long}
use Rattle.drag_sheet.specs.Planes.{cell_plane, mark_plane}
use Rattle.drag_sheet.proofs.Laying.{placed, none_laid, prepared_next, laid_next, laid_refused, all_laid}
use Rattle.drag_sheet.proofs.rows.part_rows.Invariants.{contents}
use Rattle.drag_sheet.proofs.rows.part_rows.Goals as goal
use Rattle.drag_sheet.proofs.rows.part_rows.Goals.{After-offset-at, Start}

long : (s : Start) → length (take s.args.sheet.design.count s.args.sheet.design.parts) ≡ s.args.sheet.design.count
long s = length-take-le s.args.sheet.design.count s.args.sheet.design.parts (omega (arith, s.requires.0.parts, s.well_formed.0.1.1.1.0.1.1.1.0.1.0.1))

-- the row lies within the cells, and within the marks
inside : (c : After-offset-at) → (c.offset-at.result + c.args.sheet.settings.count ≤ length c.loop-place.cells) × (c.offset-at.result + c.args.sheet.settings.count ≤ length c.loop-place.marks)
inside c =
    let p = placed c.layout_of-layout.ensures c.offset-at.ensures in
    (omega (arith, p.inside, c.requires.0.room, c.loop-place.invariant.cells.rows.long), omega (arith, p.inside, c.requires.1.room, c.loop-place.invariant.marks.rows.long))

pub returns-in_err-part_row : goal.returns-in_err-part_row
returns-in_err-part_row c =
    let at = c.loop-place.invariant in
    let f = c.part_row.ensures in
    let h = c.loop-place-test.true in
    let s = c.args.sheet in
    let all = contents s.settings s.design.count s.design.parts in
    let p = prepared_next cell_plane all at.cells refl f.cells in
    let few : c.loop-place.place < length all.parts = omega (arith, long (goal.at.returns-in_err-part_row c).Start) in
    let e = sym p.verdict ∙ c.in_err-part_row.was in
    let r = handed_on _ _ c.from_residual.ensures in
    record { cells = laid_refused cell_plane (contents_of s) at.cells few e r; marks = laid_refused mark_plane (contents_of s) at.marks few e r }

pub loop-place-preserved : goal.loop-place-preserved
loop-place-preserved c =
    let at = c.loop-place.invariant in
    let n = c.args.sheet.settings.count in
    let o = c.offset-at in
    let p = placed c.layout_of-layout.ensures o.ensures in
    let f = c.part_row in
    let h = c.loop-place-test.true in
    let all = contents c.args.sheet.settings c.args.sheet.design.count c.args.sheet.design.parts in
    let room = inside (goal.at.loop-place-preserved c).After-offset-at in
    let v = f.auto.out ∙ middle_long o.result n c.loop-place.cells room.0 in
    let w = f.auto.marks ∙ middle_long o.result n c.loop-place.marks room.1 in
    let few : c.loop-place.place < most_parts = omega (arith, c.requires.0.parts) in
    let there : c.loop-place.place < length all.parts = omega (arith, long (goal.at.loop-place-preserved c).Start) in
    record {
      cells = laid_next cell_plane all at.cells o.result f.new.out p.place room.0 v refl few there f.ensures.cells c.in_ok-part_row.was (omega (arith, long (goal.at.loop-place-preserved c).Start));
      marks = laid_next mark_plane all at.marks o.result f.new.marks p.place room.1 w refl few there f.ensures.marks c.in_ok-part_row.was (omega (arith, long (goal.at.loop-place-preserved c).Start));
    }

pub returns : goal.returns
returns c =
    let at = c.loop-place.invariant in
    let n = long (goal.at.returns c).Start in
    let all = contents_of c.args.sheet in
    record { cells = all_laid cell_plane all at.cells n (omega arith) c.requires.0.parts; marks = all_laid mark_plane all at.marks n (omega arith) c.requires.0.parts }

pub loop-place-init : goal.loop-place-init
loop-place-init c = record { cells = none_laid _; marks = none_laid _ }
