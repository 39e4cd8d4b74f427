-- `write_changed` meets its contract: with a part after it, by `write_two`; without, its own row alone.
use mathlib.Core.Path.{◌≡◌, sym, ◌∙◌}
use Prim.Native.Nat.{ℕ, ◌+◌}
use lib.ListN.{length, drop, replicate}
use lib.Seq.{take_at, length-take-le}
use borrow.Author.Tests.{lt-ltb, le-ltb}
use Rattle.elementary.specs.Constants.{0·0}
use Rattle.sheet_data.specs.Layout.{most_columns}
use Rattle.sheet_data.specs.Contents.{contents_of, parts_of}
use Rattle.drag_sheet.proofs.Laying.{placed}
use Rattle.drag_sheet.specs.Planes.{cell_plane, mark_plane}
use Rattle.drag_sheet.proofs.Changed.{parts_long, own_steps, two_changed, one_changed}
use Rattle.drag_sheet.proofs.write_changed.Goals as goal
use Rattle.drag_sheet.proofs.write_changed.Goals.{After-row_at, Start}

-- the parts of the design that count
long : (s : Start) → length (parts_of s.args.sheet.design) ≡ s.args.sheet.design.count
long s = parts_long s.args.sheet (s.well_formed.0.1.1.1.0.1.1.1.0.1.0.1) s.requires.0.parts

-- its own row has a cell for each column, and a mark
own_long : (c : After-row_at) → (length c.row_at.new.out ≡ c.args.sheet.settings.count) × (length c.row_at.new.marks ≡ c.args.sheet.settings.count)
own_long c = let none : ℕ = 0 in (c.row_at.auto.out ∙ length-take-le _ (replicate most_columns 0·0) c.requires.0.columns, c.row_at.auto.marks ∙ length-take-le _ (replicate most_columns none) c.requires.0.columns)

pub returns-then-place-sheet : goal.returns-then-place-sheet
returns-then-place-sheet c =
    let n = c.args.place in
    let s = c.args.sheet in
    let f = c.row_at.ensures in
    let ok = sym f.cells.verdict ∙ c.in_ok-row_at.was in
    let l = own_long (goal.at.returns-then-place-sheet c).After-row_at in
    let w = c.write_two.ensures in
    let none : ℕ = 0 in
    let own = take_at c.row_at.new.out (drop s.settings.count (replicate most_columns 0·0)) s.settings.count l.0 ∙ f.cells.made ok in
    let own_marks = take_at c.row_at.new.marks (drop s.settings.count (replicate most_columns none)) s.settings.count l.1 ∙ f.marks.made ok in
    let more = lt-ltb (n + 1) s.design.count c.if-place-sheet.true in
    let count = long (goal.at.returns-then-place-sheet c).Start in
    record { cells = two_changed cell_plane s n ok count more own w.cells; marks = two_changed mark_plane s n ok count more own_marks w.marks }

pub returns : goal.returns
returns c =
    let n = c.args.place in
    let s = c.args.sheet in
    let f = c.row_at.ensures in
    let ok = sym f.cells.verdict ∙ c.in_ok-row_at.was in
    let l = own_long (goal.at.returns c).After-row_at in
    let at = (placed c.layout_of.ensures c.offset-at.ensures).place in
    let own = take_at c.row_at.new.out _ s.settings.count l.0 ∙ f.cells.made ok in
    let own_marks = take_at c.row_at.new.marks _ s.settings.count l.1 ∙ f.marks.made ok in
    let last = le-ltb (n + 1) s.design.count c.if-place-sheet.false in
    let count = long (goal.at.returns c).Start in
    record {
      cells = one_changed cell_plane s n ok count last (own_steps cell_plane (contents_of s) c.args.cells.now n _ _ _ _ at own c.write_row.ensures c.write_body.ensures);
      marks = one_changed mark_plane s n ok count last (own_steps mark_plane (contents_of s) c.args.marks.now n _ _ _ _ at own_marks c.write_row-2.ensures c.mark_body.ensures);
    }
