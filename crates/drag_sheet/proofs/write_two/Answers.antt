-- `write_two` meets its contract: the next row is built first, and then both are written.
use mathlib.Core.Path.{◌≡◌, sym, ◌∙◌}
use Prim.Native.Nat.{ℕ}
use lib.ListN.{length, drop, replicate}
use lib.Seq.{take_at, length-take-le}
use Rattle.elementary.specs.Constants.{0·0}
use Rattle.sheet_data.specs.Layout.{most_columns}
use Rattle.sheet_data.specs.Contents.{contents_of}
use Rattle.drag_sheet.specs.Planes.{cell_plane, mark_plane}
use Rattle.drag_sheet.proofs.Verdicts.{chosen_passed}
use Rattle.drag_sheet.proofs.Changed.{next_steps}
use Rattle.drag_sheet.proofs.Laying.{placed}
use Rattle.drag_sheet.proofs.write_two.Goals as goal
use Rattle.drag_sheet.proofs.write_two.Goals.{After-row_at}

-- the next row has a cell for each column, and a mark
next_long : (c : After-row_at) → (length c.row_at.new.out ≡ c.args.sheet.settings.count) × (length c.row_at.new.marks ≡ c.args.sheet.settings.count)
next_long c = let none : ℕ = 0 in (c.row_at.auto.out ∙ length-take-le _ (replicate most_columns 0·0) c.requires.0.columns, c.row_at.auto.marks ∙ length-take-le _ (replicate most_columns none) c.requires.0.columns)

pub returns : goal.returns
returns c =
    let f = c.row_at.ensures in
    let ok = sym f.cells.verdict ∙ c.in_ok-row_at.was in
    let n = c.args.sheet.settings.count in
    let l = next_long (goal.at.returns c).After-row_at in
    let at = (placed c.layout_of-layout.ensures c.offset-at.ensures).place in
    let next = (placed c.layout_of-layout.ensures c.offset-next_at.ensures).place in
    let all = contents_of c.args.sheet in
    let none : ℕ = 0 in
    record {
      cells = record {
        verdict = sym ok;
        cells = next_steps cell_plane all c.args.cells.now c.args.place c.args.own.now _ _ _ _ _ _ at next (take_at c.row_at.new.out (drop n (replicate most_columns 0·0)) n l.0 ∙ f.cells.made ok) c.write_row.ensures c.write_row-2.ensures c.write_body.ensures ∙ chosen_passed c.args.cells.now _ ok;
      };
      marks = record {
        verdict = sym ok;
        cells = next_steps mark_plane all c.args.marks.now c.args.place c.args.own_marks.now _ _ _ _ _ _ at next (take_at c.row_at.new.marks (drop n (replicate most_columns none)) n l.1 ∙ f.marks.made ok) c.write_row-3.ensures c.write_row-4.ensures c.mark_body.ensures ∙ chosen_passed c.args.marks.now _ ok;
      };
    }
