-- `write_all` meets its contract: what was built in memory of its own is copied, or nothing is.
use mathlib.Core.Path.{◌≡◌, refl, sym, ◌∙◌}
use Prim.Native.Nat.{ℕ, ◌≤◌}
use native.Mathlib.Nat.{le_of_eq}
use native.Mathlib.Omega.{arith}
use lib.ListN.{length, replicate}
use lib.Seq.{take_at, length-take-le}
use Rattle.std.proofs.lemmas.List.{take-replicate}
use Rattle.elementary.specs.Constants.{0·0}
use Rattle.sheet_data.specs.Layout.{most_cells, needed, needed_few}
use Rattle.drag_sheet.specs.Writing.{overwritten}
use Rattle.drag_sheet.proofs.rows.write_all.Goals as goal
use Rattle.drag_sheet.proofs.rows.write_all.Goals.{After-build_rows, After-cells-all}

-- so many cells are needed, and they are within the scratch memory
all : (c : After-cells-all) → c.cells-all.result ≡ needed c.args.sheet.settings.finishes c.args.sheet.settings.count
all c = c.cells-all.ensures ∙ rw (c.layout_of.ensures.0, c.layout_of.ensures.1) refl

small : (c : After-cells-all) → c.cells-all.result ≤ most_cells
small c = rw (all c) (needed_few _ _ c.requires.0.finishes c.requires.0.columns)

pub build_rows-requires : goal.build_rows-requires
build_rows-requires c =
    let f = c.requires.0 in
    let n = needed_few _ _ f.finishes f.columns in
    let none : ℕ = 0 in
    rw (all (goal.at.build_rows-requires c).After-cells-all)
    (record { finishes = f.finishes; columns = f.columns; parts = f.parts; room = le_of_eq (sym (length-take-le _ (replicate most_cells 0·0) n)) }, take-replicate _ most_cells 0·0 n, take-replicate _ most_cells none n)

-- what was built has as many cells as the sheet needs, and as many marks
made_long : (c : After-build_rows) → c.cells-all.result ≤ most_cells → (length c.build_rows.new.cells ≡ c.cells-all.result) × (length c.build_rows.new.marks ≡ c.cells-all.result)
made_long c h = let none : ℕ = 0 in (c.build_rows.auto.cells ∙ length-take-le _ (replicate most_cells 0·0) h, c.build_rows.auto.marks ∙ length-take-le _ (replicate most_cells none) h)

pub returns : goal.returns
unfolding overwritten
returns c =
    let f = c.build_rows.ensures in
    let p = sym f.cells.verdict ∙ c.in_ok-build_rows.was in
    let l = made_long (goal.at.returns c).After-build_rows (small (goal.at.returns c).After-cells-all) in
    record {
      cells = record { verdict = sym p; left = c.write_row.ensures ∙ rw (p, take_at c.build_rows.new.cells _ _ l.0, f.cells.made p) };
      marks = record { verdict = sym p; left = c.write_row-2.ensures ∙ rw (p, take_at c.build_rows.new.marks _ _ l.1, f.marks.made p) };
    }

pub slice_bounds-scratch-end : goal.slice_bounds-scratch-end
slice_bounds-scratch-end c = omega (arith, small (goal.at.slice_bounds-scratch-end c).After-cells-all)
