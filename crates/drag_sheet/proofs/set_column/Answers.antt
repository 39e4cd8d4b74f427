-- `set_column` meets its contract: the column is built as a sheet of one column, and written.
use Rattle.std.proofs.Common.{◌≡◌, ◌≤◌, refl, sym, ◌∙◌, arith, length}
use Rattle.std.specs.Prelude.{ℕ, replicate, Ok}
use Rattle.std.specs.Float.{nan}
use Rattle.std.proofs.lemmas.List.{take-replicate}
use lib.Seq.{take_at, length-take-le}
use Rattle.elementary.specs.Constants.{0·0}
use Rattle.aero_error.proofs.HandedOn.{handed_on}
use Rattle.sheet_data.specs.Layout.{most_finishes, all_rows, needed}
use Rattle.drag_sheet.specs.Writing.{column, overwritten}
use Rattle.drag_sheet.specs.Planes.{lent, cells_lent}
use Rattle.drag_sheet.specs.Calls.{set_column, tries, after, call_test}
use Rattle.drag_sheet.proofs.Answers.{Facts, call_facts, fits_cells, fits_marks, both_chosen, called}
use Rattle.drag_sheet.proofs.set_column.Goals as goal
use Rattle.drag_sheet.proofs.set_column.Goals.{After-build_column, After-rows-all, In_ok-check_set_column}

-- the tests passed, with so many cells lent
passed : (c : In_ok-check_set_column) → call_test (set_column c.args.column c.args.mach c.args.reynolds) c.args.sheet.now (cells_lent (lent c.args.cells.now c.args.marks.now)) ≡ Ok tt
passed c = rw c.marked.ensures at (sym c.check_set_column.ensures ∙ c.in_ok-check_set_column.was)

facts : (c : In_ok-check_set_column) → Facts (set_column c.args.column c.args.mach c.args.reynolds) c.args.sheet.now (cells_lent (lent c.args.cells.now c.args.marks.now))
facts c = call_facts _ _ _ (passed c)

-- a column has a cell for each row, within the scratch memory
all : (c : After-rows-all) → c.rows-all.result ≡ needed c.args.sheet.now.settings.finishes 1
all c = omega (arith, c.rows-all.ensures, c.layout_of-layout.ensures.0)

small : (c : After-rows-all) → c.rows-all.result ≤ all_rows most_finishes
small c = omega (arith, c.rows-all.ensures, c.layout_of-layout.ensures.0, (facts (goal.at.After-rows-all c).In_ok-check_set_column).fits.finishes)

pub layout_of-layout-requires : goal.layout_of-layout-requires
layout_of-layout-requires c = let f = facts (goal.at.layout_of-layout-requires c).In_ok-check_set_column in (f.fits.finishes, f.fits.columns)

made_long : (c : After-build_column) → c.rows-all.result ≤ all_rows most_finishes → (length c.build_column.new.cells ≡ c.rows-all.result) × (length c.build_column.new.marks ≡ c.rows-all.result)
made_long c h = let none : ℕ = 0 in (c.build_column.auto.cells ∙ length-take-le _ (replicate (all_rows most_finishes) 0·0) h, c.build_column.auto.marks ∙ length-take-le _ (replicate (all_rows most_finishes) none) h)

pub build_column-requires : goal.build_column-requires
build_column-requires c =
    let f = facts (goal.at.build_column-requires c).In_ok-check_set_column in
    let n : needed c.args.sheet.now.settings.finishes 1 ≤ all_rows most_finishes = omega (arith, f.fits.finishes) in
    let none : ℕ = 0 in
    rw (all (goal.at.build_column-requires c).After-rows-all) (
      record { finishes = f.fits.finishes; columns = f.fits.columns; parts = f.fits.parts; inside = f.within; empty = take-replicate _ (all_rows most_finishes) 0·0 n },
      record { finishes = f.fits.finishes; columns = f.fits.columns; parts = f.fits.parts; inside = f.within; empty = take-replicate _ (all_rows most_finishes) none n },
    )

pub returns-in_err-build_column : goal.returns-in_err-build_column
unfolding tries
returns-in_err-build_column c =
    called (set_column c.args.column c.args.mach c.args.reynolds) _ _ _ _ _ _ (passed (goal.at.returns-in_err-build_column c).In_ok-check_set_column) c.build_column.ensures.cells.verdict refl
    (rw (c.in_err-build_column.was, handed_on _ _ c.from_residual-in_err-build_column.ensures)) (rw c.in_err-build_column.was)

-- room for the column in either plane
pub write_column-requires : goal.write_column-requires
write_column-requires c =
    let f = facts (goal.at.write_column-requires c).In_ok-check_set_column in
    let m = (made_long (goal.at.write_column-requires c).After-build_column (small (goal.at.write_column-requires c).After-rows-all)).0 in
    (rw c.layout_of-layout.ensures.1 f.within, rw (c.layout_of-layout.ensures.0, c.layout_of-layout.ensures.1) (fits_cells (lent c.args.cells.now c.args.marks.now) f.fits).room, rw (take_at c.build_column.new.cells _ _ m, m) c.rows-all.ensures)

pub write_column-requires-2 : goal.write_column-requires-2
write_column-requires-2 c =
    let f = facts (goal.at.write_column-requires-2 c).In_ok-check_set_column in
    let m = (made_long (goal.at.write_column-requires-2 c).After-build_column (small (goal.at.write_column-requires-2 c).After-rows-all)).1 in
    (rw c.layout_of-layout.ensures.1 f.within, rw (c.layout_of-layout.ensures.0, c.layout_of-layout.ensures.1) (fits_marks (lent c.args.cells.now c.args.marks.now) f.fits).room, rw (take_at c.build_column.new.marks _ _ m, m) c.rows-all.ensures)

pub put_column-requires : goal.put_column-requires
put_column-requires c =
    let f = facts (goal.at.put_column-requires c).In_ok-check_set_column in
    (omega (arith, f.within, f.fits.columns), f.fits.parts)

pub returns : goal.returns
unfolding tries overwritten
returns c =
    let v = c.build_column.ensures in
    let ok = c.in_ok-build_column.was in
    let tried = sym v.cells.verdict ∙ ok in
    let l = made_long (goal.at.returns c).After-build_column (small (goal.at.returns c).After-rows-all) in
    let none : ℕ = 0 in
    let layout = c.layout_of-layout.ensures in
    called (set_column c.args.column c.args.mach c.args.reynolds) _ _ _ _ _ _ (passed (goal.at.returns c).In_ok-check_set_column) v.cells.verdict c.put_column.ensures
    (rw ok)
    (both_chosen c.build_column.result (lent c.args.cells.now c.args.marks.now) (lent c.write_column.new.cells c.write_column-2.new.cells) (column c.args.column) (after (set_column c.args.column c.args.mach c.args.reynolds) c.args.sheet.now)
    (c.write_column.ensures nan ∙ rw (ok, layout.0, layout.1, take_at c.build_column.new.cells _ _ l.0, v.cells.made tried))
    (c.write_column-2.ensures none ∙ rw (ok, layout.0, layout.1, take_at c.build_column.new.marks _ _ l.1, v.marks.made tried)))
