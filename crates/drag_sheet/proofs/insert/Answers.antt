-- `insert` meets its contract: the sheet that it leaves, all rows of it written.
use Rattle.std.proofs.Common.{◌≡◌, refl, sym, ◌∙◌, arith}
use Rattle.std.specs.Prelude.{Ok}
use Rattle.aero_error.proofs.HandedOn.{handed_on}
use Rattle.drag_sheet.specs.Planes.{lent, cells_lent}
use Rattle.drag_sheet.specs.Calls.{insert, tries, call_test}
use Rattle.drag_sheet.proofs.Answers.{call_facts, fits_left, fits_cells, fits_marks, whole_refused, whole_accepted}
use Rattle.drag_sheet.proofs.insert.Goals as goal
use Rattle.drag_sheet.proofs.insert.Goals.{In_ok-check_insert}

-- the tests passed, with so many cells lent
passed : (c : In_ok-check_insert) → call_test (insert c.args.place c.args.part) c.args.sheet.now (cells_lent (lent c.args.cells.now c.args.marks.now)) ≡ Ok tt
passed c = rw c.marked.ensures at (sym c.check_insert.ensures ∙ c.in_ok-check_insert.was)

pub write_all-requires : goal.write_all-requires
write_all-requires c =
    let xs = lent c.args.cells.now c.args.marks.now in
    let f = call_facts (insert c.args.place c.args.part) c.args.sheet.now (cells_lent xs) (passed (goal.at.write_all-requires c).In_ok-check_insert) in
    let g = fits_left _ f c.inserted-left.ensures.left (omega (arith, c.inserted-left.ensures.count, f.within.1)) in
    (fits_cells xs g, fits_marks xs g)

pub returns-in_err-write_all : goal.returns-in_err-write_all
unfolding tries
returns-in_err-write_all c =
    let w = c.write_all.ensures in
    whole_refused (insert c.args.place c.args.part) _ _ _ _ _ (passed (goal.at.returns-in_err-write_all c).In_ok-check_insert) c.inserted-left.ensures.left refl refl w.cells w.marks _ _ c.in_err-write_all.was (handed_on _ _ c.from_residual-in_err-write_all.ensures)

pub returns : goal.returns
unfolding tries
returns c =
    let w = c.write_all.ensures in
    whole_accepted (insert c.args.place c.args.part) _ _ _ _ _ (passed (goal.at.returns c).In_ok-check_insert) c.inserted-left.ensures.left refl refl w.cells w.marks c.in_ok-write_all.was
