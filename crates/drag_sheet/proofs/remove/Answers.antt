-- `remove` meets its contract: the sheet that it leaves, all rows of it written.
use Rattle.std.proofs.Common.{◌≡◌, refl, sym, ◌∙◌, arith}
use Rattle.std.specs.Prelude.{Ok}
use Rattle.aero_error.proofs.HandedOn.{handed_on}
use Rattle.drag_sheet.specs.Planes.{lent, cells_lent}
use Rattle.drag_sheet.specs.Calls.{remove, tries, call_test}
use Rattle.drag_sheet.proofs.Answers.{Facts, call_facts, fits_left, fits_cells, fits_marks, whole_refused, whole_accepted}
use Rattle.drag_sheet.proofs.remove.Goals as goal
use Rattle.drag_sheet.proofs.remove.Goals.{In_ok-check_remove}

-- the tests passed, with so many cells lent
passed : (c : In_ok-check_remove) → call_test (remove c.args.place) c.args.sheet.now (cells_lent (lent c.args.cells.now c.args.marks.now)) ≡ Ok tt
passed c = rw c.marked.ensures at (sym c.check_remove.ensures ∙ c.in_ok-check_remove.was)

facts : (c : In_ok-check_remove) → Facts (remove c.args.place) c.args.sheet.now (cells_lent (lent c.args.cells.now c.args.marks.now))
facts c = call_facts _ _ _ (passed c)

pub removed-left-requires : goal.removed-left-requires
removed-left-requires c = let f = facts (goal.at.removed-left-requires c).In_ok-check_remove in (f.within, f.fits.parts)

pub write_all-requires : goal.write_all-requires
write_all-requires c =
    let xs = lent c.args.cells.now c.args.marks.now in
    let f = facts (goal.at.write_all-requires c).In_ok-check_remove in
    let g = fits_left _ f c.removed-left.ensures.left (omega (arith, c.removed-left.ensures.count, f.fits.parts)) in
    (fits_cells xs g, fits_marks xs g)

pub returns-in_err-write_all : goal.returns-in_err-write_all
unfolding tries
returns-in_err-write_all c =
    let w = c.write_all.ensures in
    whole_refused (remove c.args.place) _ _ _ _ _ (passed (goal.at.returns-in_err-write_all c).In_ok-check_remove) c.removed-left.ensures.left refl refl w.cells w.marks _ _ c.in_err-write_all.was (handed_on _ _ c.from_residual-in_err-write_all.ensures)

pub returns : goal.returns
unfolding tries
returns c =
    let w = c.write_all.ensures in
    whole_accepted (remove c.args.place) _ _ _ _ _ (passed (goal.at.returns c).In_ok-check_remove) c.removed-left.ensures.left refl refl w.cells w.marks c.in_ok-write_all.was
