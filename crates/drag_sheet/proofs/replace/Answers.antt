-- `replace` meets its contract: the sheet that it leaves, its changed rows written.
use Rattle.std.proofs.Common.{◌≡◌, sym, ◌∙◌}
use Rattle.std.specs.Prelude.{Ok}
use Rattle.aero_error.proofs.HandedOn.{handed_on}
use Rattle.drag_sheet.specs.Planes.{lent, cells_lent}
use Rattle.drag_sheet.specs.Calls.{replace, call_test}
use Rattle.drag_sheet.proofs.Answers.{Facts, call_facts, fits_left, fits_cells, fits_marks}
use Rattle.drag_sheet.proofs.Changed.{called_changed}
use Rattle.drag_sheet.proofs.replace.Goals as goal
use Rattle.drag_sheet.proofs.replace.Goals.{In_ok-check_replace}

-- the tests passed, with so many cells lent
passed : (c : In_ok-check_replace) → call_test (replace c.args.place c.args.part) c.args.sheet.now (cells_lent (lent c.args.cells.now c.args.marks.now)) ≡ Ok tt
passed c = rw c.marked.ensures at (sym c.check_replace.ensures ∙ c.in_ok-check_replace.was)

facts : (c : In_ok-check_replace) → Facts (replace c.args.place c.args.part) c.args.sheet.now (cells_lent (lent c.args.cells.now c.args.marks.now))
facts c = call_facts _ _ _ (passed c)

pub replaced-left-requires : goal.replaced-left-requires
replaced-left-requires c = let f = facts (goal.at.replaced-left-requires c).In_ok-check_replace in (f.within, f.fits.parts)

pub write_changed-requires : goal.write_changed-requires
write_changed-requires c =
    let xs = lent c.args.cells.now c.args.marks.now in
    let f = facts (goal.at.write_changed-requires c).In_ok-check_replace in
    let count = c.replaced-left.ensures.count in
    let g = fits_left _ f c.replaced-left.ensures.left (rw count f.fits.parts) in
    (fits_cells xs g, fits_marks xs g, rw count f.within)

pub returns-in_err-write_changed : goal.returns-in_err-write_changed
returns-in_err-write_changed c =
    let w = c.write_changed.ensures in
    called_changed _ _ c.args.place c.args.part _ _ _ _ (passed (goal.at.returns-in_err-write_changed c).In_ok-check_replace) c.replaced-left.ensures.left w.cells w.marks (rw (c.in_err-write_changed.was, handed_on _ _ c.from_residual-in_err-write_changed.ensures))

pub returns : goal.returns
returns c =
    let w = c.write_changed.ensures in
    called_changed _ _ c.args.place c.args.part _ _ _ _ (passed (goal.at.returns c).In_ok-check_replace) c.replaced-left.ensures.left w.cells w.marks (rw c.in_ok-write_changed.was)
