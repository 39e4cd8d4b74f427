-- `burnout` meets its contract.
use Rattle.std.proofs.Common.{◌≡◌, refl, sym, ◌∙◌}
use Rattle.std.specs.Prelude.{Ok}
use Rattle.aero_error.specs.CheckLaws.{then_passed}
use Rattle.sheet_data.specs.Contents.{contents_of}
use Rattle.sheet_data.specs.Tests.{sheet_test}
use Rattle.drag_sheet.specs.Planes.{lent, cells_lent}
use Rattle.drag_sheet.specs.Calls.{burnout, tries}
use Rattle.drag_sheet.proofs.Answers.{sheet_fits, fits_cells, fits_marks}
use Rattle.drag_sheet.proofs.Changed.{called_nozzle}
use Rattle.drag_sheet.proofs.burnout.Goals as goal
use Rattle.drag_sheet.proofs.burnout.Goals.{In_ok-check_sheet}

-- the tests of the sheet given passed, with so many cells lent
passed : (c : In_ok-check_sheet) → sheet_test (contents_of c.args.sheet.now) (cells_lent (lent c.args.cells.now c.args.marks.now)) c.args.sheet.now.design.count ≡ Ok tt
passed c = rw c.marked.ensures at (sym c.check_sheet.ensures ∙ c.in_ok-check_sheet.was)

pub put_nozzle-requires : goal.put_nozzle-requires
put_nozzle-requires c =
    let xs = lent c.args.cells.now c.args.marks.now in
    let f = sheet_fits c.args.sheet.now (cells_lent xs) (passed (goal.at.put_nozzle-requires c).In_ok-check_sheet) in
    (fits_cells xs f, fits_marks xs f)

pub returns : goal.returns
unfolding tries
returns c = called_nozzle burnout _ _ _ _ _ (then_passed _ ∙ passed (goal.at.returns c).In_ok-check_sheet) refl refl refl c.put_nozzle.ensures
