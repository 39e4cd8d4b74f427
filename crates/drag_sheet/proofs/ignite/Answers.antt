-- `ignite` meets its contract.
use Rattle.std.proofs.Common.{◌≡◌, refl, sym, ◌∙◌}
use Rattle.std.specs.Prelude.{Ok}
use Rattle.drag_sheet.specs.Planes.{lent, cells_lent}
use Rattle.drag_sheet.specs.Calls.{ignite, tries, call_test}
use Rattle.drag_sheet.proofs.Answers.{call_facts, fits_cells, fits_marks}
use Rattle.drag_sheet.proofs.Changed.{called_nozzle}
use Rattle.drag_sheet.proofs.ignite.Goals as goal
use Rattle.drag_sheet.proofs.ignite.Goals.{In_ok-check_ignite}

-- the tests passed, with so many cells lent
passed : (c : In_ok-check_ignite) → call_test (ignite c.args.nozzle_diameter) c.args.sheet.now (cells_lent (lent c.args.cells.now c.args.marks.now)) ≡ Ok tt
passed c = rw c.marked.ensures at (sym c.check_ignite.ensures ∙ c.in_ok-check_ignite.was)

pub put_nozzle-requires : goal.put_nozzle-requires
put_nozzle-requires c =
    let xs = lent c.args.cells.now c.args.marks.now in
    let f = (call_facts (ignite c.args.nozzle_diameter) c.args.sheet.now (cells_lent xs) (passed (goal.at.put_nozzle-requires c).In_ok-check_ignite)).fits in
    (fits_cells xs f, fits_marks xs f)

pub returns : goal.returns
unfolding tries
returns c = called_nozzle (ignite c.args.nozzle_diameter) c.args.nozzle_diameter _ _ _ _ (passed (goal.at.returns c).In_ok-check_ignite) refl refl refl c.put_nozzle.ensures
