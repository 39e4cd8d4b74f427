-- `write_blank` meets its contract.
use Rattle.std.proofs.Common.{◌≡◌, sym, ◌∙◌, arith}
use Rattle.std.specs.Prelude.{Ok}
use Rattle.sheet_data.specs.Contents.{blank, Fits}
use Rattle.sheet_data.specs.Tests.{settings_test}
use Rattle.drag_sheet.specs.Planes.{lent, cells_lent}
use Rattle.drag_sheet.proofs.Answers.{settings_facts, fits_cells, fits_marks, opened_whole}
use Rattle.drag_sheet.proofs.write_blank.Goals as goal
use Rattle.drag_sheet.proofs.write_blank.Goals.{In_ok-check_settings}

-- the settings' tests passed, with so many cells lent
passed : (c : In_ok-check_settings) → settings_test c.args.settings (cells_lent (lent c.args.cells.now c.args.marks.now)) ≡ Ok tt
passed c = rw c.marked.ensures at (sym c.check_settings.ensures ∙ c.in_ok-check_settings.was)

pub write_all-requires : goal.write_all-requires
write_all-requires c =
    let xs = lent c.args.cells.now c.args.marks.now in
    let f = settings_facts c.args.settings (cells_lent xs) (passed (goal.at.write_all-requires c).In_ok-check_settings) in
    let g : Fits (blank c.args.settings) (cells_lent xs) = record { finishes = f.finishes; columns = f.columns; parts = omega arith; room = f.room } in
    rw c.blank.ensures (fits_cells xs g, fits_marks xs g)

pub returns : goal.returns
returns c =
    let w = rw c.blank.ensures at c.write_all.ensures in
    opened_whole c.args.settings _ _ _ (passed (goal.at.returns c).In_ok-check_settings) w.cells w.marks
