-- `fill_row` meets its contract.
use Rattle.std.specs.Prelude.{◌≡◌, length, get_or, Ok, Err}
use Rattle.std.proofs.Common.{sym, ◌∙◌, arith}
use Rattle.std.specs.Float.{nan}
use Rattle.aero_error.specs.Checks.{up_to}
use Rattle.aero_error.specs.CheckLaws.{up_none, up_more, up_failed, up_end}
use Rattle.aero_error.proofs.HandedOn.{handed_on}
use Rattle.sheet_data.specs.Tables.{fill_none, fill_more, fill_end}
use Rattle.drag_sheet.specs.Formulas.{cell_of, made_test}
use Rattle.drag_sheet.proofs.Verdicts.{filled_refused, filled_passed}
use Rattle.drag_sheet.proofs.MadeCells.{made_cell, refused_cell}
use Rattle.drag_sheet.proofs.part.fill_row.Goals as goal
use Rattle.drag_sheet.proofs.part.fill_row.Goals.{In_err-cell, After-loop-i}

-- the row is tried like its cells: refused with the first that is refused, or passed
row_refused : (c : In_err-cell) → up_to (length c.args.machs.now) (λ k. made_test (cell_of c.args.row (get_or c.args.machs.now k nan))) ≡ Err c.in_err-cell.field-0.0
row_refused c = up_failed _ _ _ _ c.loop-i.invariant.made (refused_cell _ _ (sym c.cell.ensures ∙ c.in_err-cell.was)) c.loop-i-test.true

pub returns-in_err-cell-clause-cells : goal.returns-in_err-cell-clause-cells
returns-in_err-cell-clause-cells c = filled_refused (row_refused (goal.at.returns-in_err-cell-clause-cells c).In_err-cell) (handed_on _ _ c.from_residual.ensures)

pub returns-in_err-cell-clause-marks : goal.returns-in_err-cell-clause-marks
returns-in_err-cell-clause-marks c = filled_refused (row_refused (goal.at.returns-in_err-cell-clause-marks c).In_err-cell) (handed_on _ _ c.from_residual.ensures)

pub loop-i-preserved : goal.loop-i-preserved
loop-i-preserved c =
    let l = c.loop-i in
    let m = made_cell _ _ (sym c.cell.ensures ∙ c.in_ok-cell.was) in
    record {
      filled = fill_more _ _ l.invariant.filled (omega arith) m.value;
      marked = fill_more _ _ l.invariant.marked (omega arith) m.mark;
      made = up_more _ l.invariant.made m.test;
    }

row_passed : (c : After-loop-i) → up_to (length c.args.machs.now) (λ k. made_test (cell_of c.args.row (get_or c.args.machs.now k nan))) ≡ Ok tt
row_passed c = let l = c.loop-i.invariant in sym (up_end _ (omega (arith, l.filled.inside, c.requires.0)) (omega arith) l.made)

pub returns-clause-cells : goal.returns-clause-cells
returns-clause-cells c = filled_passed (row_passed (goal.at.returns-clause-cells c).After-loop-i) (rw c.requires.0 (fill_end nan _ c.loop-i.invariant.filled (omega arith)))

pub returns-clause-marks : goal.returns-clause-marks
returns-clause-marks c = filled_passed (row_passed (goal.at.returns-clause-marks c).After-loop-i) (rw c.requires.1 (fill_end 0 _ c.loop-i.invariant.marked (omega arith)))

pub loop-i-init : goal.loop-i-init
loop-i-init c = record { filled = fill_none _ _; marked = fill_none _ _; made = up_none _ }
