-- `cell` meets its contract where a part widens: its curve's answer, times the area.
use Rattle.std.proofs.Common.{refl, sym, ◌∙◌}
use Rattle.aero_error.proofs.HandedOn.{handed_on}
use Rattle.drag_sheet.proofs.MadeCells.{byte_of, widening_made, widening_refused}
use Rattle.drag_sheet.proofs.part.cell.Goals as goal

pub returns-in_err-drag-in-Widening : goal.returns-in_err-drag-in-Widening
returns-in_err-drag-in-Widening c = rw (c.in-Widening.is, widening_refused _ _ _ (sym c.coefficient.ensures ∙ c.in_err-drag-in-Widening.was)) (handed_on _ _ c.from_residual.ensures)

pub returns-in_ok-drag-in-Widening : goal.returns-in_ok-drag-in-Widening
returns-in_ok-drag-in-Widening c = rw (c.in-Widening.is, widening_made _ _ _ (sym c.coefficient.ensures ∙ c.in_ok-drag-in-Widening.was), c.from.ensures, byte_of c.in_ok-drag-in-Widening.drag.beyond) refl
