-- `take_parts` meets its contract.
use native.Mathlib.Omega.{arith}
use mathlib.Core.Path.{sym, ◌∙◌}
use Rattle.sheet_data.specs.Tables.{tab_same, tab_constant}
use Rattle.drag_sheet.proofs.MarkRows.{any_none, any_there_more}
use Rattle.drag_sheet.proofs.marks.take_parts.Goals as goal

pub loop-place-init : goal.loop-place-init
loop-place-init c = c.requires ∙ tab_constant _ 0 ∙ tab_same _ _ _ (λ k h. sym (any_none _))

pub loop-place-preserved : goal.loop-place-preserved
loop-place-preserved c = any_there_more _ _ _ _ _ _ (c.row.ensures.cells (omega arith)) c.loop-place.invariant c.take_row.ensures
