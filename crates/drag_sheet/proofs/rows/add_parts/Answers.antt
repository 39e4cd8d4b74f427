-- `add_parts` meets its contract.
use native.Mathlib.Omega.{arith}
use mathlib.Core.Path.{sym, ◌∙◌}
use Rattle.elementary.specs.Constants.{0·0}
use Rattle.sheet_data.specs.Tables.{tab_same, tab_constant}
use Rattle.drag_sheet.proofs.Sums.{sum_none, there_more}
use Rattle.drag_sheet.proofs.rows.add_parts.Goals as goal

pub loop-place-init : goal.loop-place-init
loop-place-init c = c.requires ∙ tab_constant _ 0·0 ∙ tab_same _ _ _ (λ k h. sym (sum_none _))

pub loop-place-preserved : goal.loop-place-preserved
loop-place-preserved c = there_more _ _ _ _ _ _ (c.row.ensures.cells (omega arith)) c.loop-place.invariant c.add_row.ensures
