-- `write_frictions` meets its contract.
use mathlib.Core.Path.{◌≡◌, ◌∙◌}
use Prim.Native.Nat.{◌+◌}
use native.Mathlib.Omega.{arith}
use Rattle.sheet_data.specs.Layout.{friction_row}
use Rattle.sheet_data.specs.RowLaws.{rows_none, rows_next}
use Rattle.drag_sheet.proofs.rows.write_frictions.Goals as goal

pub loop-finish-preserved : goal.loop-finish-preserved
loop-finish-preserved c =
    let at = c.loop-finish in
    let w = c.write_friction in
    let here : friction_row 0 + at.finish ≡ friction_row at.finish = omega arith in
    rows_next at.invariant _ c.loop-finish-test.true w.auto.cells (w.ensures ∙ rw here)

pub loop-finish-init : goal.loop-finish-init
loop-finish-init c = rows_none _ _ _ _ _
