-- `write_alike` meets its contract.
use mathlib.Core.Path.{◌∙◌}
use native.Mathlib.Omega.{arith}
use Rattle.sheet_data.specs.RowLaws.{rows_none, rows_next, rows_end}
use Rattle.drag_sheet.proofs.marks.write_alike.Goals as goal

pub loop-number-preserved : goal.loop-number-preserved
loop-number-preserved c =
    let w = c.write_row in
    rows_next c.loop-number.invariant _ c.loop-number-test.true w.auto.cells (w.ensures ∙ rw c.offset.ensures.place)

pub loop-number-init : goal.loop-number-init
loop-number-init c = rows_none _ _ _ _ _

pub returns : goal.returns
returns c = rows_end c.loop-number.invariant (omega arith)
