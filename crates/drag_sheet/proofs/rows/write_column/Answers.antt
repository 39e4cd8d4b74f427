-- `write_column` meets its contract.
use mathlib.Core.Path.{◌∙◌}
use native.Mathlib.Omega.{arith}
use Rattle.std.proofs.lemmas.List.{get_or_default}
use Rattle.sheet_data.specs.RowLaws.{rows_none}
use Rattle.drag_sheet.proofs.Laying.{put_next}
use Rattle.drag_sheet.proofs.rows.write_column.Goals as goal

pub loop-row-preserved : goal.loop-row-preserved
loop-row-preserved g c =
    let o = c.offset-at in
    let at = c.loop-row in
    λ d. rw (c.index-values-row.is ∙ get_or_default c.args.values.now c.loop-row.row c.index-values-row.result d (omega (arith, c.loop-row-test.true))) (put_next d c.args.column c.args.layout.finishes c.args.layout.columns c.args.values.now c.args.cells.now at.cells at.row o.result (at.invariant d) o.ensures.place c.requires.0 c.requires.1 (omega (arith, c.loop-row-test.true)))

pub loop-row-init : goal.loop-row-init
loop-row-init g c = λ d. rows_none _ _ _ _ _
