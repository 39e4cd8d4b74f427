-- `write_totals` meets its contract.
use mathlib.Core.Path.{sym, ap, ◌∙◌}
use native.Mathlib.Omega.{arith}
use lib.ListN.{length}
use lib.Seq.{take_at}
use Rattle.sheet_data.specs.RowLaws.{rows_none, rows_end}
use Rattle.sheet_data.specs.Tables.{tab_long}
use Rattle.drag_sheet.specs.Writing.{totalled}
use Rattle.drag_sheet.proofs.MadeRows.{parts_same, above_kept, total_next}
use Rattle.drag_sheet.proofs.rows.write_totals.Goals as goal

pub write_total-requires : goal.write_total-requires
write_total-requires c =
    let l = c.args.layout in
    let at = c.loop-finish in
    let sums = take_at c.add_parts.new.sum _ l.columns (ap length c.add_parts.ensures ∙ tab_long _ _) in
    let kept = above_kept l.finishes l.columns at.finish c.args.cells.now at.cells at.invariant c.requires (omega arith) in
    (c.loop-finish-test.true, omega (arith, c.requires, at.invariant.long), sums ∙ c.add_parts.ensures ∙ parts_same l.columns _ _ (λ r h. sym (kept r (omega arith))))

pub loop-finish-preserved : goal.loop-finish-preserved
loop-finish-preserved c =
    let at = c.loop-finish in
    let w = c.write_total in
    total_next c.args.layout.finishes c.args.layout.columns at.finish c.args.cells.now at.cells w.new.cells at.invariant c.requires c.loop-finish-test.true w.auto.cells w.ensures

pub returns : goal.returns
unfolding totalled
returns c = rows_end c.loop-finish.invariant (omega arith)

pub loop-finish-init : goal.loop-finish-init
loop-finish-init c = rows_none _ _ _ _ _
