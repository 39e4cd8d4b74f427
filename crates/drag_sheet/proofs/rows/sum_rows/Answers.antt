-- `sum_rows` meets its contract: the part rows added up, then the finish's friction row, then the base row.
use mathlib.Core.Path.{◌≡◌, sym, ap, ◌∙◌}
use native.Mathlib.Omega.{arith}
use lib.ListN.{length}
use Rattle.sheet_data.specs.Tables.{tab_long}
use Rattle.drag_sheet.proofs.Sums.{add_there}
use Rattle.drag_sheet.proofs.rows.sum_rows.Goals as goal
use Rattle.drag_sheet.proofs.rows.sum_rows.Goals.{Start}

-- the sum has a cell for each column
sum_long : (s : Start) → length s.args.sum.now ≡ s.args.rows.layout.columns
sum_long s = ap length s.requires.1 ∙ tab_long _ _

pub add_row-requires : goal.add_row-requires
add_row-requires c = c.row.ensures.wide (omega arith) ∙ sym (sum_long (goal.at.add_row-requires c).Start)

pub add_row-requires-2 : goal.add_row-requires-2
add_row-requires-2 c = c.row-2.ensures.wide (omega (arith, c.base_row.ensures)) ∙ sym (c.add_row.auto.sum ∙ sum_long (goal.at.add_row-requires-2 c).Start)

pub returns : goal.returns
returns c =
    let first = add_there _ _ _ _ _ _ _ (c.row.ensures.cells (omega arith)) c.requires.1 c.add_row.ensures in
    add_there _ _ _ _ _ _ _ (rw c.base_row.ensures at (c.row-2.ensures.cells (omega (arith, c.base_row.ensures)))) first c.add_row-2.ensures
