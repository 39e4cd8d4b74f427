-- `take_row` meets its contract.
use Rattle.std.proofs.Common.{rules}
use Rattle.drag_sheet.proofs.Each.{each_tab}
use Rattle.drag_sheet.proofs.marks.take_row.Goals as goal

pub returns : goal.returns
returns c = each_tab 0 0 (λ k r e. search rules) c.each_cell.ensures
