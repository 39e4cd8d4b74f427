-- `add_part` meets its contract.
use Rattle.std.proofs.Common.{rules}
use Rattle.std.specs.Float.{nan}
use Rattle.drag_sheet.proofs.Each.{each_tab}
use Rattle.drag_sheet.proofs.friction.add_part.Goals as goal

pub returns : goal.returns
returns c = each_tab nan nan (λ k r e. search rules) c.each_cell.ensures
