-- `fill_on` meets its contract.
use Rattle.std.proofs.Common.{rules}
use Rattle.std.specs.Float.{nan}
use Rattle.drag_sheet.specs.Body.{no_flow}
use Rattle.drag_sheet.proofs.Each.{each_tab}
use Rattle.drag_sheet.proofs.friction.fill_on.Goals as goal

pub returns : goal.returns
returns c = each_tab nan no_flow (λ k r e. search rules) c.each_cell.ensures
