-- `write_friction` meets its contract: the row added up, put into its place.
use mathlib.Core.Path.{◌≡◌, ap, ◌∙◌}
use lib.ListN.{length}
use lib.Seq.{take_at}
use Rattle.sheet_data.specs.Contents.{contents_of}
use Rattle.sheet_data.specs.Tables.{tab_long}
use Rattle.drag_sheet.proofs.Laying.{placed}
use Rattle.drag_sheet.proofs.MadeRows.{friction_made}
use Rattle.drag_sheet.proofs.rows.write_friction.Goals as goal
use Rattle.drag_sheet.proofs.rows.write_friction.Goals.{After-sum_parts}

-- the sum has a cell for each column
sum_long : (c : After-sum_parts) → length c.sum_parts.new.sum ≡ c.args.sheet.now.settings.count
sum_long c = ap length c.sum_parts.ensures ∙ tab_long _ _

pub returns : goal.returns
returns c =
    c.write_row.ensures
    ∙ rw (take_at c.sum_parts.new.sum _ c.args.sheet.now.settings.count (sum_long (goal.at.returns c).After-sum_parts), c.sum_parts.ensures, (placed c.layout_of.ensures c.offset-at.ensures).place, friction_made (contents_of c.args.sheet.now) c.args.finish c.requires.1)
