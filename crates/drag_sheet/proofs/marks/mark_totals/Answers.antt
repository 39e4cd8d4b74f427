-- `mark_totals` meets its contract: every total has the same marks.
use mathlib.Core.Path.{ap, ◌∙◌}
use lib.ListN.{length}
use lib.Seq.{take_at}
use Rattle.sheet_data.specs.Tables.{tab_long}
use Rattle.drag_sheet.specs.Writing.{totalled}
use Rattle.drag_sheet.proofs.marks.mark_totals.Goals as goal

pub returns : goal.returns
unfolding totalled
returns c =
    c.write_alike.ensures ∙ rw (take_at c.take_parts.new.any _ c.args.layout.columns (ap length c.take_parts.ensures ∙ tab_long _ _), c.take_parts.ensures, c.total_row.ensures)
