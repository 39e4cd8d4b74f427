-- `put_nozzle` meets its contract: the sheet with that nozzle diameter, its base and total rows written.
use Rattle.std.proofs.Common.{rules, ◌≡◌, length}
use Rattle.sheet_data.specs.Layout.{most_parts}
use Rattle.drag_sheet.specs.Writing.{overwritten}
use Rattle.drag_sheet.proofs.Changed.{nozzle_sheet}
use Rattle.drag_sheet.proofs.put_nozzle.Goals as goal

pub returns : goal.returns
unfolding overwritten
returns c =
    let slots : length c.args.sheet.design.parts ≡ most_parts = search rules in
    let f = c.write_nozzle_rows.ensures in
    let g = c.mark_nozzle_rows.ensures in
    record { sheet_left = nozzle_sheet c.args.sheet slots c.requires.0.parts c.args.nozzle_diameter; both = λ i. record { cells = f i; marks = g i } }
