-- `removed` meets its contract.
use Rattle.std.proofs.Common.{rules, ◌≡◌, arith, length}
use Rattle.sheet_data.specs.Layout.{most_parts}
use Rattle.drag_sheet.proofs.Slots.{removed_slots}
use Rattle.drag_sheet.proofs.Changed.{removed_sheet}
use Rattle.drag_sheet.proofs.edits.removed.Goals as goal

pub returns-clause-left : goal.returns-clause-left
returns-clause-left c =
    let s = c.args.sheet in
    let slots : length s.design.parts ≡ most_parts = search rules in
    removed_sheet s slots c.requires.1 c.args.place _ c.requires.0 (rw c.copy_from_slice.ensures.after (removed_slots s.design.parts s.design.count c.args.place (omega arith) (omega arith)))
