-- `inserted` meets its contract.
use Rattle.std.proofs.Common.{rules, ◌≡◌, arith, length}
use Rattle.sheet_data.specs.Layout.{most_parts}
use Rattle.drag_sheet.proofs.Slots.{inserted_slots}
use Rattle.drag_sheet.proofs.Changed.{inserted_sheet}
use Rattle.drag_sheet.proofs.edits.inserted.Goals as goal

pub returns-clause-left : goal.returns-clause-left
returns-clause-left c =
    let s = c.args.sheet in
    let slots : length s.design.parts ≡ most_parts = search rules in
    inserted_sheet s slots (omega arith) c.args.place c.args.part _ (omega arith) (rw c.copy_from_slice.ensures.after (inserted_slots s.design.parts s.design.count c.args.place c.args.part (omega arith) (omega arith)))
