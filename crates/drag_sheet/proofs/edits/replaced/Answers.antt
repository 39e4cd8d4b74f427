-- `replaced` meets its contract.
use Rattle.std.proofs.Common.{rules, ◌≡◌, length}
use Rattle.sheet_data.specs.Layout.{most_parts}
use Rattle.drag_sheet.proofs.Changed.{replaced_sheet}
use Rattle.drag_sheet.proofs.edits.replaced.Goals as goal

pub returns-clause-left : goal.returns-clause-left
returns-clause-left c = let slots : length c.args.sheet.design.parts ≡ most_parts = search rules in replaced_sheet c.args.sheet slots c.requires.1 c.args.place c.args.part c.requires.0
