-- `clear` meets its contract.
use mathlib.Core.Path.{◌∙◌}
use Prim.Native.Nat.{ℕ}
use Rattle.drag_sheet.proofs.Taken.{zero_row}
use Rattle.drag_sheet.proofs.marks.clear.Goals as goal

pub returns : goal.returns
returns c = let none : ℕ = 0 in c.mark_totals.ensures ∙ rw (c.write_alike.ensures, zero_row c.args.layout.columns none c.args.layout.few.1)
