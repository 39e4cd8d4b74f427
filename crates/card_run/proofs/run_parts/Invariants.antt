-- The loop of `run_parts`: at each turn all the part cards from there on come to what all of them came to at the start.
use Rattle.std.specs.Prelude.{◌≡◌, ◌-◌, length}
use Rattle.sheet_data.specs.Contents.{Fits}
use Rattle.drag_sheet.specs.Planes.{lent, cells_lent}
use Rattle.card_run.specs.Run.{all_part_cards}
use Rattle.card_run.proofs.run_parts.Given as goal

abbrev pub invariant-loop-at : goal.invariant-loop-at
invariant-loop-at l = record {
  long : (length l.cells ≡ length l.initial.cells) × (length l.marks ≡ length l.initial.marks);
  fits : Fits l.sheet (cells_lent (lent l.cells l.marks));
  same : all_part_cards l.s l.start l.initial.sheet (lent l.initial.cells l.initial.marks) ≡ all_part_cards l.s l.at l.sheet (lent l.cells l.marks);
}

abbrev pub decreases-loop-at : goal.decreases-loop-at
decreases-loop-at l = length l.s - l.at
