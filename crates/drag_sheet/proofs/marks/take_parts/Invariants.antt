-- The loop of `take_parts`: the marks of the rows before this one are taken.
use Rattle.std.specs.Prelude.{◌≡◌}
use Rattle.sheet_data.specs.Tables.{tab}
use Rattle.drag_sheet.specs.Formulas.{any_to}
use Rattle.drag_sheet.specs.Planes.{mark_plane}
use Rattle.drag_sheet.specs.Writing.{there}
use Rattle.drag_sheet.proofs.marks.take_parts.Given as goal

abbrev pub invariant-loop-place : goal.invariant-loop-place
invariant-loop-place l = l.any ≡ tab l.rows.layout.columns (λ k. any_to l.place (λ i. there mark_plane l.rows.layout.columns l.rows.cells.now i k))
