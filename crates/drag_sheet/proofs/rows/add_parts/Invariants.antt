-- The loop of `add_parts`: the sum of the rows before this one.
use Rattle.std.specs.Prelude.{◌≡◌}
use Rattle.sheet_data.specs.Tables.{tab}
use Rattle.drag_sheet.specs.Formulas.{sum_to}
use Rattle.drag_sheet.specs.Planes.{cell_plane}
use Rattle.drag_sheet.specs.Writing.{there}
use Rattle.drag_sheet.proofs.rows.add_parts.Given as goal

abbrev pub invariant-loop-place : goal.invariant-loop-place
invariant-loop-place l = l.sum ≡ tab l.rows.layout.columns (λ k. sum_to l.place (λ i. there cell_plane l.rows.layout.columns l.rows.cells.now i k))
