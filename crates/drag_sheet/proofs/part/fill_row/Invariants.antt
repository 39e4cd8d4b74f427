-- The loop of `fill_row`: the cells before i are made, and their marks.
use Rattle.std.specs.Prelude.{◌≡◌, get_or, Ok}
use Rattle.std.specs.Float.{nan}
use Rattle.aero_error.specs.Checks.{up_to}
use Rattle.sheet_data.specs.Tables.{Filling}
use Rattle.drag_sheet.specs.Formulas.{cell_of, mark_of, value_of, made_test}
use Rattle.drag_sheet.proofs.part.fill_row.Given as goal

abbrev pub invariant-loop-i : goal.invariant-loop-i
invariant-loop-i l = record {
  filled : Filling (λ k. value_of (cell_of l.row (get_or l.machs k nan))) l.initial.out l.out l.i;
  marked : Filling (λ k. mark_of l.row (get_or l.machs k nan)) l.initial.marks l.marks l.i;
  made : up_to l.i (λ k. made_test (cell_of l.row (get_or l.machs k nan))) ≡ Ok tt;
}
