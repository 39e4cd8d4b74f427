-- The loop of `add_by_place`: the frictions of the parts before this one are added.
use Rattle.std.specs.Prelude.{◌≡◌, length, get_or}
use Rattle.std.specs.Float.{nan}
use Rattle.elementary.specs.Arithmetic.{◌⊗◌}
use Rattle.sheet_data.specs.Contents.{part_at}
use Rattle.sheet_data.specs.Tables.{tab}
use Rattle.drag_sheet.specs.Formulas.{sum_to}
use Rattle.drag_sheet.specs.Body.{flow_at, formed_for}
use Rattle.drag_sheet.proofs.friction.add_by_place.Given as goal

abbrev pub invariant-loop-part : goal.invariant-loop-part
invariant-loop-part l = l.sum ≡ tab (length l.common) (λ k. sum_to l.part-index (λ i. formed_for (part_at l.fn.parts i).roughness (get_or l.common k nan) l.form (flow_at l.flows k) ⊗ (part_at l.fn.parts i).wetted_ratio))
