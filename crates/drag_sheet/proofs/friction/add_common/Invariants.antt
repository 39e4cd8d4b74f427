-- The loops of `add_common`: the frictions of the parts before this one are added, by four and then one by one.
use Rattle.std.specs.Prelude.{◌≡◌, List, ℕ, ◌+◌, ◌*◌, ◌/◌, length, get_or, Float}
use Rattle.std.specs.Float.{nan}
use Rattle.elementary.specs.Arithmetic.{◌⊗◌}
use Rattle.sheet_data.specs.declared.Part.{Part}
use Rattle.sheet_data.specs.Contents.{part_at}
use Rattle.sheet_data.specs.Tables.{tab}
use Rattle.drag_sheet.specs.Formulas.{sum_to}
use Rattle.drag_sheet.proofs.friction.add_common.Given as goal

-- of the parts before the place the frictions are added
abbrev pub Added : List Float → List Part → List Float → ℕ → Type 0
Added common parts sum place = sum ≡ tab (length common) (λ k. sum_to place (λ i. get_or common k nan ⊗ (part_at parts i).wetted_ratio))

abbrev pub invariant-loop-four : goal.invariant-loop-four
invariant-loop-four l = Added l.common l.parts l.sum (4 * l.four-index)

abbrev pub invariant-loop-part : goal.invariant-loop-part
invariant-loop-part l = Added l.common l.parts l.sum (length l.parts / 4 * 4 + l.part-index)
