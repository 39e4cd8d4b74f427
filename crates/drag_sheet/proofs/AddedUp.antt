-- The friction row as the code adds it up: what is added for a part is the formula's, where none has a roughness of its own (`common_added`) and where some have, with
-- the flow of each column worked out once (`own_added`).
use Rattle.std.specs.Prelude.{Result, is_some, Some, Option, None}
use Rattle.aero_error.specs.Checks.{Coefficient}
use mathlib.Core.Path.{◌≡◌, refl, sym, ap, ◌∙◌}
use mathlib.Core.Logic.{inl}
use Rattle.std.proofs.Math.Bool.{or-true}
use mathlib.Core.Bool.{true, false, false≢true}
use mathlib.Core.List.{List, [], ◌∷◌}
use Prim.Native.Nat.{ℕ, zero, suc, ◌<◌}
use native.Mathlib.Nat.{not-suc-le-zero, le_of_suc-le-suc}
use lib.ListN.{length, get_or, take}
use lib.Seq.{get_or-take}
use lib.Ieee.{Float, nan}
use Rattle.elementary.specs.Arithmetic.{◌⊗◌}
use Rattle.aero_error.specs.declared.AeroError.{AeroError}
use Rattle.drag.specs.declared.Wall.{Wall}
use Rattle.drag.specs.declared.Flow.{Flow}
use Rattle.drag.specs.Friction.{wall_of, friction_on, body_friction_form_factor, on_wall_lem}
use Rattle.drag.specs.Flows.{friction_in, in_flow}
use Rattle.sheet_data.specs.declared.Settings.{Settings}
use Rattle.sheet_data.specs.declared.Part.{Part}
use Rattle.sheet_data.specs.Contents.{Contents, part_at, roughness_at, mach_at, reynolds_at}
use Rattle.sheet_data.specs.Tables.{tab, tab_long, tab_at, tab_same}
use Rattle.drag_sheet.specs.Formulas.{value_of, roughness_of, formed_friction, sum_to, friction_cell}
use Rattle.drag_sheet.specs.Body.{friction_row_cells, any_own, flow_at, Flows, formed, formed_for}
use Rattle.drag_sheet.specs.Formulas.{sum_same}

-- a part with a roughness of its own is seen
seen : (ps : List Part) (i : ℕ) → i < length ps → is_some (part_at ps i).roughness ≡ true → any_own ps ≡ true
seen [] i h e = absurd (not-suc-le-zero h)
seen (p ∷ ps) zero h e = rw e refl
seen (p ∷ ps) (suc i) h e = rw (seen ps i (le_of_suc-le-suc h) e) (or-true (is_some p.roughness))

-- so where none is seen, each part's roughness is the settings'
not_own : (ps : List Part) (i : ℕ) (k : Float) → i < length ps → any_own ps ≡ false → roughness_of (part_at ps i).roughness k ≡ k
not_own ps i k h none = by_case (part_at ps i).roughness refl
  where
    by_case : (r : Option Float) → (part_at ps i).roughness ≡ r → roughness_of r k ≡ k
    by_case None q = refl
    by_case (Some x) q = absurd (false≢true (sym none ∙ seen ps i h (ap is_some q)))

-- ---- what is added for a part

module _ (s : Settings) (flows : List (Result Flow AeroError)) (F : Flows s flows) where
  on_flow : (x : Float) (k : ℕ) → k < s.count → formed (wall_of x) (value_of (body_friction_form_factor s.body_fineness)) (flow_at flows k) ≡ formed_friction s x (mach_at s k) (reynolds_at s k)
  on_flow x k h =
      ap (λ (c : Coefficient). value_of c ⊗ value_of (body_friction_form_factor s.body_fineness))
      (ap (friction_in (wall_of x)) (F.at k h) ∙ in_flow (wall_of x) true (reynolds_at s k) (mach_at s k) (inl refl) ∙ on_wall_lem x (reynolds_at s k) (mach_at s k))

  formed_is : (a : Float) (r : Option Float) (common : Float) (k : ℕ) → k < s.count → common ≡ formed (wall_of a) (value_of (body_friction_form_factor s.body_fineness)) (flow_at flows k)
      → formed_for r common (value_of (body_friction_form_factor s.body_fineness)) (flow_at flows k) ≡ formed_friction s (roughness_of r a) (mach_at s k) (reynolds_at s k)
  formed_is a None common k h e = e ∙ on_flow a k h
  formed_is a (Some x) common k h e = on_flow x k h

-- the columns that count, each asked once
pub once_filled : (s : Settings) (a : Float) (wall : Wall) (form : Float) → wall ≡ wall_of a → form ≡ value_of (body_friction_form_factor s.body_fineness)
    → tab s.count (λ k. value_of (friction_on wall (get_or (take s.count s.reynolds) k nan) (get_or (take s.count s.machs) k nan)) ⊗ form) ≡ tab s.count (λ k. formed_friction s a (mach_at s k) (reynolds_at s k))
once_filled s a wall form e q =
    tab_same s.count _ _ (λ k h.
    rw (get_or-take s.count s.reynolds k nan h, get_or-take s.count s.machs k nan h, e, q)
    (ap (λ (c : Coefficient). value_of c ⊗ value_of (body_friction_form_factor s.body_fineness)) (on_wall_lem a (reynolds_at s k) (mach_at s k))))

-- ---- the row added up is the row of the formula, in finish j

module _ (c : Contents) (j : ℕ) where
  abbrev s : Settings
  s = c.settings

  abbrev ps : List Part
  ps = c.parts

  -- from what is added for each part at each column
  added : (common : List Float) (f : ℕ → ℕ → Float) → length common ≡ c.settings.count
      → ((k i : ℕ) → k < c.settings.count → i < length c.parts → f k i ≡ formed_friction c.settings (roughness_of (part_at c.parts i).roughness (roughness_at c.settings j)) (mach_at c.settings k) (reynolds_at c.settings k))
      → tab (length common) (λ k. sum_to (length c.parts) (λ i. f k i ⊗ (part_at c.parts i).wetted_ratio)) ≡ friction_row_cells c j
  unfolding friction_cell
  added common f long same =
      rw long (tab_same s.count _ _ (λ k h. sum_same (length ps) _ _ (λ i l. ap (λ (x : Float). x ⊗ (part_at ps i).wetted_ratio) (same k i h l))))

  pub own_added : (flows : List (Result Flow AeroError)) (form : Float) (common : List Float) → form ≡ value_of (body_friction_form_factor c.settings.body_fineness) → Flows c.settings flows
      → common ≡ tab c.settings.count (λ k. formed (wall_of (roughness_at c.settings j)) form (flow_at flows k))
      → tab (length common) (λ k. sum_to (length c.parts) (λ i. formed_for (part_at c.parts i).roughness (get_or common k nan) form (flow_at flows k) ⊗ (part_at c.parts i).wetted_ratio)) ≡ friction_row_cells c j
  own_added flows form common e F q =
      added common (λ k i. formed_for (part_at ps i).roughness (get_or common k nan) form (flow_at flows k)) (ap length q ∙ tab_long s.count _)
      (λ k i h l. rw e (formed_is s flows F (roughness_at s j) (part_at ps i).roughness (get_or common k nan) k h (ap (λ (xs : List Float). get_or xs k nan) q ∙ tab_at s.count _ nan k h ∙ rw e)))

  pub common_added : (common : List Float) → any_own c.parts ≡ false → common ≡ tab c.settings.count (λ k. formed_friction c.settings (roughness_at c.settings j) (mach_at c.settings k) (reynolds_at c.settings k))
      → tab (length common) (λ k. sum_to (length c.parts) (λ i. get_or common k nan ⊗ (part_at c.parts i).wetted_ratio)) ≡ friction_row_cells c j
  common_added common none q =
      added common (λ k i. get_or common k nan) (ap length q ∙ tab_long s.count _)
      (λ k i h l. ap (λ (xs : List Float). get_or xs k nan) q ∙ tab_at s.count _ nan k h ∙ rw (not_own ps i (roughness_at s j) l none))
