-- What the sum of the frictions means. "A sum by place from +0": without parts it is +0, and a part put last adds its own friction to what stood (`no_parts`, `one_more`).
-- "At that part's roughness; absent, it is the settings' one": with every roughness written out the friction stays, whatever roughness the settings have in that finish then (`written_out`).
use Rattle.std.specs.Prelude.{Some, Option, None}
use mathlib.Core.Path.{◌≡◌, refl, ap}
use mathlib.Core.List.{List, [], ◌∷◌, ◌++◌}
use Prim.Native.Nat.{ℕ, ◌+◌, ◌<◌}
use native.Mathlib.Omega.{arith}
use lib.ListN.{length, length-append, get_or-append}
use lib.Seq.{get_or-append_seam}
use lib.Ieee.{Float}
use Rattle.elementary.specs.Arithmetic.{◌⊕◌}
use Rattle.elementary.specs.Constants.{0·0}
use Rattle.sheet_data.specs.declared.Settings.{Settings}
use Rattle.sheet_data.specs.declared.Part.{Part}
use Rattle.sheet_data.specs.Contents.{no_part, part_at, roughness_at}
use Rattle.drag_sheet.specs.Formulas.{roughness_of, part_friction, friction_cell}
use Rattle.drag_sheet.proofs.Sums.{sum_none, sum_more}
use Rattle.drag_sheet.specs.Formulas.{sum_same}

module _ (s : Settings) (j : ℕ) (n M R : Float) where
  pub no_parts : friction_cell (record { settings = s; parts = []; nozzle = n }) j M R ≡ 0·0
  unfolding friction_cell
  no_parts = sum_none _

  pub one_more : (ps : List Part) (p : Part) → friction_cell (record { settings = s; parts = ps ++ (p ∷ []); nozzle = n }) j M R ≡ friction_cell (record { settings = s; parts = ps; nozzle = n }) j M R ⊕ part_friction s j p M R
  unfolding friction_cell
  one_more ps p =
      let long : length (ps ++ (p ∷ [])) ≡ length ps + 1 = simp length-append (omega arith) in
      rw (long, sum_more (length ps) (λ i. part_friction s j (part_at (ps ++ (p ∷ [])) i) M R), get_or-append_seam ps p [] no_part)
      (ap (λ (x : Float). x ⊕ part_friction s j p M R) (sum_same (length ps) _ _ (λ i h. ap (λ (q : Part). part_friction s j q M R) (get_or-append ps (p ∷ []) no_part i h))))

-- a roughness written out, k being the settings'
abbrev written_as : Option Float → Float → Option Float
written_as None k = Some k
written_as (Some x) k = Some x

-- the same part with its roughness written out
pub record WrittenOut (k : Float) (p q : Part) : Type 0 where
  pub wetted : q.wetted_ratio ≡ p.wetted_ratio
  pub roughness : q.roughness ≡ written_as p.roughness k

same_roughness : (r : Option Float) (k other : Float) → roughness_of (written_as r k) other ≡ roughness_of r k
same_roughness None k other = refl
same_roughness (Some x) k other = refl

pub written_out : (s t : Settings) (j : ℕ) (ps qs : List Part) (n M R : Float) → t.body_fineness ≡ s.body_fineness → length qs ≡ length ps
    → ((i : ℕ) → i < length ps → WrittenOut (roughness_at s j) (part_at ps i) (part_at qs i)) → friction_cell (record { settings = t; parts = qs; nozzle = n }) j M R ≡ friction_cell (record { settings = s; parts = ps; nozzle = n }) j M R
unfolding friction_cell
written_out s t j ps qs n M R B long out =
    rw long (sum_same (length ps) _ _ (λ i h. rw (B, (out i h).wetted, (out i h).roughness, same_roughness (part_at ps i).roughness (roughness_at s j) (roughness_at t j))))
