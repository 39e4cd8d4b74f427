-- A sheet of F finishes side by side. "Part rows and base are shared": with each of its finishes it is the sheet of one finish that has that roughness (`side_by_side`), and of
-- one finish the rows are those of document 01 (`one_finish`). "A part's own roughness holds in every finish" (`own_everywhere`).
use Rattle.std.specs.Prelude.{is_some, Some, Option, None}
use mathlib.Core.Path.{◌≡◌, refl}
use mathlib.Core.Bool.{true, false≢true}
use mathlib.Core.List.{[], ◌∷◌}
use Prim.Native.Nat.{ℕ, ◌-◌, ◌<◌}
use native.Mathlib.Omega.{arith}
use lib.ListN.{length}
use lib.Ieee.{Float}
use Rattle.sheet_data.specs.declared.Settings.{Settings}
use Rattle.sheet_data.specs.Layout.{friction_row, base_row, total_row}
use Rattle.sheet_data.specs.Contents.{Contents, part_at, roughness_at}
use Rattle.drag_sheet.specs.Formulas.{any_to, roughness_of, friction_cell, base_cell}
use Rattle.drag_sheet.specs.Planes.{Plane, total_of, cell_plane, mark_plane}
use Rattle.drag_sheet.specs.Build.{part, friction, base, total, kind_at, kind_cell, part_cell, cell_at}
use Rattle.drag_sheet.specs.Formulas.{sum_same}
use Rattle.drag_sheet.proofs.RowKinds.{kind_part, kind_friction, kind_base, kind_total}

-- "16 part rows, friction, base, total"
pub one_finish : (r : ℕ) → r < 16 → (kind_at 1 r ≡ part r) × (kind_at 1 16 ≡ friction 0) × (kind_at 1 17 ≡ base) × (kind_at 1 18 ≡ total 0)
one_finish r h = (kind_part 1 r h, kind_friction 1 0 (omega arith), kind_base 1, kind_total 1 18 (omega arith))

-- settings with the roughness of finish j alone
abbrev pub alone : Settings → ℕ → Settings
alone s j = record {
  reference_diameter = s.reference_diameter;
  finishes = 1;
  roughnesses = roughness_at s j ∷ [];
  body_fineness = s.body_fineness;
  count = s.count;
  machs = s.machs;
  reynolds = s.reynolds;
}

module _ (c : Contents) (j : ℕ) (h : j < c.settings.finishes) where
  abbrev pub single : Contents
  single = record { settings = alone c.settings j; parts = c.parts; nozzle = c.nozzle }

  -- the rows of the sheet, in column k, that finish j has: each is the row of the sheet of that finish alone, in either plane
  pub record SideBySide {A : Type 0} (P : Plane A) (k : ℕ) : Type 0 where
    pub parts : (i : ℕ) → i < 16 → cell_at P c i k ≡ cell_at P single i k
    pub friction : cell_at P c (friction_row j) k ≡ cell_at P single 16 k
    pub base : cell_at P c (base_row c.settings.finishes) k ≡ cell_at P single 17 k
    pub total : cell_at P c (total_row c.settings.finishes j) k ≡ cell_at P single 18 k

  pub side_by_side : {A : Type 0} (P : Plane A) (k : ℕ) → SideBySide P k
  unfolding kind_cell part_cell friction_cell base_cell
  side_by_side P k =
      let F = c.settings.finishes in
      let last : total_row F j - total_row F 0 ≡ j = omega arith in
      record {
        parts = λ i l. rw (kind_part F i l, kind_part 1 i l);
        friction = rw (kind_friction F j h) refl;
        base = rw (kind_base F) refl;
        total = rw (kind_total F (total_row F j) (omega arith), last) refl;
      }

  -- a total is of the part rows, of the friction of finish j and of the base
  totals_rows : {A : Type 0} (P : Plane A) (k : ℕ) → cell_at P c (total_row c.settings.finishes j) k ≡ P.of_total (λ i. cell_at P c i k) (cell_at P c (friction_row j) k) (cell_at P c (base_row c.settings.finishes) k)
  unfolding kind_cell
  totals_rows P k =
      let F = c.settings.finishes in
      let last : total_row F j - total_row F 0 ≡ j = omega arith in
      rw (kind_total F (total_row F j) (omega arith), last, kind_friction F j h, kind_base F)
      (P.total_same _ _ _ _ (λ i l. rw (kind_part F i l) refl))

  -- "+0, plus all 16 part rows by place, plus friction, plus base", the friction being that of finish j
  pub total_adds : (k : ℕ) → cell_at cell_plane c (total_row c.settings.finishes j) k
      ≡ total_of (λ i. cell_at cell_plane c i k) (cell_at cell_plane c (friction_row j) k) (cell_at cell_plane c (base_row c.settings.finishes) k)
  total_adds k = totals_rows cell_plane k

  -- "a total has one if a part mark of its column isn't 0"
  pub total_marked : (k : ℕ) → cell_at mark_plane c (total_row c.settings.finishes j) k ≡ any_to 16 (λ i. cell_at mark_plane c i k)
  total_marked k = totals_rows mark_plane k

  -- "Friction, base .. have none"
  pub unmarked : (k : ℕ) → (cell_at mark_plane c (friction_row j) k ≡ 0) × (cell_at mark_plane c (base_row c.settings.finishes) k ≡ 0)
  unfolding kind_cell
  unmarked k = (rw (kind_friction c.settings.finishes j h), rw (kind_base c.settings.finishes))

-- where each part has a roughness of its own, the friction is the same in every two finishes
pub own_everywhere : (c : Contents) (i j : ℕ) (M R : Float) → ((p : ℕ) → p < length c.parts → is_some (part_at c.parts p).roughness ≡ true) → friction_cell c i M R ≡ friction_cell c j M R
unfolding friction_cell
own_everywhere c i j M R own = sum_same (length c.parts) _ _ (λ p h. rw (own_in (part_at c.parts p).roughness (roughness_at c.settings i) (roughness_at c.settings j) (own p h)) refl)
  where
    own_in : (r : Option Float) (k l : Float) → is_some r ≡ true → roughness_of r k ≡ roughness_of r l
    own_in None k l e = absurd (false≢true e)
    own_in (Some x) k l e = refl
