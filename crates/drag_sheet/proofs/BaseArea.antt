-- What the nozzle diameter does to the base. Its share of the reference area: "d×d - n×n over D×D, and +0 when n is above d", computed at points on either side of d; and
-- coasting, with n = 0, the share and the tests of document 01.
use mathlib.Core.Path.{◌≡◌, refl, ap, ◌∙◌}
use mathlib.Core.Bool.{true, false}
use mathlib.Core.List.{List, [], ◌∷◌, map}
use Prim.Native.Nat.{ℕ}
use lib.Dec.{ltb}
use lib.Ieee.{Float, binary64, neg, sum, add, sub, mul, div, round, of_bits, lt, le, eq}
use lib.Ieee.Fits.{mul-fits, and_l}
use Rattle.elementary.specs.Arithmetic.{◌⊖◌, ◌⊗◌, ◌⊘◌, ◌≺◌, ◌≼◌, bits}
use Rattle.elementary.specs.Tests.{between}
use Rattle.elementary.specs.Constants.{0·0, 1·0, 2·0}
use Rattle.elementary.specs.Order.{not_above}
use Rattle.elementary.proofs.Floats.{true_t}
use Rattle.elementary.proofs.ZeroWeight.{minus_zero}
use Rattle.aero_error.specs.declared.Rule.TheVariants.{DesignFull}
use Rattle.aero_error.specs.Checks.{◌then◌, unless}
use Rattle.drag.specs.Pressure.{base_drag_coefficient}
use Rattle.sheet_data.specs.Layout.{most_parts}
use Rattle.sheet_data.specs.Contents.{Contents}
use Rattle.sheet_data.specs.Tests.{100·0, settings_test, parts_test, sheet_test}
use Rattle.drag_sheet.specs.Formulas.{value_of, base_ratio, last_diameter, base_cell}
use Rattle.drag_sheet.proofs.TestsKept.{zero_passes, Tested}
use Rattle.drag_sheet.proofs.OnlyCurves.{last_inside}

-- ---- the base's share of the reference area

-- d, n and D: a nozzle smaller than the base, as large, larger, and none
abbrev points : List (Float × Float × Float)
points = (2·0, 1·0, 2·0) ∷ (1·0, 1·0, 1·0) ∷ (1·0, 2·0, 1·0) ∷ (2·0, bits 0x8000_0000_0000_0000, 2·0) ∷ []

pub shares : map (λ p. base_ratio p.0 p.1 p.2) points ≡ bits 0x3fe8_0000_0000_0000 ∷ 0·0 ∷ 0·0 ∷ 1·0 ∷ []  -- 0.75, 0, 0, 1
unfolding base_ratio sub add neg sum mul div round lt le eq of_bits
shares = refl

-- and for every d, n and D
module _ (d n D : Float) where
  pub nozzle_above : (d ≺ n) ≡ true → base_ratio d n D ≡ 0·0
  unfolding base_ratio
  nozzle_above h = rw h

  pub nozzle_within : (d ≺ n) ≡ false → base_ratio d n D ≡ (d ⊗ d ⊖ n ⊗ n) ⊘ (D ⊗ D)
  unfolding base_ratio
  nozzle_within h = rw h

-- ---- coasting

no_nozzle : 0·0 ⊗ 0·0 ≡ 0·0
unfolding mul round of_bits
no_nozzle = refl

-- the tests of a sheet given are those of document 01
pub coasting_tests : (c : Contents) (cells count : ℕ) → c.nozzle ≡ 0·0 → sheet_test c cells count ≡ (settings_test c.settings cells then unless (ltb most_parts count) DesignFull then parts_test c.parts)
unfolding sheet_test
coasting_tests c cells count n = rw (n, zero_passes)

-- the share is that of document 01, of every d that isn't below 0
pub coasting_ratio : (d D : Float) → (d ≺ 0·0) ≡ false → base_ratio d 0·0 D ≡ d ⊗ d ⊘ (D ⊗ D)
coasting_ratio d D h = nozzle_within d 0·0 D h ∙ ap (λ (x : Float). x ⊘ (D ⊗ D)) (ap (λ (z : Float). d ⊗ d ⊖ z) no_nozzle ∙ minus_zero (d ⊗ d) (mul-fits binary64 d d))

-- at or above 0
not_below : (x high : Float) → between 0·0 x high ≡ true → (x ≺ 0·0) ≡ false
unfolding between
not_below x high h = not_above 0·0 x (and_l (0·0 ≼ x) (x ≼ high) (true_t h))

-- and so is the cell of contents that pass their tests: "base drag at M × ((last d × last d)/(D×D)), last d being 0 without parts"
pub coasting_base : (c : Contents) (cells : ℕ) (M : Float) → Tested c cells → c.nozzle ≡ 0·0
    → base_cell c M ≡ value_of (base_drag_coefficient M) ⊗ (last_diameter c ⊗ last_diameter c ⊘ (c.settings.reference_diameter ⊗ c.settings.reference_diameter))
unfolding base_cell
coasting_base c cells M t n = rw (n, coasting_ratio (last_diameter c) c.settings.reference_diameter (not_below (last_diameter c) 100·0 (last_inside c cells t)))
