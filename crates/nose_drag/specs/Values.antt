-- Where the code takes a shorter way than a definition: the value alone where a coefficient asks no slope, a root that is known. The laws say that either
-- way gives the same number.
use Rattle.std.specs.Prelude.{◌≡◌, refl, Bool, true, false, cond, Float}
use Rattle.std.specs.Float.Ieee.{of_bits, of_int, round, sum, neg, add, sub, mul}
use Rattle.elementary.specs.Arithmetic.{◌⊕◌, ◌⊖◌, ◌⊗◌, ◌⊘◌, ◌≺◌, ◌≼◌, bits}
use Rattle.elementary.specs.Steps.{SQRT, sqrt_steps}
use Rattle.elementary.specs.Split.{split_of}
use Rattle.elementary.specs.Root.{root_of}
use Rattle.elementary.specs.Constants.{0·0, 0·5, 1·0}
use Rattle.drag.specs.Constants.{0·85}
use Rattle.drag.specs.Pressure.{stagnation_ratio}
use Rattle.stoney.specs.declared.ValueAndSlope.{ValueAndSlope}
use Rattle.nose_drag.specs.Constants.{2·1, cone_supersonic_mach}
use Rattle.nose_drag.specs.Forms.{blunt, cone_supersonic, sin_half_angle, cone_method}
use Rattle.nose_drag.specs.Below.{fitted}
use Rattle.nose_drag.specs.Methods.{fineness_scaled, mixed, scaled, whole_cone}

-- ---- the root of eq. B.4

-- eq. B.4 with its root
unfoldable pub cone_by_root : Float → Float → Float → ValueAndSlope
cone_by_root s M root = record { value = 2·1 ⊗ s ⊗ s ⊕ 0·5 ⊗ s ⊘ root; slope = neg 0·5 ⊗ s ⊗ M ⊘ (root ⊗ root ⊗ root) }

pub cone_by_root_lem : (s M : Float) → cone_supersonic s M ≡ cone_by_root s M (SQRT (M ⊗ M ⊖ 1·0))
unfolding cone_supersonic cone_by_root
cone_by_root_lem s M = refl

-- at Mach 1.3, by computing
pub cone_supersonic_root : SQRT (cone_supersonic_mach ⊗ cone_supersonic_mach ⊖ 1·0) ≡ bits 0x3fea94c948e4800f
unfolding SQRT sqrt_steps split_of root_of of_bits of_int round sub add sum neg mul
cone_supersonic_root = refl

-- ---- the value alone

value_of_cond : (b : Bool) (x y : ValueAndSlope) → (cond b x y).value ≡ cond b x.value y.value
value_of_cond true x y = refl
value_of_cond false x y = refl

-- eq. B.9 between two values lo and hi
unfoldable pub scaled_value : Float → Float → Float → Float → Float → Float
scaled_value lo hi weight exponent M =
    let c3 = mixed lo hi weight in
    let c0 = 0·85 ⊗ stagnation_ratio M in
    cond (c3 ≼ 0·0) 0·0 (fineness_scaled c3 c0 exponent)

pub value_of_scaled :
    (lo hi : ValueAndSlope) (weight exponent M : Float) → scaled_value lo.value hi.value weight exponent M ≡ (scaled lo hi weight exponent M).value
unfolding scaled_value scaled blunt
value_of_scaled lo hi weight exponent M = simp value_of_cond

-- a whole cone curve from Mach 1 on
pub whole_cone_above : (f factor rest M : Float) → (M ≺ 1·0) ≡ false → whole_cone f factor rest M ≡ cone_method (sin_half_angle f) factor M
unfolding whole_cone fitted
whole_cone_above f factor rest M above = simp above
