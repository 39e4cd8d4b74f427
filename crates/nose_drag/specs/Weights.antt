-- With which weight the upper of two references counts. At the start of a gap it is 0, so that the lower one counts alone (proofs/Measured.antt), and at the end of a
-- series 1; there lo + 1 × (hi - lo) is rounded twice and may differ from hi in its last bits. In between it is (k - low)/(high - low). A weight by half the gap between
-- 0.5 and 0.75 would give the upper nose the weight 1 midway there. `not_half_gap` (proofs/Weights.antt) excludes that weight, `half_gap`.
use Rattle.std.specs.Prelude.{◌≡◌, refl, [], ◌∷◌, map, Float}
use Rattle.std.specs.Float.Ieee.{of_bits, round, sum, neg, add, sub, mul, div, lt}
use Rattle.elementary.specs.Arithmetic.{◌⊖◌, ◌⊗◌, ◌⊘◌, bits}
use Rattle.elementary.specs.Constants.{2·0, 0·0, 0·5, 1·0}
use Rattle.drag.specs.Constants.{0·25, 1·5, 3·0}
use Rattle.stoney.specs.declared.StoneyNose.TheVariants.{PowerQuarter, PowerHalf, PowerThreeQuarters, ParabolaHalf, ParabolaThreeQuarters, Parabola}
use Rattle.nose_drag.specs.declared.curve.Reference.{Reference}
use Rattle.nose_drag.specs.declared.builder.Bracket.{Bracket}
use Rattle.nose_drag.specs.Constants.{0·75, one_third}
use Rattle.nose_drag.specs.Methods.{mixed}
use Rattle.nose_drag.specs.Curves.{cone_3, power_bracket, parabolic_bracket, weight_of}

-- ---- at the ends of the gaps

-- the reference at one end, and the weight of the upper one
abbrev lower_end : (Float → Bracket) → Float → Reference × Float
lower_end series k = ((series k).lower, weight_of (series k) k)

abbrev upper_end : (Float → Bracket) → Float → Reference × Float
upper_end series k = ((series k).upper, weight_of (series k) k)

-- at 0, 1/4, 1/2 and 3/4 a power series begins at the lower reference, with the weight 0 for the upper one; at 1 that weight is 1
pub measured_power :
    map (lower_end power_bracket) (0·0 ∷ 0·25 ∷ 0·5 ∷ 0·75 ∷ [])
    ≡ (Reference.Blunt, 0·0) ∷ (Reference.Stoney PowerQuarter, 0·0) ∷ (Reference.Stoney PowerHalf, 0·0) ∷ (Reference.Stoney PowerThreeQuarters, 0·0) ∷ []
unfolding power_bracket weight_of of_bits round sub add sum neg mul div lt
measured_power = refl

pub whole_power : upper_end power_bracket 1·0 ≡ (cone_3, 1·0)
unfolding power_bracket weight_of of_bits round sub add sum neg mul div lt
whole_power = refl

-- the same of a parabolic series at 0, 1/2 and 3/4, and at 1
pub measured_parabolic :
    map (lower_end parabolic_bracket) (0·0 ∷ 0·5 ∷ 0·75 ∷ [])
    ≡ (cone_3, 0·0) ∷ (Reference.Stoney ParabolaHalf, 0·0) ∷ (Reference.Stoney ParabolaThreeQuarters, 0·0) ∷ []
unfolding parabolic_bracket weight_of of_bits round sub add sum neg mul div lt
measured_parabolic = refl

pub whole_parabolic : upper_end parabolic_bracket 1·0 ≡ (Reference.Stoney Parabola, 1·0)
unfolding parabolic_bracket weight_of of_bits round sub add sum neg mul div lt
whole_parabolic = refl

-- a Haack series' weight of L-V Haack is 0 at von Kármán's C = 0 and 1 at its own C = 1/3
pub measured_haack : (3·0 ⊗ 0·0 ≡ 0·0) × (3·0 ⊗ one_third ≡ 1·0)
unfolding of_bits round mul div
measured_haack = (refl, refl)

-- ---- what a weight does

-- from 1 to 3: a quarter of the way at one quarter, the mean at one half, all of it at 1
pub part_of_the_way : map (mixed 1·0 3·0) (0·25 ∷ 0·5 ∷ 1·0 ∷ []) ≡ 1·5 ∷ 2·0 ∷ 3·0 ∷ []
unfolding of_bits round sum neg add sub mul
part_of_the_way = refl

-- ---- not the half-gap weight

-- the distance from 1/2 over half the gap
abbrev pub half_gap : Float → Float
half_gap k = (k ⊖ 0·5) ⊘ ((0·75 ⊖ 0·5) ⊘ 2·0)

-- 5/8, midway between 1/2 and 3/4
abbrev pub 0·625 : Float
0·625 = bits 0x3fe4000000000000
