-- Not the half-gap weight: midway between 1/2 and 3/4 the upper nose counts one half, and by half the gap (`half_gap`, specs/Weights.antt) it would count alone.
use Rattle.std.specs.Prelude.{◌≡◌, refl, true, false, Float}
use Rattle.std.proofs.Common.{sym, ap, ◌∙◌, true≢false}
use Rattle.std.specs.Float.Ieee.{of_bits, round, sum, neg, add, sub, mul, div, lt}
use Rattle.elementary.specs.Arithmetic.{◌≺◌}
use Rattle.elementary.specs.Constants.{0·5, 1·0}
use Rattle.nose_drag.specs.Curves.{power_bracket, parabolic_bracket, weight_of}
use Rattle.nose_drag.specs.Weights.{half_gap, 0·625}

-- midway the weight is one half; by half the gap it would be 1
half_at_5/8 :
    (weight_of (power_bracket 0·625) 0·625 ≡ 0·5) × (weight_of (parabolic_bracket 0·625) 0·625 ≡ 0·5) × (half_gap 0·625 ≡ 1·0)
unfolding power_bracket parabolic_bracket weight_of of_bits round sub add sum neg mul div lt
half_at_5/8 = (refl, refl, refl)

half_is_less : (0·5 ≺ 1·0) ≡ true
unfolding of_bits lt
half_is_less = refl

one_is_not : (1·0 ≺ 1·0) ≡ false
unfolding of_bits lt
one_is_not = refl

half_not_one : 0·5 ≡ 1·0 → ⊥
half_not_one e = true≢false (sym half_is_less ∙ ap (λ (x : Float). x ≺ 1·0) e ∙ one_is_not)

pub not_half_gap :
    ((weight_of (power_bracket 0·625) 0·625 ≡ half_gap 0·625) → ⊥) × ((weight_of (parabolic_bracket 0·625) 0·625 ≡ half_gap 0·625) → ⊥)
not_half_gap = ((λ e. half_not_one (sym half_at_5/8.0 ∙ e ∙ half_at_5/8.2)), λ e. half_not_one (sym half_at_5/8.1 ∙ e ∙ half_at_5/8.2))
