-- Where Stoney measured a nose, the curve's coefficient from Mach 0.8 on is that nose's own number under eq. B.9's scaling, bit for bit, whatever the fineness ratio and the
-- joint angle: the weight of the upper reference is 0, and 0 times a finite difference adds nothing. (At weight 1 that can't be said of the upper reference:
-- lo + 1 × (hi - lo) is rounded twice.)
use Rattle.std.specs.Prelude.{Ok}
use Rattle.nose_drag.specs.Curves.{cone_3, coefficient_of, power_bracket, parabolic_bracket, weight_of, new_curve}
use mathlib.Core.Path.{◌≡◌, refl, sym, ap, ◌∙◌}
use mathlib.Core.Bool.{false}
use Prim.Native.Nat.{ℕ, ◌+◌, ◌^◌, ◌≤◌}
use lib.Dec.{T, lit<, lit≤}
use lib.Ieee.{Float, binary64, fits, of_bits, round, sum, neg, add, sub, mul, div, lt}
use Rattle.elementary.specs.Arithmetic.{◌⊖◌, ◌⊗◌, ◌≺◌, ◌≈◌}
use Rattle.elementary.specs.Constants.{0·0, 0·5, 0·8}
use Rattle.elementary.specs.Split.{Within}
use Rattle.elementary.proofs.Sizes.{Fine, small, within_more}
use Rattle.elementary.proofs.Bounds.{sub_within, within_finite}
use Rattle.elementary.proofs.ZeroWeight.{nothing_of, alike_choice}
use Rattle.drag.specs.Constants.{0·25, 0·85}
use Rattle.drag.specs.Friction.{mach_checked}
use Rattle.drag.specs.Answered.{mach_passed}
use Rattle.drag.specs.Pressure.{stagnation_ratio}
use Rattle.shapes.specs.declared.NoseShape.{NoseShape}
use Rattle.stoney.specs.declared.StoneyNose.{StoneyNose}
use Rattle.stoney.specs.declared.StoneyNose.TheVariants.{PowerHalf, PowerThreeQuarters, ParabolaThreeQuarters, Parabola, LvHaack}
use Rattle.stoney.specs.Lookup.{value_and_slope}
use Rattle.stoney.proofs.Bounded.{table_bounded}
use Rattle.nose_drag.proofs.ConeBound.{cone_3_within}
use Rattle.nose_drag.specs.declared.curve.Reference.{Reference}
use Rattle.nose_drag.specs.declared.curve.PressureDragCurve.{PressureDragCurve}
use Rattle.nose_drag.specs.Constants.{0·75}
use Rattle.nose_drag.specs.Forms.{blunt}
use Rattle.nose_drag.specs.Methods.{reference_at, mixed, scaled, fineness_scaled, fineness_exponent}
use Rattle.nose_drag.specs.Values.{scaled_value, value_of_scaled}
use Rattle.nose_drag.specs.Between.{Between, between_coefficient, power_between, parabolic_between, haack_between, Measured, power_at_1/4, power_at_1/2, power_at_3/4, parabolic_at_1/2, parabolic_at_3/4, haack_at_0, own_number}

-- ---- weight 0

-- the lower reference alone, where both are bounded
lower_alone : (nose : StoneyNose) (upper : Reference) (f M : Float) (n : ℕ) → 65 ≤ n → Fine (n + n) → mach_checked M ≡ Ok tt → Within n (reference_at upper M).value
    → (scaled (reference_at (Reference.Stoney nose) M) (reference_at upper M) 0·0 (fineness_exponent f) M).value ≡ own_number nose f M
unfolding scaled_value blunt
lower_alone nose upper f M n h F ok w =
    let lo = (value_and_slope nose M).value in
    let hi = (reference_at upper M).value in
    let k = mach_passed M ok in
    let b = table_bounded nose M k.is_finite k.not_negative in
    let d = within_finite (hi ⊖ lo) (n + n) (sub_within hi lo n n F w (within_more lo 65 n h b.within)) in
    sym (value_of_scaled (reference_at (Reference.Stoney nose) M) (reference_at upper M) 0·0 (fineness_exponent f) M)
    ∙ alike_choice (mixed lo hi 0·0) lo 0·0 (λ c. fineness_scaled c (0·85 ⊗ stagnation_ratio M) (fineness_exponent f)) (nothing_of lo (hi ⊖ lo) b.fits (within_finite lo 65 b.within) d)

-- ---- each measured shape, with the reference above it

record Begins (shape : NoseShape) (nose : StoneyNose) : Type 0 where
  pub upper : Reference
  pub between : Between shape (Reference.Stoney nose) upper 0·0
  pub bound : ℕ
  pub wide : 65 ≤ bound
  pub fine : Fine (bound + bound)
  pub held : (M : Float) → T (fits binary64 M) → mach_checked M ≡ Ok tt → (M ≺ 0·8) ≡ false → Within bound (reference_at upper M).value

on_table : {shape : NoseShape} {nose : StoneyNose} (next : StoneyNose) → Between shape (Reference.Stoney nose) (Reference.Stoney next) 0·0 → Begins shape nose
on_table next b = record {
  upper = Reference.Stoney next;
  between = b;
  bound = 65;
  wide = lit≤ tt;
  fine = small 130 (lit< tt);
  held = λ M h ok above. (let k = mach_passed M ok in (table_bounded next M k.is_finite k.not_negative).within);
}

-- twice the cone's bound is a float
doubled : Fine (2 ^ 786 + 2 ^ 786)
doubled = record { w = 1; j = 787; is = refl; narrow = lit< tt; under = lit< tt }

begins : {shape : NoseShape} {nose : StoneyNose} → Measured shape nose → Begins shape nose
unfolding power_bracket parabolic_bracket weight_of of_bits round sub add sum neg mul div lt
begins power_at_1/4 = on_table PowerHalf (power_between 0·25)
begins power_at_1/2 = on_table PowerThreeQuarters (power_between 0·5)
begins power_at_3/4 = record { upper = cone_3; between = power_between 0·75; bound = 2 ^ 786; wide = lit≤ tt; fine = doubled; held = cone_3_within }
begins parabolic_at_1/2 = on_table ParabolaThreeQuarters (parabolic_between 0·5)
begins parabolic_at_3/4 = on_table Parabola (parabolic_between 0·75)
begins haack_at_0 = on_table LvHaack (haack_between 0·0)

pub measured_alone : {shape : NoseShape} {nose : StoneyNose} → Measured shape nose → (f φ : Float) (curve : PressureDragCurve) (M : Float)
    → new_curve shape f φ ≡ Ok curve → (f ≈ 0·0) ≡ false → T (fits binary64 M) → mach_checked M ≡ Ok tt → (M ≺ 0·8) ≡ false
    → coefficient_of curve M ≡ Ok (own_number nose f M)
measured_alone {nose = nose} m f φ curve M e n h ok above =
    let b = begins m in
    between_coefficient b.between f φ curve e n M ok above
    ∙ ap Ok (lower_alone nose b.upper f M b.bound b.wide b.fine ok (b.held M h ok above))
