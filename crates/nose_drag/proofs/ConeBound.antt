-- The 3:1 cone's whole curve is bounded from Mach 0.8 on. Below Mach 1 it is a power of a number from 1/2 to 1, between Mach 1 and 1.3 a cubic, and from Mach 1.3
-- on a quotient by a root of 1/2 or more, +infinity included.
use Rattle.std.specs.Prelude.{Ok}
use mathlib.Core.Path.{◌≡◌, refl, sym, subst}
use mathlib.Core.Bool.{Bool, true, false}
use Prim.Native.Nat.{zero, suc, ◌*◌, ◌^◌}
use native.Mathlib.Nat.{mul-one, one-mul}
use lib.Dec.{T, lit<, lit≤}
use lib.Ieee.{Float, nan, inf, fin, binary64, up, down, fits, of_bits, of_int, round, sum, neg, add, sub, mul, div, lt, le, eq}
use lib.Ieee.Positive.{positive, positive-finite, mul_mono}
use Rattle.elementary.specs.Arithmetic.{◌⊕◌, ◌⊖◌, ◌⊗◌, ◌⊘◌, ◌≺◌, ◌≼◌, bits}
use Rattle.elementary.specs.Constants.{0·5, 0·8, 1·0, 2·0}
use Rattle.elementary.specs.Split.{split_of, Within}
use Rattle.elementary.specs.Root.{root_of}
use Rattle.elementary.specs.Steps.{SQRT, sqrt_steps, POW}
use Rattle.elementary.specs.Order.{lt_le, le_through}
use Rattle.elementary.proofs.Sizes.{small, power, within_more}
use Rattle.elementary.proofs.Bounds.{Least, add_within, sub_within, mul_within, div_within}
use Rattle.elementary.proofs.Same.{unsigned, round_held}
use Rattle.elementary.proofs.Ranges.{reaches, stays_under, positive_from, positive_unsigned, least_from, within_under, less_one_within, one_within}
use Rattle.elementary.proofs.ExpBound.{not_negative, pow_within}
use Rattle.elementary.proofs.RootBound.{5/4, root_less_one_least}
use Rattle.drag.specs.Constants.{3·0}
use Rattle.drag.specs.Friction.{mach_checked}
use Rattle.drag.specs.Answered.{mach_passed}
use Rattle.stoney.specs.declared.ValueAndSlope.{ValueAndSlope}
use Rattle.nose_drag.specs.declared.fit.Fit.TheVariants.{Power}
use Rattle.nose_drag.specs.Constants.{1·3, 2·1, 4·0, GAMMA, cone_3_rest, cone_supersonic_mach}
use Rattle.nose_drag.specs.Forms.{hermite, cone_supersonic, cone_transonic, sin_half_angle, cone_method}
use Rattle.nose_drag.specs.Below.{fit_of, power_at, rest_with, fit_with, fitted}
use Rattle.nose_drag.specs.Methods.{whole_cone, reference_at}
use Rattle.nose_drag.specs.Curves.{cone_3}
use Rattle.nose_drag.specs.Values.{whole_cone_above}

-- ---- the numbers of the 3:1 cone, by computing

-- the sine of its half-angle, 0.164
abbrev S : Float
S = bits 0x3fc50b06a8fc6b70

sine_is : sin_half_angle 3·0 ≡ S
unfolding sin_half_angle SQRT sqrt_steps split_of root_of of_bits of_int round sub add sum neg mul div
sine_is = refl

-- eq. 3.87's rise 0.143 and exponent 10.7
abbrev Δ : Float
Δ = bits 0x3fc246875a1c3f28

abbrev b : Float
b = bits 0x40256d6441493482

fit_is : fit_with cone_3_rest (cone_method S 1·0 1·0) 1·0 ≡ Power Δ b
unfolding fit_with fit_of rest_with cone_method cone_transonic cone_supersonic hermite SQRT sqrt_steps split_of root_of of_bits of_int round sub add sum neg mul div lt le eq
fit_is = refl

rest_is : (low : ValueAndSlope) → rest_with cone_3_rest low 1·0 ≡ cone_3_rest
unfolding rest_with eq of_bits
rest_is low = refl

-- what bounds each of them, and the constants of the formulas
record Bounded : Type 0 where
  sine : Within 1 S
  rise : Within 1 Δ
  exponent : Within 13 b
  rest : Within 1 cone_3_rest
  half : Within 1 0·5
  two : Within 2 2·0
  factor : Within 3 2·1
  three : Within 3 3·0

bounded : Bounded
unfolding of_bits
bounded = record { sine = lit≤ tt; rise = lit≤ tt; exponent = lit≤ tt; rest = lit≤ tt; half = lit≤ tt; two = lit≤ tt; factor = lit≤ tt; three = lit≤ tt }

-- ---- below Mach 1

over_one : (M : Float) → T (fits binary64 M) → T (positive M) → M ⊘ 1·0 ≡ M
unfolding div of_bits
over_one nan h p = absurd p
over_one (inf s) h p = absurd p
over_one (fin true m e) h p = absurd p
over_one (fin false zero e) h p = absurd p
over_one (fin false (suc m) e) h p = rw (mul-one (suc m * up e), one-mul (down e)) (round_held false m e h)

below_is : (M : Float) → (M ≺ 1·0) ≡ true → (reference_at cone_3 M).value ≡ cone_3_rest ⊕ (power_at Δ b M 1·0).value
unfolding whole_cone fitted
below_is M l = rw (l, sine_is, fit_is, rest_is)

eight_tenths : T (positive 0·8) × Least 2 0·8
unfolding of_bits
eight_tenths = (tt, lit≤ tt)

module _ (M : Float) (h : T (fits binary64 M)) (p : T (positive M)) (a : T (0·8 ≼ M)) (l : (M ≺ 1·0) ≡ true) where
  ratio_within : Within (2 ^ 785) (POW (M ⊘ 1·0) b)
  ratio_within =
      let w : Within 1 M = within_under M 1·0 1 p (lt_le M 1·0 (subst T (sym l) tt)) one_within in
      rw (over_one M h p) (pow_within M b h p (within_more M 1 2 (lit≤ tt) w) (least_from 0·8 M 2 eight_tenths.0 eight_tenths.1 a) bounded.exponent)

  power_within : Within (2 ^ 785) (power_at Δ b M 1·0).value
  unfolding power_at
  power_within = rw (not_negative M p).1 (mul_within Δ _ 1 (2 ^ 785) (power 785 (lit≤ tt)) bounded.rise ratio_within)

  below_within : Within (2 ^ 786) (reference_at cone_3 M).value
  below_within =
      rw (below_is M l)
      (add_within cone_3_rest (power_at Δ b M 1·0).value (2 ^ 785) (2 ^ 785) (power 786 (lit≤ tt)) (within_more cone_3_rest 1 (2 ^ 785) (lit≤ tt) bounded.rest) power_within)

-- ---- between Mach 1 and 1.3

ends_within : Within 2 (4·0 ⊘ (GAMMA ⊕ 1·0) ⊗ (1·0 ⊖ 0·5 ⊗ S)) × Within 1 (cone_supersonic S cone_supersonic_mach).value × Within 1 (cone_supersonic S cone_supersonic_mach).slope
unfolding cone_supersonic SQRT sqrt_steps split_of root_of of_bits of_int round sub add sum neg mul div
ends_within = (lit≤ tt, lit≤ tt, lit≤ tt)

width : Within 1 (cone_supersonic_mach ⊖ 1·0) × Least 4 (cone_supersonic_mach ⊖ 1·0)
unfolding of_bits round sub add sum neg
width = (lit≤ tt, lit≤ tt)

hermite_within :
    (y₀ m₀ y₁ m₁ x : Float) → Within 1 y₀ → Within 2 m₀ → Within 1 y₁ → Within 1 m₁ → T (unsigned x) → Within 2 x
    → Within 633 (hermite 1·0 y₀ m₀ cone_supersonic_mach y₁ m₁ x).value
unfolding hermite
hermite_within y₀ m₀ y₁ m₁ x Y₀ M₀ Y₁ M₁ u w =
    let h = cone_supersonic_mach ⊖ 1·0 in
    let t = (x ⊖ 1·0) ⊘ h in
    let t2 = t ⊗ t in
    let t3 = t ⊗ t ⊗ t in
    let two = bounded.two in
    let three = bounded.three in
    let T1 : Within 4 t = div_within (x ⊖ 1·0) h 1 4 (small 4 (lit< tt)) (less_one_within x u w) width.1 in
    let T2 : Within 16 t2 = mul_within t t 4 4 (small 16 (lit< tt)) T1 T1 in
    let T3 : Within 64 t3 = mul_within t2 t 16 4 (small 64 (lit< tt)) T2 T1 in
    let twice3 : Within 128 (2·0 ⊗ t3) = mul_within 2·0 t3 2 64 (small 128 (lit< tt)) two T3 in
    let thrice2 : Within 48 (3·0 ⊗ t2) = mul_within 3·0 t2 3 16 (small 48 (lit< tt)) three T2 in
    let twice2 : Within 32 (2·0 ⊗ t2) = mul_within 2·0 t2 2 16 (small 32 (lit< tt)) two T2 in
    let A : Within 177 (2·0 ⊗ t3 ⊖ 3·0 ⊗ t2 ⊕ 1·0) =
    add_within (2·0 ⊗ t3 ⊖ 3·0 ⊗ t2) 1·0 176 1 (small 177 (lit< tt)) (sub_within (2·0 ⊗ t3) (3·0 ⊗ t2) 128 48 (small 176 (lit< tt)) twice3 thrice2) one_within in
    let B : Within 100 (t3 ⊖ 2·0 ⊗ t2 ⊕ t) =
    add_within (t3 ⊖ 2·0 ⊗ t2) t 96 4 (small 100 (lit< tt)) (sub_within t3 (2·0 ⊗ t2) 64 32 (small 96 (lit< tt)) T3 twice2) T1 in
    let C : Within 176 (3·0 ⊗ t2 ⊖ 2·0 ⊗ t3) = sub_within (3·0 ⊗ t2) (2·0 ⊗ t3) 48 128 (small 176 (lit< tt)) thrice2 twice3 in
    let D : Within 80 (t3 ⊖ t2) = sub_within t3 t2 64 16 (small 80 (lit< tt)) T3 T2 in
    let a : Within 177 ((2·0 ⊗ t3 ⊖ 3·0 ⊗ t2 ⊕ 1·0) ⊗ y₀) = mul_within (2·0 ⊗ t3 ⊖ 3·0 ⊗ t2 ⊕ 1·0) y₀ 177 1 (small 177 (lit< tt)) A Y₀ in
    let b : Within 200 ((t3 ⊖ 2·0 ⊗ t2 ⊕ t) ⊗ h ⊗ m₀) =
    mul_within ((t3 ⊖ 2·0 ⊗ t2 ⊕ t) ⊗ h) m₀ 100 2 (small 200 (lit< tt)) (mul_within (t3 ⊖ 2·0 ⊗ t2 ⊕ t) h 100 1 (small 100 (lit< tt)) B width.0) M₀ in
    let c : Within 176 ((3·0 ⊗ t2 ⊖ 2·0 ⊗ t3) ⊗ y₁) = mul_within (3·0 ⊗ t2 ⊖ 2·0 ⊗ t3) y₁ 176 1 (small 176 (lit< tt)) C Y₁ in
    let d : Within 80 ((t3 ⊖ t2) ⊗ h ⊗ m₁) = mul_within ((t3 ⊖ t2) ⊗ h) m₁ 80 1 (small 80 (lit< tt)) (mul_within (t3 ⊖ t2) h 80 1 (small 80 (lit< tt)) D width.0) M₁ in
    add_within _ _ 553 80 (small 633 (lit< tt)) (add_within _ _ 377 176 (small 553 (lit< tt)) (add_within _ _ 177 200 (small 377 (lit< tt)) a b) c) d

-- ---- from Mach 1.3 on

supersonic_mach : T (positive 1·3) × T (positive (1·3 ⊗ 1·3)) × T (5/4 ≼ 1·3 ⊗ 1·3) × Within 2 1·3
unfolding of_bits mul round le lt eq
supersonic_mach = (tt, tt, tt, lit≤ tt)

supersonic_within : (M : Float) → T (positive M) → T (1·3 ≼ M) → Within 5 (cone_supersonic S M).value
unfolding cone_supersonic
supersonic_within M p h =
    let k = supersonic_mach in
    let squared = le_through 5/4 (1·3 ⊗ 1·3) (M ⊗ M) tt k.1 k.2 (mul_mono binary64 1·3 M 1·3 M k.0 p k.0 p h h) in
    let s = bounded.sine in
    let first : Within 3 (2·1 ⊗ S ⊗ S) = mul_within (2·1 ⊗ S) S 3 1 (small 3 (lit< tt)) (mul_within 2·1 S 3 1 (small 3 (lit< tt)) bounded.factor s) s in
    let over : Within 1 (0·5 ⊗ S) = mul_within 0·5 S 1 1 (small 1 (lit< tt)) bounded.half s in
    add_within (2·1 ⊗ S ⊗ S) (0·5 ⊗ S ⊘ SQRT (M ⊗ M ⊖ 1·0)) 3 2 (small 5 (lit< tt)) first
    (div_within (0·5 ⊗ S) (SQRT (M ⊗ M ⊖ 1·0)) 1 2 (small 2 (lit< tt)) over (root_less_one_least (M ⊗ M) squared))

-- ---- from Mach 1 on

transonic_within : (M : Float) → T (positive M) → Within 633 (cone_transonic S M).value
unfolding cone_transonic
transonic_within M p = go (cone_supersonic_mach ≼ M) refl
  where
    go : (t : Bool) → (cone_supersonic_mach ≼ M) ≡ t → Within 633 (cone_transonic S M).value
    go true e = rw e (within_more (cone_supersonic S M).value 5 633 (lit≤ tt) (supersonic_within M p (subst T (sym e) tt)))
    go false e =
        let w = within_under M 1·3 2 p (stays_under M 1·3 p (positive-finite 1·3 supersonic_mach.0) e) supersonic_mach.3 in
        rw e (hermite_within _ _ _ _ M bounded.sine ends_within.0 ends_within.1 ends_within.2 (positive_unsigned M p) w)

above_within : (M : Float) → T (positive M) → (M ≺ 1·0) ≡ false → Within (2 ^ 786) (reference_at cone_3 M).value
unfolding cone_method
above_within M p l =
    rw (whole_cone_above 3·0 1·0 cone_3_rest M l, sine_is)
    (within_more (1·0 ⊗ (cone_transonic S M).value) 633 (2 ^ 786) (lit≤ tt) (mul_within 1·0 (cone_transonic S M).value 1 633 (small 633 (lit< tt)) one_within (transonic_within M p)))

-- ---- all of it
pub cone_3_within : (M : Float) → T (fits binary64 M) → mach_checked M ≡ Ok tt → (M ≺ 0·8) ≡ false → Within (2 ^ 786) (reference_at cone_3 M).value
cone_3_within M h checked high =
    let f = (mach_passed M checked).is_finite in
    let a = reaches 0·8 M eight_tenths.0 f high in
    let p = positive_from 0·8 M eight_tenths.0 f a in
    go p a (M ≺ 1·0) refl
  where
    go : T (positive M) → T (0·8 ≼ M) → (t : Bool) → (M ≺ 1·0) ≡ t → Within (2 ^ 786) (reference_at cone_3 M).value
    go p a true l = below_within M h p a l
    go p a false l = above_within M p l
