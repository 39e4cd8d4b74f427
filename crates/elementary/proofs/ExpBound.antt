-- EXP of a number of at most 320 in size is at most 2 ^ 785, and so is POW of a number from 1/2 to 2 to an exponent of at most 13 in size. Then k is at most
-- 642 in size and r at most 2 ^ 10, each of the thirteen steps of the series multiplies the bound by 2 ^ 11, and the scaling by 2 ^ 642.
use mathlib.Core.Path.{◌≡◌, refl, sym, ◌∙◌}
use mathlib.Core.Bool.{Bool, true, false, cond}
use mathlib.Core.List.{[], ◌∷◌}
use Prim.Native.Nat.{ℕ, zero, suc, ◌+◌, ◌-◌, ◌*◌, ◌/◌, ◌^◌, ◌≤◌, ◌<◌}
use native.Mathlib.Nat.{mul-one, one-mul, mul-pos, le_of_eq, two-pow-succ}
use native.Mathlib.Omega.{arith}
use lib.Dec.{T, lit<, lit≤, lt→ltb, ltb→lt}
use lib.Pow.{pow_pos, pow_mono}
use lib.Ieee.{Float, nan, inf, fin, binary64, up, down, neg, lt, eq, is_nan, fits, of_bits}
use lib.Ieee.Fits.{up_pos, down_pos}
use lib.Ieee.Positive.{positive}
use borrow.Author.Tests.{le-ltb, ne_eqb}
use Rattle.elementary.specs.declared.split.Whole.{Whole}
use Rattle.elementary.specs.Arithmetic.{◌⊕◌, ◌⊖◌, ◌⊗◌, ◌⊘◌, ◌≺◌, ◌≼◌, ◌≈◌, whole}
use Rattle.elementary.specs.Constants.{0·0, 0·5, 1·0, ln_2, 710·0, 746·0}
use Rattle.elementary.specs.Split.{floor_of, Within, two^, signed}
use Rattle.elementary.specs.Steps.{exp_series, whole_of, scaled, exp_steps, EXP, LN, pow_steps, POW}
use Rattle.elementary.specs.Order.{not_at_most}
use Rattle.elementary.proofs.Sizes.{small, power, within_more, quotient_within, half_more_within, floor_within}
use Rattle.elementary.proofs.Bounds.{Least, add_within, sub_within, mul_within, div_within, neg_within}
use Rattle.elementary.proofs.Ranges.{whole_within, whole_least, one_within, power_times, through_within}
use Rattle.elementary.proofs.LnBound.{ln_two_within, ln_within}

-- ---- the series

series_within : (r : Float) → Within (2 ^ 10) r → Within (2 ^ 143) (exp_series r)
series_within r w =
    through_within (λ p j. 1·0 ⊕ r ⊗ p ⊘ whole j) (λ i. 2 ^ (11 * i)) 13 next
    (13 ∷ 12 ∷ 11 ∷ 10 ∷ 9 ∷ 8 ∷ 7 ∷ 6 ∷ 5 ∷ 4 ∷ 3 ∷ 2 ∷ 1 ∷ []) tt 0 1·0 (lit≤ tt) one_within
  where
    next : (i j : ℕ) (p : Float) → i < 13 → 0 < j → j ≤ 2 ^ 53 → Within (2 ^ (11 * i)) p → Within (2 ^ (11 * suc i)) (1·0 ⊕ r ⊗ p ⊘ whole j)
    next i j p l J H a =
        let k = 10 + 11 * i in
        let n = 2 ^ k in
        let e : 11 * suc i ≡ suc k = omega arith in
        let b : Within n (r ⊗ p) = power_times r p 10 (11 * i) (omega arith) w a in
        let c : Within n (r ⊗ p ⊘ whole j) = rw (mul-one n) at (div_within (r ⊗ p) (whole j) n 1 (rw (mul-one n) (power k (omega arith))) b (whole_least j J H)) in
        let d : Within n 1·0 = within_more 1·0 1 n (pow_pos k) one_within in
        rw (e, two-pow-succ k) (add_within 1·0 (r ⊗ p ⊘ whole j) n n (rw (two-pow-succ k) at (power (suc k) (omega arith))) d c)

-- ---- the scaling

power_within : (s : Bool) (n : ℕ) → Within (2 ^ n) (two^ (signed s n))
power_within false n = le_of_eq (one-mul (2 ^ n) ∙ sym (mul-one (2 ^ n)))
power_within true zero = lit≤ tt
power_within true (suc n) = mul-pos (pow_pos (suc n)) (pow_pos (suc n))

scaled_within : (p : Float) (k : Whole) (i : ℕ) → i + k.size ≤ 1023 → Within (2 ^ i) p → Within (2 ^ (i + k.size)) (scaled p k)
scaled_within p k i l w =
    let h = k.size / 2 in
    let s = k.negative in
    let e : i + h + (k.size - h) ≡ i + k.size = omega arith in
    rw e at (power_times (p ⊗ two^ (signed s h)) (two^ (signed s (k.size - h))) (i + h) (k.size - h) (omega arith)
    (power_times p (two^ (signed s h)) i h (omega arith) w (power_within s h)) (power_within s (k.size - h)))

-- ---- EXP

whole_of_within : (k : Whole) → k.size ≤ 2 ^ 53 → Within k.size (whole_of k)
whole_of_within k h = go k.negative
  where
    go : (s : Bool) → Within k.size (cond s (neg (whole k.size)) (whole k.size))
    go true = neg_within (whole k.size) k.size (whole_within k.size h)
    go false = whole_within k.size h

exp_steps_within : (y : Float) → Within 320 y → Within (2 ^ 785) (exp_steps y)
unfolding exp_steps
exp_steps_within y w =
    let k = floor_of (y ⊘ ln_2 ⊕ 0·5) in
    let n : k.size ≤ 642 = floor_within (y ⊘ ln_2 ⊕ 0·5) 641 (half_more_within (y ⊘ ln_2) 640 (small 641 (lit< tt)) (quotient_within y 320 (small 640 (lit< tt)) w)) in
    let a : Within 642 (whole_of k) = within_more (whole_of k) k.size 642 n (whole_of_within k (omega arith)) in
    let b : Within 962 (y ⊖ whole_of k ⊗ ln_2) =
    sub_within y (whole_of k ⊗ ln_2) 320 642 (small 962 (lit< tt)) w (mul_within (whole_of k) ln_2 642 1 (small 642 (lit< tt)) a ln_two_within) in
    let p = exp_series (y ⊖ whole_of k ⊗ ln_2) in
    let c : Within (2 ^ 143) p = series_within (y ⊖ whole_of k ⊗ ln_2) (within_more (y ⊖ whole_of k ⊗ ln_2) 962 (2 ^ 10) (lit≤ tt) b) in
    within_more (scaled p k) (2 ^ (143 + k.size)) (2 ^ 785) (pow_mono {i = 143 + k.size} {j = 785} (omega arith)) (scaled_within p k 143 (omega arith) c)

number : (y : Float) (n : ℕ) → Within n y → is_nan y ≡ false
unfolding is_nan
number nan n w = absurd w
number (inf s) n w = refl
number (fin s m e) n w = refl

below_top : (y : Float) → Within 320 y → T (y ≺ 710·0)
unfolding lt of_bits
below_top nan w = absurd w
below_top (inf s) w = absurd w
below_top (fin false m e) w = let d = down_pos e in lt→ltb (m * up e * 1) (355 * 2 * down e) (omega arith)
below_top (fin true m e) w = let d = down_pos e in lt→ltb 0 (m * up e * 1 + 355 * 2 * down e) (omega arith)

zero_within : Within (2 ^ 785) 0·0
unfolding of_bits
zero_within = lit≤ tt

pub exp_within : (y : Float) → Within 320 y → Within (2 ^ 785) (EXP y)
unfolding EXP
exp_within y w = rw (number y 320 w, not_at_most 710·0 y (below_top y w)) (go (y ≼ neg 746·0))
  where
    go : (b : Bool) → Within (2 ^ 785) (cond b 0·0 (exp_steps y))
    go true = zero_within
    go false = exp_steps_within y w

-- ---- POW

-- a number above zero is neither below zero nor zero
pub not_negative : (x : Float) → T (positive x) → ((x ≺ 0·0) ≡ false) × ((x ≈ 0·0) ≡ false)
unfolding lt eq of_bits
not_negative nan p = absurd p
not_negative (inf s) p = absurd p
not_negative (fin true m e) p = absurd p
not_negative (fin false m e) p =
    let some : 0 < m * up e = mul-pos (ltb→lt 0 m p) (up_pos e) in
    (le-ltb (m * up e * 1) (0 * 1 * down e) (omega arith), rw (ne_eqb (m * up e * 1) (0 * 1 * down e) (λ (z : m * up e * 1 ≡ 0 * 1 * down e). omega arith)))

pub pow_within : (x y : Float) → T (fits binary64 x) → T (positive x) → Within 2 x → Least 2 x → Within 13 y → Within (2 ^ 785) (POW x y)
unfolding POW pow_steps
pow_within x y h p w l b = go (y ≈ 0·0) (x ≈ 1·0) refl refl
  where
    one : Within (2 ^ 785) 1·0
    one = within_more 1·0 1 (2 ^ 785) (lit≤ tt) one_within

    last : Within (2 ^ 785) (EXP (y ⊗ LN x))
    last =
        let a : Within 312 (y ⊗ LN x) = mul_within y (LN x) 13 24 (small 312 (lit< tt)) b (ln_within x 1 (lit≤ tt) h p w l) in
        exp_within (y ⊗ LN x) (within_more (y ⊗ LN x) 312 320 (lit≤ tt) a)

    above : (x ≺ 0·0) ≡ false
    above = (not_negative x p).0

    some : (x ≈ 0·0) ≡ false
    some = (not_negative x p).1

    go : (s t : Bool) → (y ≈ 0·0) ≡ s → (x ≈ 1·0) ≡ t → Within (2 ^ 785) (POW x y)
    go true true e f = simp (above, number x 2 w, number y 13 b, e, f) one
    go true false e f = simp (above, number x 2 w, number y 13 b, e, f) one
    go false true e f = simp (above, number x 2 w, number y 13 b, e, f) one
    go false false e f = simp (above, some, number x 2 w, number y 13 b, e, f) last
