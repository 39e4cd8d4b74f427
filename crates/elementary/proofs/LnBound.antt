-- LN of a number from 2 ^ -k to 2 ^ k is at most k + 23 in size. With t = (m - 1)/(m + 1) at most 1, so is u = t × t, and each of the ten steps of the series
-- adds at most 1.
use mathlib.Core.Path.{◌≡◌, refl, sym, ap, ◌∙◌, subst}
use mathlib.Core.Bool.{Bool, true, false, cond}
use mathlib.Core.List.{[], ◌∷◌}
use Prim.Native.Nat.{ℕ, zero, suc, ◌+◌, ◌*◌, ◌^◌, ◌≤◌, ◌<◌}
use native.Mathlib.Nat.{mul_assoc, mul_comm, mul-one, mul-le-mul_right, mul-lt-mul_of_pos_left, le_of_mul-le-mul_right, le_trans, le_of_eq, le_of_lt, lt_of_le_of_lt, lt_of_lt_of_le, lt_of_not-le, not-le_of_lt}
use native.Mathlib.Omega.{arith}
use lib.IntN.{ℤ}
use lib.Dec.{T, lit<, lit≤}
use lib.Pow.{pow-add, pow_pos, pow_mono}
use lib.Ieee.{Float, nan, inf, fin, binary64, up, down, size, fits, of_bits}
use lib.Ieee.Digits.{size-lt}
use lib.Ieee.Fits.{down_pos}
use lib.Ieee.Positive.{positive, mul_at}
use Rattle.elementary.specs.Arithmetic.{◌⊕◌, ◌⊖◌, ◌⊗◌, ◌⊘◌, ◌≺◌, whole}
use Rattle.elementary.specs.Constants.{0·5, 1·0, 2·0, 1·4142135623730951, ln_2, ulp_of_one}
use Rattle.elementary.specs.Split.{units, normalised, split_of, Within}
use Rattle.elementary.specs.Steps.{ln_series, ln_sum, ln_steps, LN}
use Rattle.elementary.proofs.Bits.{held, in_units, taken_units}
use Rattle.elementary.proofs.Value.{size_within}
use Rattle.elementary.proofs.Sizes.{small, round_within}
use Rattle.elementary.proofs.Bounds.{Least, add_within, mul_within, div_within, within_finite}
use Rattle.elementary.proofs.Same.{unsigned, mul_unsigned}
use Rattle.elementary.proofs.Ranges.{one_more_least, less_one_within, whole_value, whole_least, whole_positive, whole_gap, one_within, through_within}

-- ---- the series

one_over : (k : ℕ) → 0 < k → k ≤ 2 ^ 53 → Within 1 (1·0 ⊘ whole k)
one_over k p h = div_within 1·0 (whole k) 1 1 (small 1 (lit< tt)) one_within (whole_least k p h)

series_within : (u : Float) → Within 1 u → Within 11 (ln_series u)
series_within u w =
    through_within (λ p k. p ⊗ u ⊕ 1·0 ⊘ whole k) suc 10 next
    (19 ∷ 17 ∷ 15 ∷ 13 ∷ 11 ∷ 9 ∷ 7 ∷ 5 ∷ 3 ∷ 1 ∷ []) tt 0 (1·0 ⊘ whole 21) (lit≤ tt) (one_over 21 (lit< tt) (lit≤ tt))
  where
    next : (i k : ℕ) (p : Float) → i < 10 → 0 < k → k ≤ 2 ^ 53 → Within (suc i) p → Within (suc (suc i)) (p ⊗ u ⊕ 1·0 ⊘ whole k)
    next i k p l K H a =
        let e : suc i + 1 ≡ suc (suc i) = omega arith in
        let b : Within (suc i) (p ⊗ u) = rw (mul-one (suc i)) at (mul_within p u (suc i) 1 (small (suc i * 1) (omega arith)) a w) in
        rw e at (add_within (p ⊗ u) (1·0 ⊘ whole k) (suc i) 1 (small (suc i + 1) (omega arith)) b (one_over k K H))

-- ---- the sum

pub ln_two_within : Within 1 ln_2
unfolding of_bits
ln_two_within = lit≤ tt

two_within : Within 2 2·0
unfolding of_bits
two_within = lit≤ tt

half_within : Within 1 0·5
unfolding of_bits
half_within = lit≤ tt

by_t_within : (t e : Float) (n : ℕ) → n ≤ 2000 → Within 1 t → Within n e → Within (n + 22) (e ⊗ ln_2 ⊕ 2·0 ⊗ t ⊗ ln_series (t ⊗ t))
by_t_within t e n l a h =
    let c : Within n (e ⊗ ln_2) = rw (mul-one n) at (mul_within e ln_2 n 1 (small (n * 1) (omega arith)) h ln_two_within) in
    let p : Within 11 (ln_series (t ⊗ t)) = series_within (t ⊗ t) (mul_within t t 1 1 (small 1 (lit< tt)) a a) in
    add_within (e ⊗ ln_2) (2·0 ⊗ t ⊗ ln_series (t ⊗ t)) n 22 (small (n + 22) (omega arith)) c
    (mul_within (2·0 ⊗ t) (ln_series (t ⊗ t)) 2 11 (small 22 (lit< tt)) (mul_within 2·0 t 2 1 (small 2 (lit< tt)) two_within a) p)

ln_sum_within : (m : Float) (d n : ℕ) → n ≤ 2000 → T (unsigned m) → Within 2 m → Within n (whole d ⊖ whole 1075) → Within (n + 22) (ln_sum m d)
unfolding ln_sum
ln_sum_within m d n l s w h =
    by_t_within _ (whole d ⊖ whole 1075) n l
    (div_within _ _ 1 1 (small 1 (lit< tt)) (less_one_within m s w) (one_more_least m (within_finite m 2 w) s)) h

-- ---- the significand over 2 ^ 52

module _ (g : ℕ) (some : 0 < g) (narrow : g < 2 ^ 53) where
  significand_within : Within 2 (whole g ⊗ ulp_of_one)
  unfolding of_bits
  significand_within =
      subst (Within 2)
      (sym (mul_at binary64 (whole g) ulp_of_one g 1 1 (2 ^ 52) (whole_positive g some (le_of_lt narrow)) tt (lit< tt) (pow_pos 52) (whole_value g (le_of_lt narrow)) (refl, refl)))
      (round_within false (g * 1) (1 * 2 ^ 52) 2 (lit< tt) (small 2 (lit< tt)) (omega arith))

  significand_unsigned : T (unsigned (whole g ⊗ ulp_of_one))
  unfolding of_bits
  significand_unsigned = mul_unsigned (whole g) ulp_of_one (whole_positive g some (le_of_lt narrow)) tt

  half_unsigned : T (unsigned (0·5 ⊗ (whole g ⊗ ulp_of_one)))
  unfolding of_bits
  half_unsigned = mul_unsigned 0·5 (whole g ⊗ ulp_of_one) tt significand_unsigned

  ln_steps_within : (d n : ℕ) → n ≤ 2000 → d + 1 ≤ 1075 + n → 1075 ≤ d + n → Within (n + 22) (ln_steps g d)
  unfolding ln_steps
  ln_steps_within d n l h k = go (1·4142135623730951 ≺ whole g ⊗ ulp_of_one)
    where
      gap : (c : ℕ) → c ≤ 1075 + n → 1075 ≤ c + n → Within n (whole c ⊖ whole 1075)
      gap c a b = whole_gap c 1075 n (omega arith) (lit≤ tt) (small n (omega arith)) a b

      go : (b : Bool) → Within (n + 22) (cond b (ln_sum (0·5 ⊗ (whole g ⊗ ulp_of_one)) (d + 1)) (ln_sum (whole g ⊗ ulp_of_one) d))
      go true =
          ln_sum_within (0·5 ⊗ (whole g ⊗ ulp_of_one)) (d + 1) n l half_unsigned
          (mul_within 0·5 (whole g ⊗ ulp_of_one) 1 2 (small 2 (lit< tt)) half_within significand_within) (gap (d + 1) h (omega arith))
      go false = ln_sum_within (whole g ⊗ ulp_of_one) d n l significand_unsigned significand_within (gap d (omega arith) k)

-- ---- LN

-- a number of 2 ^ -k or more has at least 1075 - k digits
enough_digits : (m : ℕ) (e : ℤ) (k : ℕ) → T (fits binary64 (fin false (suc m) e)) → Least (2 ^ k) (fin false (suc m) e) → 1075 ≤ size (units (suc m) e) + k
enough_digits m e k h w =
    let u = in_units m e (held false m e h) in
    let n = units (suc m) e in
    let l : 2 ^ 1074 * down e ≤ 2 ^ k * n * down e =
    le_trans (le_of_eq (mul_comm (2 ^ 1074) (down e)))
    (le_trans (mul-le-mul_right (2 ^ 1074) w)
    (le_of_eq (mul_assoc (2 ^ k) (suc m * up e) (2 ^ 1074) ∙ ap (λ (z : ℕ). 2 ^ k * z) u.exact ∙ sym (mul_assoc (2 ^ k) n (down e))))) in
    let less : 2 ^ 1074 < 2 ^ (size n + k) =
    lt_of_le_of_lt (le_of_mul-le-mul_right l (down_pos e))
    (lt_of_lt_of_le (mul-lt-mul_of_pos_left (size-lt n) (pow_pos k)) (le_of_eq (mul_comm (2 ^ k) (2 ^ size n) ∙ sym (pow-add 2 (size n) k)))) in
    lt_of_not-le (λ (g : size n + k ≤ 1074). not-le_of_lt less (pow_mono g))

pub ln_within : (x : Float) (k : ℕ) → k ≤ 1074 → T (fits binary64 x) → T (positive x) → Within (2 ^ k) x → Least (2 ^ k) x → Within (k + 23) (LN x)
unfolding LN split_of
ln_within nan k l h p w b = absurd p
ln_within (inf s) k l h p w b = absurd p
ln_within (fin true m e) k l h p w b = absurd p
ln_within (fin false zero e) k l h p w b = absurd p
ln_within (fin false (suc m) e) k l h p w b =
    let u = in_units m e (held false m e h) in
    let n = units (suc m) e in
    let t = taken_units n u.some u.few in
    let few = size_within false m e k h w in
    let enough = enough_digits m e k h b in
    let c : k + 1 + 22 ≡ k + 23 = omega arith in
    rw c at (ln_steps_within (normalised n (size n)) (omega (arith, t.full)) t.narrow (size n) (k + 1) (omega arith) (omega arith) (omega arith))
