-- The language's own root of a float, `sqrt binary64`, is SQRT on every number that binary64 holds. It rounds q / 2 ^ 2272, where q is twice the whole part of a
-- root, and one more where the root goes on behind it. The whole number that this rounds to is near the root (`Near`), as no other is.
use mathlib.Core.Path.{◌≡◌, refl, sym, ap, ◌∙◌, subst}
use mathlib.Core.Logic.{inl, inr}
use mathlib.Core.Bool.{Bool, true, false, cond}
use Prim.Native.Nat.{ℕ, zero, suc, ◌+◌, ◌-◌, ◌*◌, ◌/◌, ◌^◌, ◌≤◌, ◌<◌}
use native.Mathlib.Nat.{mul_assoc, mul_comm, mul_right_comm, mul-mul-mul_comm, add-mul, mul-pos, mul-le-mul, mul-le-mul_left, mul-le-mul_right, mul-lt-mul_of_pos_right, le_of_mul-le-mul_right, le_trans, le_of_eq, le_of_lt, lt_of_lt_of_le, lt_of_le_of_lt, lt_of_not-le, not-le_of_lt, mul-div_cancel, eq-zero-or-pos, zero-mul, le-div_iff_mul-le, div-lt_iff_lt-mul}
use native.Mathlib.Decide.{dec_lt}
use native.Mathlib.Omega.{arith}
use lib.IntN.{ℤ}
use lib.Dec.{T, eqb, eqb→eq}
use lib.Pow.{pow-add, pow_pos, pow-lt}
use lib.Ieee.{Float, nan, inf, fin, binary64, up, down, size, root_below, root_twice, round, units, sqrt, fits}
use lib.Ieee.Exact.{HasValue, units_val}
use lib.Ieee.Fits.{down_pos, round_is, sqrt-fits}
use lib.Ieee.Positive.{positive_of_value}
use lib.Ieee.Nearest.{closest, closest_same}
use lib.Ieee.Root.{Root, whole_part}
use Rattle.elementary.specs.Split as split
use Rattle.elementary.specs.Split.{split_of}
use Rattle.elementary.specs.Root.{nearest_root}
use Rattle.elementary.specs.Distance.{Apart}
use Rattle.elementary.specs.Steps.{SQRT, sqrt_steps}
use Rattle.elementary.proofs.Bits.{Held, held, in_units, size_is, units_are}
use Rattle.elementary.proofs.Nearest.{Near, near_is, square_suc, taken, w_range, square, r_full, y_above, y_fits, y_units}
use Rattle.elementary.proofs.Same.{same_positive}
use Rattle.elementary.proofs.Root.{double_one, nearest_short}
use Rattle.elementary.proofs.Rounding.{closest_half}

-- ---- twice a root

-- q is twice the whole part t of the root of n, and one more where t × t is not n
pub record Twice (n q : ℕ) : Type 0 where
  pub t : ℕ
  pub from : t * t ≤ n
  pub below : n < (t + 1) * (t + 1)
  pub low : 2 * t ≤ q
  pub high : q ≤ 2 * t + 1
  pub whole : q ≡ 2 * t → t * t ≡ n

twice_root : (n t : ℕ) → Root t n → (b : Bool) → eqb (t * t) n ≡ b → Twice n (2 * t + cond b 0 1)
twice_root n t r true e =
    record { t = t; from = r.0; below = r.1; low = omega arith; high = omega arith; whole = λ (z : 2 * t + 0 ≡ 2 * t). eqb→eq (t * t) n (subst T (sym e) tt) }
twice_root n t r false e = record { t = t; from = r.0; below = r.1; low = omega arith; high = omega arith; whole = λ (z : 2 * t + 1 ≡ 2 * t). absurd (omega arith) }

twice : (n : ℕ) → Twice n (root_twice n)
unfolding root_twice
twice n = twice_root n (root_below (size n) n) (whole_part n) (eqb (root_below (size n) n * root_below (size n) n) n) refl

-- a × p against the whole part of the root of s × p × p, by a × a against s
module _ (s p q : ℕ) (z : Twice (s * (p * p)) q) where
  root_from : (a : ℕ) → a * a ≤ s → a * p ≤ z.t
  root_from a h =
      let l : a * p < z.t + 1 =
      lt_of_not-le
      (λ (g : z.t + 1 ≤ a * p).
      not-le_of_lt z.below
      (le_trans (mul-le-mul g g) (le_trans (le_of_eq (mul-mul-mul_comm a p a p)) (mul-le-mul_right (p * p) h)))) in
      omega arith

  root_under : (b : ℕ) → 0 < p → s < b * b → z.t < b * p
  root_under b P h =
      lt_of_not-le
      (λ (g : b * p ≤ z.t).
      not-le_of_lt
      (lt_of_lt_of_le (mul-lt-mul_of_pos_right h (mul-pos P P)) (le_of_eq (sym (mul-mul-mul_comm b p b p))))
      (le_trans (mul-le-mul g g) z.from))

-- ---- the whole number that q / 2 p rounds to is near the root of s, for a p = 2 h

module _ (s h q : ℕ) (some : 0 < s) (H : 0 < h) (z : Twice (s * (2 * h * (2 * h))) q) where
  abbrev c : ℕ
  c = closest q (2 * (2 * h))

  half_away : Apart (2 * (2 * h)) (2 * (c * (2 * (2 * h)))) (2 * q)
  half_away = closest_half q (2 * (2 * h)) (omega (arith, H))

  four : s * (2 * h * (2 * h)) ≡ 4 * s * (h * h)
  four = let a : 2 * h * (2 * h) ≡ 4 * (h * h) = mul-mul-mul_comm 2 h 2 h in ap (λ (k : ℕ). s * k) a ∙ sym (mul_assoc s 4 (h * h)) ∙ ap (λ (k : ℕ). k * (h * h)) (mul_comm s 4)

  cancel : (a b : ℕ) → a * (h * h) ≤ b * (h * h) → a ≤ b
  cancel a b l = le_of_mul-le-mul_right l (mul-pos H H)

  -- c times the divisor, and twice c + 1/2 of it
  whole_part_of : c * (2 * (2 * h)) ≡ 4 * (c * h)
  whole_part_of = let a : 2 * (2 * h) ≡ 4 * h = omega arith in ap (λ (k : ℕ). c * k) a ∙ sym (mul_assoc c 4 h) ∙ ap (λ (k : ℕ). k * h) (mul_comm c 4) ∙ mul_assoc 4 c h

  half_more : (2 * c + 1) * h ≡ 2 * (c * h) + h
  half_more = let a : (2 * c + 1) * h ≡ 2 * c * h + 1 * h = add-mul (2 * c) 1 h in let b : 2 * c * h ≡ 2 * (c * h) = mul_assoc 2 c h in omega arith

  -- the root is at most c + 1/2 ..
  at_most : s * (2 * h * (2 * h)) ≤ (2 * c + 1) * h * ((2 * c + 1) * h)
  at_most =
      let m = (2 * c + 1) * h in
      let l : q ≤ 2 * m = omega (arith, half_away.down, whole_part_of, half_more) in
      elim (dec_lt z.t m) [
        | yes g ↦ le_trans (le_of_lt z.below) (let k : z.t + 1 ≤ m = omega arith in mul-le-mul k k)
        | no g ↦ (let e : z.t ≡ m = omega (arith, z.low) in le_of_eq (sym (z.whole (omega (arith, z.low))) ∙ ap (λ (k : ℕ). k * k) e))
      ]

  -- .. and at least c - 1/2
  at_least : (v : ℕ) → v + 1 ≡ 2 * c → v * h * (v * h) ≤ s * (2 * h * (2 * h))
  at_least v e =
      let a : (v + 1) * h ≡ v * h + 1 * h = add-mul v 1 h in
      let b : (v + 1) * h ≡ 2 * (c * h) = ap (λ (k : ℕ). k * h) e ∙ mul_assoc 2 c h in
      let l : v * h ≤ z.t = omega (arith, half_away.up, whole_part_of, z.high) in
      le_trans (mul-le-mul l l) z.from

  closest_below : s ≤ c * c + c
  closest_below =
      let l : 4 * s ≤ (2 * c + 1) * (2 * c + 1) = cancel (4 * s) ((2 * c + 1) * (2 * c + 1)) (rw (← four, ← mul-mul-mul_comm (2 * c + 1) h (2 * c + 1) h) at_most) in
      omega (arith, double_one c)

  closest_above : c * c < s + c
  closest_above =
      elim (eq-zero-or-pos c) [
        | inl e ↦ (let o : c * c ≡ 0 = ap (λ (k : ℕ). k * c) e ∙ zero-mul c in omega (arith, some))
        | inr p ↦
            (let v = 2 * c - 1 in
            let e : v + 1 ≡ 2 * c = omega arith in
            let o : (v + 1) * (v + 1) ≡ v * v + 2 * v + 1 = square_suc v in
            let d : (v + 1) * (v + 1) ≡ 4 * (c * c) = ap (λ (k : ℕ). k * k) e ∙ mul-mul-mul_comm 2 c 2 c in
            let l : v * v ≤ 4 * s = cancel (v * v) (4 * s) (rw (← four, ← mul-mul-mul_comm v h v h) (at_least v e)) in
            omega arith)
      ]

  closest_near : Near s c
  closest_near = record { below = closest_below; above = closest_above }

-- ---- the root of a number of n units, where n × 2 ^ 1074 is w × 2 ^ 52 × 2 ^ k × 2 ^ k

module _ (m : ℕ) (e : ℤ) (f : Held (suc m) e) (w k : ℕ) (square : split.units (suc m) e * 2 ^ 1074 ≡ w * 2 ^ 52 * (2 ^ k * 2 ^ k)) (full : 2 ^ 52 ≤ w) (narrow : w < 2 ^ 54) (few : k ≤ 1600) where
  abbrev s : ℕ
  s = w * 2 ^ 52

  abbrev h : ℕ
  h = 2 ^ (k + 1196)

  abbrev scaled : ℕ
  scaled = suc m * up e * 2 ^ 4542 / down e

  abbrev q : ℕ
  q = root_twice scaled

  abbrev r : ℕ
  r = nearest_root 53 s

  two_h : 2 * h ≡ 2 ^ (k + 1197)
  two_h = sym (pow-add 2 1 (k + 1196)) ∙ ap (λ (i : ℕ). 2 ^ i) (omega arith)

  four_h : 2 * (2 * h) ≡ 2 ^ (k + 1198)
  four_h = ap (λ (i : ℕ). 2 * i) two_h ∙ sym (pow-add 2 1 (k + 1197)) ∙ ap (λ (i : ℕ). 2 ^ i) (omega arith)

  -- what the root is taken of, in units of its own
  scaled_is : scaled ≡ s * (2 * h * (2 * h))
  scaled_is =
      let n = split.units (suc m) e in
      let u = in_units m e f in
      let a : suc m * up e * 2 ^ 4542 ≡ n * 2 ^ 3468 * down e =
      sym (mul_assoc (suc m * up e) (2 ^ 1074) (2 ^ 3468)) ∙ ap (λ (i : ℕ). i * 2 ^ 3468) u.exact ∙ mul_right_comm n (down e) (2 ^ 3468) in
      let b : n * 2 ^ 3468 ≡ s * (2 ^ k * 2 ^ k * 2 ^ 2394) =
      sym (mul_assoc n (2 ^ 1074) (2 ^ 2394)) ∙ ap (λ (i : ℕ). i * 2 ^ 2394) square ∙ mul_assoc s (2 ^ k * 2 ^ k) (2 ^ 2394) in
      let d : 2 ^ k * 2 ^ k * 2 ^ 2394 ≡ 2 * h * (2 * h) =
      mul-mul-mul_comm (2 ^ k) (2 ^ k) (2 ^ 1197) (2 ^ 1197) ∙ ap (λ (i : ℕ). i * i) (sym (pow-add 2 k 1197) ∙ sym two_h) in
      ap (λ (i : ℕ). i / down e) a ∙ mul-div_cancel (n * 2 ^ 3468) (down_pos e) ∙ b ∙ ap (λ (i : ℕ). s * i) d

  z : Twice (s * (2 * h * (2 * h))) q
  z = subst (λ (i : ℕ). Twice i q) scaled_is (twice scaled)

  H : 0 < h
  H = pow_pos (k + 1196)

  shifts : (i : ℕ) → 2 * (2 ^ i * (2 * h)) * 2 ^ 1074 ≡ 2 ^ (i + k) * 2 ^ 2272
  shifts i =
      rw two_h
      (ap (λ (a : ℕ). 2 * a * 2 ^ 1074) (sym (pow-add 2 i (k + 1197)))
      ∙ ap (λ (a : ℕ). a * 2 ^ 1074) (sym (pow-add 2 1 (i + (k + 1197))))
      ∙ sym (pow-add 2 (1 + (i + (k + 1197))) 1074)
      ∙ ap (λ (a : ℕ). 2 ^ a) (omega arith)
      ∙ pow-add 2 (i + k) 2272)

  -- q / 2 ^ 2272 in units has 53 digits above the last k
  digits : size (q * 2 ^ 1074 / 2 ^ 2272) ≡ 53 + k
  digits =
      let a : 2 ^ 52 * (2 * h) ≤ z.t = root_from s (2 * h) q z (2 ^ 52) (omega (arith, full)) in
      let b : z.t < 2 ^ 53 * (2 * h) = root_under s (2 * h) q z (2 ^ 53) (omega (arith, H)) (omega (arith, narrow)) in
      let low : 2 * (2 ^ 52 * (2 * h)) * 2 ^ 1074 ≤ q * 2 ^ 1074 = mul-le-mul_right (2 ^ 1074) (le_trans (mul-le-mul_left 2 a) z.low) in
      let high : q * 2 ^ 1074 < 2 * (2 ^ 53 * (2 * h)) * 2 ^ 1074 = mul-lt-mul_of_pos_right (omega (arith, z.high)) (pow_pos 1074) in
      let e : 53 + k ≡ suc (52 + k) = omega arith in
      let l : 2 ^ (52 + k) ≤ q * 2 ^ 1074 / 2 ^ 2272 = (le-div_iff_mul-le (pow_pos 2272)).1 (rw (← shifts 52) low) in
      let g : q * 2 ^ 1074 / 2 ^ 2272 < 2 ^ (53 + k) = (div-lt_iff_lt-mul (pow_pos 2272)).1 (rw (← shifts 53) high) in
      size_is (q * 2 ^ 1074 / 2 ^ 2272) (52 + k) l (subst (λ (d : ℕ). q * 2 ^ 1074 / 2 ^ 2272 < 2 ^ d) e g) ∙ sym e

  closest_is : closest (q * 2 ^ 1074) (2 ^ 2272 * 2 ^ k) ≡ r
  closest_is =
      let a : 2 ^ 1074 * (2 * (2 * h)) ≡ 2 ^ 2272 * 2 ^ k =
      ap (λ (i : ℕ). 2 ^ 1074 * i) four_h ∙ sym (pow-add 2 1074 (k + 1198)) ∙ ap (λ (i : ℕ). 2 ^ i) (omega arith) ∙ pow-add 2 2272 k in
      closest_same (q * 2 ^ 1074) (2 ^ 2272 * 2 ^ k) q (2 * (2 * h)) (mul-pos (pow_pos 2272) (pow_pos k)) (omega (arith, H))
      (mul_assoc q (2 ^ 1074) (2 * (2 * h)) ∙ ap (λ (i : ℕ). q * i) a)
      ∙ near_is 53 s (closest q (2 * (2 * h))) (omega (arith, full)) (omega (arith, narrow)) (closest_near s h q (omega (arith, full)) H z)

  fine : r * 2 ^ k < 2 ^ 2098
  fine = lt_of_le_of_lt (mul-le-mul_right (2 ^ k) (nearest_short w narrow)) (lt_of_le_of_lt (le_of_eq (sym (pow-add 2 53 k))) (pow-lt {i = 53 + k} {j = 2098} (omega arith)))

  pub root_counts : HasValue (sqrt binary64 (fin false (suc m) e)) false (r * 2 ^ k) (2 ^ 1074)
  unfolding sqrt
  root_counts =
      let d : size (q * 2 ^ 1074 / 2 ^ 2272) - 53 ≡ k = ap (λ (i : ℕ). i - 53) digits ∙ omega arith in
      let is : round binary64 false q (2 ^ 2272) ≡ units binary64 false r k =
      round_is binary64 false q (2 ^ 2272)
      ∙ ap (λ (i : ℕ). units binary64 false (closest (q * 2 ^ 1074) (2 ^ 2272 * 2 ^ i)) i) d
      ∙ ap (λ (i : ℕ). units binary64 false i k) closest_is in
      subst (λ (x : Float). HasValue x false (r * 2 ^ k) (2 ^ 1074)) (sym is) (units_val binary64 false r k fine)

-- ---- every number

positive_root : (m : ℕ) (e : ℤ) → T (fits binary64 (fin false (suc m) e)) → sqrt binary64 (fin false (suc m) e) ≡ SQRT (fin false (suc m) e)
unfolding SQRT split_of sqrt_steps
positive_root m e h =
    let f = held false m e h in
    let x = fin false (suc m) e in
    let t = taken m e h in
    let k = (size (split.units (suc m) e) - 1) / 2 + 485 in
    let v = root_counts m e f _ k (square m e h) (w_range m e h).0 (omega (arith, (w_range m e h).1)) (omega (arith, t.few)) in
    same_positive (sqrt binary64 x) (SQRT x)
    (positive_of_value (sqrt binary64 x) _ (2 ^ 1074) v (mul-pos (omega (arith, r_full m e h)) (pow_pos k)))
    (y_above m e h) (sqrt-fits binary64 x) (y_fits m e h)
    (units_are (sqrt binary64 x) false _ v ∙ sym (y_units m e h))

pub sqrt_operation : (x : Float) → T (fits binary64 x) → sqrt binary64 x ≡ SQRT x
unfolding sqrt SQRT split_of
sqrt_operation nan h = refl
sqrt_operation (inf true) h = refl
sqrt_operation (inf false) h = refl
sqrt_operation (fin s zero e) h = refl
sqrt_operation (fin true (suc m) e) h = refl
sqrt_operation (fin false (suc m) e) h = positive_root m e h
