-- How large the results of rounded operations can be, as whole-number bounds: a fraction of at most N rounds to at most N, since N itself is a float.
use mathlib.Core.Path.{◌≡◌, refl, sym, ap, ◌∙◌}
use mathlib.Core.Bool.{Bool, true, false, cond, ◌&&◌, ◌||◌, beq, true≢false}
use Prim.Native.Nat.{ℕ, ◌+◌, ◌-◌, ◌*◌, ◌/◌, ◌%◌, ◌^◌, ◌≤◌, ◌<◌}
use native.Mathlib.Nat.{mul_assoc, mul_comm, mul_right_comm, mul-one, one-mul, add-mul, mul-mul-mul_comm, mul-pos, le_trans, le_of_eq, mul-le-mul_right, le_of_mul-le-mul_right, zero-lt-suc, lt_of_le_of_lt, lt_of_lt_of_le, mod-one, div-one, div-le_of_le-mul}
use native.Mathlib.Omega.{arith}
use lib.Dec.{ltb, eqb, lit≤, lit<}
use lib.Pow.{pow_pos, pow-add, pow_mono, pow-lt, shl_lt}
use lib.Ieee.{Float, nan, inf, fin, binary64, up, down, round, units, size, unlike, sum, add, div, neg, le, is_nan, of_bits}
use lib.Ieee.Fits.{down_pos, round_is}
use lib.Ieee.Exact.{HasValue, units_val}
use lib.Ieee.Nearest.{closest, closest_mono}
use lib.Ieee.Digits.{back, size-le}
use borrow.Author.Tests.{ltb-false}
use Rattle.elementary.specs.Arithmetic.{◌⊕◌, ◌⊘◌, ◌≼◌}
use Rattle.elementary.specs.Constants.{0·5, ln_2, 710·0, 746·0}
use Rattle.elementary.specs.Split.{Within, floor_of}

-- ---- a rounded fraction

within_of : (s : Bool) (x : Float) (a c n : ℕ) → 0 < c → HasValue x s a c → a ≤ n * c → Within n x
within_of s nan a c n C v h = v
within_of s (inf t) a c n C v h = v
within_of s (fin t m e) a c n C v h = le_of_mul-le-mul_right (le_trans (le_of_eq v.1) (le_trans (mul-le-mul_right (down e) h) (le_of_eq (mul_right_comm n c (down e))))) C

closest_whole : (x : ℕ) → closest x 1 ≡ x
closest_whole x = rw (mod-one x, div-one x)

-- a bound that is itself a float: w × 2 ^ j, with w of no more digits than a float has
pub record Fine (n : ℕ) : Type 0 where
  pub w : ℕ
  pub j : ℕ
  pub is : n ≡ w * 2 ^ j
  pub narrow : w < 2 ^ 53
  pub under : w * 2 ^ (1074 + j) < 2 ^ 2098

pub small : (n : ℕ) → n < 2 ^ 53 → Fine n
small n h = record { w = n; j = 0; is = sym (mul-one n); narrow = h; under = lt_of_lt_of_le (shl_lt 53 1074 h) (pow_mono {i = 1127} {j = 2098} (lit≤ tt)) }

pub power : (j : ℕ) → j ≤ 1023 → Fine (2 ^ j)
power j h = record { w = 1; j = j; is = sym (one-mul (2 ^ j)); narrow = lit< tt; under = rw (one-mul (2 ^ (1074 + j))) (pow-lt {i = 1074 + j} {j = 2098} (omega arith)) }

pub round_within : (s : Bool) (a c n : ℕ) → 0 < c → Fine n → a ≤ n * c → Within n (round binary64 s a c)
round_within s a c n C F h =
    let w = F.w in
    let j = F.j in
    let top = a * 2 ^ 1074 in
    let k = size (top / c) - 53 in
    let u = c * 2 ^ k in
    let q = closest top u in
    let bound : n * 2 ^ 1074 ≡ w * 2 ^ (1074 + j) = ap (λ (z : ℕ). z * 2 ^ 1074) F.is ∙ mul_assoc w (2 ^ j) (2 ^ 1074) ∙ ap (λ (z : ℕ). w * z) (mul_comm (2 ^ j) (2 ^ 1074) ∙ sym (pow-add 2 1074 j)) in
    let less : top ≤ w * 2 ^ (1074 + j) * c = le_trans (mul-le-mul_right (2 ^ 1074) h) (le_of_eq (mul_right_comm n c (2 ^ 1074) ∙ ap (λ (z : ℕ). z * c) bound)) in
    let fits : w * 2 ^ (1074 + j) < 2 ^ (53 + (1074 + j)) = shl_lt 53 (1074 + j) F.narrow in
    let digits : size (top / c) ≤ 53 + (1074 + j) = size-le (top / c) (53 + (1074 + j)) (lt_of_le_of_lt (div-le_of_le-mul c (le_trans less (le_of_eq (mul_comm (w * 2 ^ (1074 + j)) c)))) fits) in
    let whole : w * 2 ^ (1074 + j - k) * 2 ^ k ≡ w * 2 ^ (1074 + j) = mul_assoc w (2 ^ (1074 + j - k)) (2 ^ k) ∙ ap (λ (z : ℕ). w * z) (sym (pow-add 2 (1074 + j - k) k) ∙ ap (λ (z : ℕ). 2 ^ z) (back (1074 + j) k (omega arith))) in
    let r = w * 2 ^ (1074 + j - k) in
    let few : q ≤ r =
    le_trans
    (closest_mono top u r 1 (mul-pos C (pow_pos k)) (zero-lt-suc 0)
    (le_trans (le_of_eq (mul-one top)) (le_trans less (le_of_eq (ap (λ (z : ℕ). z * c) (sym whole) ∙ mul_assoc r (2 ^ k) c ∙ ap (λ (z : ℕ). r * z) (mul_comm (2 ^ k) c))))))
    (le_of_eq (closest_whole r)) in
    let held : q * 2 ^ k ≤ w * 2 ^ (1074 + j) = le_trans (mul-le-mul_right (2 ^ k) few) (le_of_eq whole) in
    rw (round_is binary64 s a c)
    (within_of s (units binary64 s q k) (q * 2 ^ k) (2 ^ 1074) n (pow_pos 1074) (units_val binary64 s q k (lt_of_le_of_lt held F.under)) (le_trans held (le_of_eq (sym bound))))

-- ---- y / LN_2 is at most twice y in size, since LN_2 is more than 1/2
pub quotient_within : (y : Float) (n : ℕ) → Fine (2 * n) → Within n y → Within (2 * n) (y ⊘ ln_2)
unfolding div of_bits
quotient_within nan n h w = w
quotient_within (inf s) n h w = w
quotient_within (fin s m e) n h w =
    let c = 6243314768165359 * 1 * down e in
    round_within (unlike s false) (m * up e * 2 ^ 53) c (2 * n) (mul-pos (lit< tt) (down_pos e)) h
    (rw (mul-mul-mul_comm 2 n (6243314768165359 * 1) (down e)) (omega arith))

-- ---- a sum is at most the sum of the sizes
pub sum_within : (s t : Bool) (a b c n : ℕ) → 0 < c → Fine n → a + b ≤ n * c → Within n (sum binary64 s a t b c)
unfolding sum
sum_within s t a b c n C N h = go (beq s t) (ltb a b)
  where
    go : (x y : Bool) → Within n (cond x (round binary64 s (a + b) c) (cond y (round binary64 t (b - a) c) (round binary64 (s && ltb b a) (a - b) c)))
    go true y = round_within s (a + b) c n C N h
    go false true = round_within t (b - a) c n C N (omega arith)
    go false false = round_within (s && ltb b a) (a - b) c n C N (omega arith)

pub half_more_within : (x : Float) (n : ℕ) → Fine (n + 1) → Within n x → Within (n + 1) (x ⊕ 0·5)
unfolding add of_bits
half_more_within nan n h w = w
half_more_within (inf s) n h w = w
half_more_within (fin s m e) n h w =
    let z = down e in
    let r : (n + 1) * (z * 2) ≡ n * z * 2 + 1 * (z * 2) = add-mul n 1 (z * 2) ∙ ap (λ (k : ℕ). k + 1 * (z * 2)) (sym (mul_assoc n z 2)) in
    sum_within s false (m * up e * 2) (1 * 1 * z) (z * 2) (n + 1) (mul-pos (down_pos e) (lit< tt)) h (rw r (omega arith))

-- ---- the floor of x is at most one more than x in size
size_le_more : (s t : Bool) (q r n : ℕ) → q ≤ n → r ≤ n + 1 → cond s (cond t q r) q ≤ n + 1
size_le_more true true q r n h k = omega arith
size_le_more true false q r n h k = k
size_le_more false t q r n h k = omega arith

pub floor_within : (x : Float) (n : ℕ) → Within n x → (floor_of x).size ≤ n + 1
unfolding floor_of
floor_within nan n w = absurd w
floor_within (inf s) n w = absurd w
floor_within (fin s m e) n w =
    let h = div-le_of_le-mul (down e) (le_trans w (le_of_eq (mul_comm n (down e)))) in
    size_le_more s (eqb (m * up e % down e) 0) (m * up e / down e) _ n h (omega (arith, h))

pub within_more : (x : Float) (n k : ℕ) → n ≤ k → Within n x → Within k x
within_more nan n k h w = w
within_more (inf s) n k h w = w
within_more (fin s m e) n k h w = le_trans w (mul-le-mul_right (down e) h)

-- ---- between EXP's bounds
pub not_or : (a b : Bool) → (a || b) ≡ false → a ≡ false
not_or true b h = h
not_or false b h = refl

pub between_bounds : (y : Float) → is_nan y ≡ false → (710·0 ≼ y) ≡ false → (y ≼ neg 746·0) ≡ false → Within 746 y
unfolding is_nan le neg of_bits
between_bounds nan a b c = true≢false a
between_bounds (inf false) a b c = true≢false b
between_bounds (inf true) a b c = true≢false c
between_bounds (fin false m e) a b c = let h = ltb-false (355 * 2 * down e) (m * up e * 1) (not_or _ _ b) in omega arith
between_bounds (fin true m e) a b c = let h = ltb-false (373 * 2 * down e) (m * up e * 1) (not_or _ _ c) in omega arith

-- there y / LN_2 + 0.5 is at most 1493 in size
pub exponent_within : (y : Float) → Within 746 y → Within 1493 (y ⊘ ln_2 ⊕ 0·5)
exponent_within y w = half_more_within (y ⊘ ln_2) 1492 (small 1493 (lit< tt)) (quotient_within y 746 (small 1492 (lit< tt)) w)
