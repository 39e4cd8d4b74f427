-- Powers of two as numbers and as floats: their product, their value, their bits, and the difference of two exponents.
use mathlib.Core.Path.{◌≡◌, refl, sym, ap, ◌∙◌}
use mathlib.Core.Bool.{false, not}
use Prim.Native.Nat.{ℕ, zero, suc, ◌+◌, ◌-◌, ◌*◌, ◌/◌, ◌%◌, ◌^◌, ◌≤◌}
use native.Mathlib.Nat.{not-suc-le-zero, mul_assoc, one-mul}
use native.Mathlib.Decide.{dec_le}
use native.Mathlib.Omega.{arith}
use lib.Count.{count_trailing_zeros}
use lib.Dec.{T}
use lib.Pow.{pow-add}
use lib.Ieee.{binary64, down, minus, of_bits, of_fields, odd, nan_bits}
use lib.Ieee.Digits.{minus_val}
use lib.Ieee.Exact.{HasValue}
use lib.Ieee.Bits.{nan_bits_above}
use borrow.Author.Tests.{le-leb, lt-leb, le-ltb, ne_eqb}
use Rattle.elementary.specs.Split.{two^}

-- ---- powers of two

pub raised : (r a b : ℕ) → r * 2 ^ a * 2 ^ b ≡ r * 2 ^ (a + b)
raised r a b = mul_assoc r (2 ^ a) (2 ^ b) ∙ ap (λ (i : ℕ). r * i) (sym (pow-add 2 a b))

pub power_value : (a b : ℕ) → HasValue (two^ (minus a b)) false (2 ^ a) (2 ^ b)
power_value a b = (refl, minus_val 1 a b ∙ ap (λ (i : ℕ). i * down (minus a b)) (one-mul (2 ^ a)))

-- ---- a - b, both raised by d
pub minus_shift : (a b d : ℕ) → minus (a + d) (b + d) ≡ minus a b
minus_shift a b d =
    elim (dec_le b a) [
      | yes h ↦ let e : a + d - (b + d) ≡ a - b = omega arith in rw (le-leb b a h, le-leb (b + d) (a + d) (omega arith), e)
      | no h ↦ let e : b + d - suc (a + d) ≡ b - suc a = omega arith in rw (lt-leb b a (omega arith), lt-leb (b + d) (a + d) (omega arith), e)
    ]

-- ---- the pattern with the field x and no fraction

pub no_nan : (x : ℕ) → x ≤ 2046 → T (not (nan_bits binary64 (x * 2 ^ 52)))
no_nan x h = rw (nan_bits_above binary64 (x * 2 ^ 52), le-ltb (2047 * 2 ^ 52) (x * 2 ^ 52 % 2 ^ 63) (omega arith)) tt

fields : (x : ℕ) → suc x ≤ 2046 → of_fields binary64 false (suc x) 0 ≡ two^ (minus (suc x) 1023)
unfolding of_fields odd count_trailing_zeros
fields x h =
    let e : x + 52 ≡ suc x + 51 = omega arith in
    rw (ne_eqb (suc x) 2047 (λ (z : suc x ≡ 2047). omega arith), e, minus_shift (suc x) 1023 51)

pub power_bits : (x : ℕ) → 1 ≤ x → x ≤ 2046 → of_bits binary64 (x * 2 ^ 52) ≡ two^ (minus x 1023)
unfolding of_bits
power_bits zero l h = absurd (not-suc-le-zero l)
power_bits (suc x) l h =
    let b = suc x * 2 ^ 52 in
    let f : b % 2 ^ 63 / 2 ^ 52 ≡ suc x = omega arith in
    let t : b % 2 ^ 52 ≡ 0 = omega arith in
    rw (lt-leb (2 ^ 63) b (omega arith), f, t) (fields x h)
