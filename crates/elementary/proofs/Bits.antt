-- `split_of` speaks of a float's value, and the code of its 64 bits, class by class: both take the float apart alike (`split_class_lem`).
use mathlib.Core.Path.{◌≡◌, refl, sym, ap, ◌∙◌, subst, subst₂}
use mathlib.Core.Bool.{Bool, false, cond, ◌&&◌}
use Prim.Native.Nat.{ℕ, zero, suc, ◌+◌, ◌-◌, ◌*◌, ◌/◌, ◌%◌, ◌^◌, ◌≤◌, ◌<◌}
use native.Mathlib.Nat.{mul_assoc, mul_comm, mul-one, zero-mul, zero-div, mul-div_cancel, div-lt_iff_lt-mul, le-div_iff_mul-le, lt_of_lt_of_le, lt_of_not-le, not-le_of_lt, le_of_suc-le-suc, lt_irrefl, le_antisymm, mul_right_comm, le_of_eq, mul-le-mul_right, mul-lt-mul_of_pos_right, lt_of_mul-lt-mul_right, mul-pos, zero-lt-suc}
use native.Mathlib.Omega.{arith}
use lib.IntN.{ℤ, pos, negsuc}
use lib.Dec.{T, leb, ltb, eqb, ltb→lt, leb→le}
use lib.Arith.{lt-one}
use lib.Pow.{shl_lt, shl_exact, pow-add, pow_pos, pow_mono, pow-lt}
use lib.Count.{count_leading_zeros, leading_top}
use lib.Ieee.{Float, nan, inf, fin, binary64, up, down, size, fits, to_bits}
use lib.Ieee.Bits.{of_bits-to_bits}
use lib.Ieee.Digits.{back, size-lt, size-le, size_reaches}
use lib.Ieee.Fits.{down_pos, and_l, and_r}
use lib.Ieee.Exact.{HasValue}
use Rattle.elementary.specs.declared.class.FloatClass.{FloatClass}
use Rattle.elementary.specs.declared.class.FloatClass.TheVariants.{Zero, Subnormal, Normal, Infinity, NaN}
use Rattle.elementary.specs.Classes.{sign_bit, exponent_field, significand_field, InClass, Stands, split_class}
use Rattle.elementary.specs.declared.split.Parts.{Parts}
use Rattle.elementary.specs.declared.split.Parts.TheVariants.{Finite}
use Rattle.elementary.specs.Figures.{Figures, Taken}
use Rattle.elementary.specs.Split.{units, normalised, finite_parts, split_of}
use Rattle.elementary.specs.Nearest.{units_of}
use Rattle.elementary.proofs.Classes.{field_narrow, stands, no_zero}

abbrev pub shift : ℕ → ℕ
shift t = count_leading_zeros 64 t - 11

-- ---- how many digits n has

pub size_is : (n j : ℕ) → 2 ^ j ≤ n → n < 2 ^ suc j → size n ≡ suc j
size_is n j a b = le_antisymm (size-le n (suc j) b) (lt_of_not-le (λ (g : size n ≤ j). not-le_of_lt (lt_of_lt_of_le (size-lt n) (pow_mono g)) a))

leading_size : (t : ℕ) → 0 < t → t < 2 ^ 64 → count_leading_zeros 64 t + size t ≡ 64
leading_size t p h = let l = leading_top 64 t p h in rw (size_is t l.0 l.2 l.3) l.1

small_normalised : (n d : ℕ) → d ≤ 53 → normalised n d ≡ n * 2 ^ (53 - d)
small_normalised n d h =
    ap (λ (a : ℕ). n * a / 2 ^ d) (ap (λ (a : ℕ). 2 ^ a) (sym (back 53 d h)) ∙ pow-add 2 (53 - d) d)
    ∙ ap (λ (a : ℕ). a / 2 ^ d) (sym (mul_assoc n (2 ^ (53 - d)) (2 ^ d)))
    ∙ mul-div_cancel (n * 2 ^ (53 - d)) (pow_pos d)

-- what is known of the figures of a finite number
pub taken_units : (n : ℕ) → 0 < n → n < 2 ^ 2098 → Taken (normalised n (size n)) (size n)
taken_units n p h =
    let d = size n in
    let nz : (d ≡ 0 → ⊥) = λ (z : d ≡ 0). lt_irrefl 0 (subst (λ (a : ℕ). 0 < a) (lt-one (subst (λ (k : ℕ). n < 2 ^ k) z (size-lt n))) p) in
    let two : 2 ^ d ≡ 2 ^ (d - 1) * 2 = ap (λ (k : ℕ). 2 ^ k) (sym (back d 1 (omega arith))) ∙ pow-add 2 (d - 1) 1 in
    let half : 2 ^ (d - 1) ≤ n = size_reaches n (d - 1) (omega arith) in
    record {
      full = (le-div_iff_mul-le (pow_pos d)).1 (rw two (omega arith));
      narrow = (div-lt_iff_lt-mul (pow_pos d)).1 (omega (arith, size-lt n));
      some = omega arith;
      few = size-le n 2098 h;
    }

-- a field other than zero has from 12 to 63 leading zeros; shifted, nothing of it is lost and it has 53 digits
pub record Room (t : ℕ) : Type 0 where
  pub low : 12 ≤ count_leading_zeros 64 t
  pub high : count_leading_zeros 64 t ≤ 63
  pub kept : t * 2 ^ shift t % 2 ^ 64 ≡ normalised t (size t)
  pub digits : 53 - shift t ≡ size t
  pub taken : Taken (normalised t (size t)) (size t)

pub room : (t : ℕ) → (t ≡ 0 → ⊥) → t < 2 ^ 52 → Room t
room t nz h =
    let l : count_leading_zeros 64 t + size t ≡ 64 = leading_size t (omega arith) (omega arith) in
    let d : size t ≤ 52 = size-le t 52 h in
    let p : (size t ≡ 0 → ⊥) = λ (z : size t ≡ 0). nz (lt-one (subst (λ (k : ℕ). t < 2 ^ k) z (size-lt t))) in
    let k : shift t ≡ 53 - size t = omega arith in
    record {
      low = omega arith;
      high = omega arith;
      kept = shl_exact (size t) (shift t) 64 (size-lt t) (omega arith) ∙ ap (λ (a : ℕ). t * 2 ^ a) k ∙ sym (small_normalised t (size t) (omega arith));
      digits = omega arith;
      taken = taken_units t (omega arith) (lt_of_lt_of_le h (pow_mono {i = 52} {j = 2098} (omega arith)));
    }

-- ---- what binary64 holds is a whole number of 2 ^ -1074

-- what `fits` says of a number other than zero
pub record Held (m : ℕ) (e : ℤ) : Type 0 where
  pub narrow : m < 2 ^ 53
  pub fine : down e ≤ 2 ^ 1074
  pub finite : m * up e < 2 ^ 1024 * down e

pub held : (s : Bool) (m : ℕ) (e : ℤ) → T (fits binary64 (fin s (suc m) e)) → Held (suc m) e
unfolding fits
held s m e t =
    let a = eqb (suc m % 2) 1 in
    let b = ltb (suc m) (2 ^ 53) in
    let c = leb (down e) (2 ^ 1074) in
    let u = and_l (a && b && c) (ltb (suc m * up e) (2 ^ 1024 * down e)) t in
    record {
      narrow = ltb→lt (suc m) (2 ^ 53) (and_r a b (and_l (a && b) c u));
      fine = leb→le (down e) (2 ^ 1074) (and_r (a && b) c u);
      finite = ltb→lt (suc m * up e) (2 ^ 1024 * down e) (and_r (a && b && c) (ltb (suc m * up e) (2 ^ 1024 * down e)) t);
    }

pub exponent_le : (k l : ℕ) → 2 ^ k ≤ 2 ^ l → k ≤ l
exponent_le k l h = le_of_suc-le-suc (lt_of_not-le (λ (g : suc l ≤ k). not-le_of_lt (pow-lt g) h))

shape : (l m : ℕ) (e : ℤ) → down e ≤ 2 ^ l → (j : ℕ) × (m * up e * 2 ^ l ≡ m * 2 ^ j * down e)
shape l m (pos k) h = (k + l, simp (mul-one, mul_assoc, pow-add))
shape l m (negsuc k) h =
    let r : l - suc k + suc k ≡ l = back l (suc k) (exponent_le (suc k) l h) in
    (l - suc k, rw (mul-one m, mul_assoc, ← pow-add 2 (l - suc k) (suc k), r))

-- a float that is u units has that many
pub units_are : (x : Float) (s : Bool) (u : ℕ) → HasValue x s u (2 ^ 1074) → units_of x ≡ u
units_are nan s u v = absurd v
units_are (inf t) s u v = absurd v
units_are (fin t m e) s u v = ap (λ (a : ℕ). a / down e) v.1 ∙ mul-div_cancel u (down_pos e)

pub no_units : (e : ℤ) → units 0 e ≡ 0
no_units e = rw (zero-mul (up e), zero-mul (2 ^ 1074)) (zero-div (down e))

-- x is n units: m × 2 ^ j for some j, nothing is lost by the division, and n is above zero and below 2 ^ 2098
pub record Units (m : ℕ) (e : ℤ) (n : ℕ) : Type 0 where
  pub exponent : ℕ
  pub whole : n ≡ m * 2 ^ exponent
  pub exact : m * up e * 2 ^ 1074 ≡ n * down e
  pub some : 0 < n
  pub few : n < 2 ^ 2098

pub in_units : (m : ℕ) (e : ℤ) → Held (suc m) e → Units (suc m) e (units (suc m) e)
in_units m e h =
    let z = shape 1074 (suc m) e h.fine in
    let w : units (suc m) e ≡ suc m * 2 ^ z.0 = units_are (fin false (suc m) e) false (suc m * 2 ^ z.0) (refl, z.1) in
    let x : suc m * up e * 2 ^ 1074 ≡ units (suc m) e * down e = z.1 ∙ ap (λ (a : ℕ). a * down e) (sym w) in
    record {
      exponent = z.0;
      whole = w;
      exact = x;
      some = subst (λ (a : ℕ). 0 < a) (sym w) (mul-pos (zero-lt-suc m) (pow_pos z.0));
      few =
          lt_of_mul-lt-mul_right (down e)
          (subst (λ (a : ℕ). a < 2 ^ 2098 * down e) x
          (lt_of_lt_of_le (mul-lt-mul_of_pos_right h.finite (pow_pos 1074)) (le_of_eq (mul_right_comm (2 ^ 1024) (down e) (2 ^ 1074)))));
    }

-- n units, by the bits: `to_bits`
abbrev pub bits_of : Bool → ℕ → ℕ
bits_of s n = cond s (2 ^ 63) 0 + (size n - 53) * 2 ^ 52 + n / 2 ^ (size n - 53)

pub to_bits_lem : (s : Bool) (m : ℕ) (e : ℤ) → to_bits binary64 (fin s m e) ≡ bits_of s (units m e)
unfolding to_bits
to_bits_lem s m e = refl

-- ---- the split of each class

-- x is n units
split_units : (x : Float) (s : Bool) (n : ℕ) → HasValue x s n (2 ^ 1074) → 0 < n → split_of x ≡ finite_parts s (normalised n (size n)) (size n)
unfolding split_of
split_units nan s n v p = absurd v
split_units (inf t) s n v p = absurd v
split_units (fin t zero e) s n v p = absurd (no_zero t s e n v p)
split_units (fin t (suc m) e) s n v p =
    let u : units (suc m) e ≡ n = units_are (fin t (suc m) e) s n v in
    rw (v.0, u)

-- g, of 53 digits, with k places below it
full_size : (g k : ℕ) → 2 ^ 52 ≤ g → g < 2 ^ 53 → size (g * 2 ^ k) ≡ 53 + k
full_size g k l h =
    let e : 53 + k ≡ suc (52 + k) = omega arith in
    size_is (g * 2 ^ k) (52 + k) (subst (λ (a : ℕ). a ≤ g * 2 ^ k) (sym (pow-add 2 52 k)) (mul-le-mul_right (2 ^ k) l)) (subst (λ (d : ℕ). g * 2 ^ k < 2 ^ d) e (shl_lt 53 k h)) ∙ sym e

full_normalised : (g k : ℕ) → normalised (g * 2 ^ k) (53 + k) ≡ g
full_normalised g k =
    ap (λ (a : ℕ). a / 2 ^ (53 + k)) (mul_assoc g (2 ^ k) (2 ^ 53) ∙ ap (λ (a : ℕ). g * a) (mul_comm (2 ^ k) (2 ^ 53) ∙ sym (pow-add 2 53 k))) ∙ mul-div_cancel g (pow_pos (53 + k))

normal_split : (x : Float) (s : Bool) (f t : ℕ) → HasValue x s ((2 ^ 52 + t) * 2 ^ (f - 1)) (2 ^ 1074) → 1 ≤ f → t < 2 ^ 52 → split_of x ≡ finite_parts s (2 ^ 52 + t) (f + 52)
normal_split x s f t v p h =
    let g = 2 ^ 52 + t in
    let k = f - 1 in
    let z : size (g * 2 ^ k) ≡ 53 + k = full_size g k (omega arith) (omega arith) in
    let d : 53 + k ≡ f + 52 = omega arith in
    split_units x s (g * 2 ^ k) v (mul-pos (omega arith) (pow_pos k)) ∙ rw (z, full_normalised g k, d)

-- what the bits stand for is taken apart as the class says
pub split_class_lem : (x : Float) → T (fits binary64 x) → (c : FloatClass) → InClass c (to_bits binary64 x) → split_of x ≡ split_class c (to_bits binary64 x)
split_class_lem x h c i = go c i (subst (Stands c b) (of_bits-to_bits binary64 x h) (stands c b i))
  where
    b : ℕ
    b = to_bits binary64 x

    go : (c : FloatClass) → InClass c b → Stands c b x → split_of x ≡ split_class c b
    go Zero i v = ap split_of v ∙ unfold split_of in refl
    go Subnormal i v = split_units x (sign_bit b) (significand_field b) v (omega (arith, i.1))
    go Normal i v = normal_split x (sign_bit b) (exponent_field b) (significand_field b) v i.0 (field_narrow b)
    go Infinity i v = ap split_of v ∙ unfold split_of in refl
    go NaN i v = ap split_of v ∙ unfold split_of in refl

-- the figures of a finite number other than zero
abbrev figures_of : Parts → Figures
figures_of (Finite s m) = m
figures_of _ = record { significand = 0; digits = 0 }

-- what is known of them
pub taken : (x : Float) {s : Bool} {g d : ℕ} → T (fits binary64 x) → split_of x ≡ finite_parts s g d → Taken g d
unfolding split_of
taken nan h e = let z : ◌≡◌ {A = ℕ} 0 1 = cc in absurd (omega arith)
taken (inf s) h e = let z : ◌≡◌ {A = ℕ} 0 1 = cc in absurd (omega arith)
taken (fin s zero k) h e = let z : ◌≡◌ {A = ℕ} 0 1 = cc in absurd (omega arith)
taken (fin s (suc m) k) h e =
    let u = in_units m k (held s m k h) in
    subst₂ Taken (ap (λ p. (figures_of p).significand) e) (ap (λ p. (figures_of p).digits) e) (taken_units (units (suc m) k) u.some u.few)
