-- Of any 64 bits exactly one of IEEE 754's five classes holds, and what the class says of the float that they stand for is so, whatever the sign and a NaN's payload are.
use mathlib.Core.Path.{◌≡◌, refl, sym, ap, ◌∙◌, subst}
use mathlib.Core.Bool.{Bool, cond}
use mathlib.Core.List.{List, [], ◌∷◌, map}
use Prim.Native.Nat.{ℕ, zero, suc, ◌+◌, ◌-◌, ◌*◌, ◌^◌, ◌≤◌, ◌<◌}
use native.Mathlib.Nat.{mul-one, zero-mul, mul_assoc, mul_comm, mul-pos, mod-lt, le_trans, lt_of_lt_of_le, le-add_right, le-mul_of_pos_right, mul-le-mul_right, mul-lt-mul_of_pos_right, le_of_mul-le-mul_right, lt_of_mul-lt-mul_right, lt_irrefl}
use native.Mathlib.Omega.{arith}
use native.Mathlib.Decide.{dec_lt, ℕ_discrete}
use lib.Dec.{T, eqb, ltb}
use lib.IntN.{ℤ, pos}
use lib.Pow.{pow_pos}
use lib.Ieee.{Float, nan, inf, fin, binary64, up, down, odd, of_fields, of_bits, to_bits, fits}
use lib.Ieee.Bits.{of_bits-to_bits}
use lib.Ieee.Fits.{down_pos}
use lib.Ieee.Exact.{HasValue, odd_sign}
use borrow.Author.Tests.{ne_eqb, lt-ltb, le-ltb}
use Rattle.elementary.specs.declared.class.FloatClass.{FloatClass}
use Rattle.elementary.specs.declared.class.FloatClass.TheVariants.{Zero, Subnormal, Normal, Infinity, NaN}
use Rattle.elementary.specs.Classes.{sign_bit, exponent_field, significand_field, InClass, OneClass, Stands, value_class}

pub field_narrow : (b : ℕ) → significand_field b < 2 ^ 52
field_narrow b = mod-lt b (pow_pos 52)

-- ---- the values

fields : (b : ℕ) → of_bits binary64 b ≡ of_fields binary64 (sign_bit b) (exponent_field b) (significand_field b)
unfolding of_bits
fields b = refl

zero_fields : (s : Bool) → of_fields binary64 s 0 0 ≡ fin s 0 (pos 0)
unfolding of_fields odd
zero_fields s = refl

subnormal_fields : (s : Bool) (t : ℕ) → HasValue (of_fields binary64 s 0 t) s t (2 ^ 1074)
unfolding of_fields
subnormal_fields s t = subst (λ (n : ℕ). HasValue (odd 53 s t 0 1074) s n (2 ^ 1074)) (mul-one t) (odd_sign 53 s t 0 1074)

normal_fields : (s : Bool) (x t : ℕ) → 1 ≤ x → x ≤ 2046 → HasValue (of_fields binary64 s x t) s ((2 ^ 52 + t) * 2 ^ (x - 1)) (2 ^ 1074)
unfolding of_fields
normal_fields s zero t l h = absurd (omega arith)
normal_fields s (suc x) t l h =
    let e : of_fields binary64 s (suc x) t ≡ odd 53 s (2 ^ 52 + t) x 1074 = rw (ne_eqb (suc x) 2047 (λ (e : suc x ≡ 2047). omega arith)) in
    let p : suc x - 1 ≡ x = omega arith in
    rw (e, p) (odd_sign 53 s (2 ^ 52 + t) x 1074)

infinity_fields : (s : Bool) → of_fields binary64 s 2047 0 ≡ inf s
unfolding of_fields
infinity_fields s = refl

nan_fields : (s : Bool) (t : ℕ) → (t ≡ 0 → ⊥) → of_fields binary64 s 2047 t ≡ nan
unfolding of_fields
nan_fields s t h = rw (ne_eqb t 0 h)

pub stands : (c : FloatClass) (b : ℕ) → InClass c b → Stands c b (of_bits binary64 b)
stands Zero b i = rw (fields b, i.0, i.1) (zero_fields (sign_bit b))
stands Subnormal b i = rw (fields b, i.0) (subnormal_fields (sign_bit b) (significand_field b))
stands Normal b i = rw (fields b) (normal_fields (sign_bit b) (exponent_field b) (significand_field b) i.0 i.1)
stands Infinity b i = rw (fields b, i.0, i.1) (infinity_fields (sign_bit b))
stands NaN b i = rw (fields b, i.0) (nan_fields (sign_bit b) (significand_field b) i.1)

-- ---- exactly one class

some : (b : ℕ) → (c : FloatClass) × InClass c b
some b =
    elim (ℕ_discrete (exponent_field b) 0) [
      | yes e ↦ elim (ℕ_discrete (significand_field b) 0) [ yes t ↦ (Zero, (e, t)) | no t ↦ (Subnormal, (e, t)) ]
      | no e ↦ elim (ℕ_discrete (exponent_field b) 2047) [
        | yes f ↦ elim (ℕ_discrete (significand_field b) 0) [ yes t ↦ (Infinity, (f, t)) | no t ↦ (NaN, (f, t)) ]
        | no f ↦ (Normal, (omega arith, omega arith))
      ]
    ]

-- the class by one test after another
abbrev named : ℕ → FloatClass
named b =
    let zero = eqb (significand_field b) 0 in
    cond (eqb (exponent_field b) 0) (cond zero Zero Subnormal) (cond (eqb (exponent_field b) 2047) (cond zero Infinity NaN) Normal)

is_named : (c : FloatClass) (b : ℕ) → InClass c b → c ≡ named b
is_named Zero b i = rw (i.0, i.1)
is_named Subnormal b i = rw (i.0, ne_eqb _ _ i.1)
is_named Normal b i = rw (ne_eqb (exponent_field b) 0 (λ (e : exponent_field b ≡ 0). omega arith), ne_eqb (exponent_field b) 2047 (λ (e : exponent_field b ≡ 2047). omega arith))
is_named Infinity b i = rw (i.0, i.1)
is_named NaN b i = rw (i.0, ne_eqb _ _ i.1)

named_holds : (b : ℕ) → InClass (named b) b
named_holds b = let s = some b in subst (λ (c : FloatClass). InClass c b) (is_named s.0 b s.1) s.1

pub one_class : (b : ℕ) → OneClass b
one_class b = record { class = named b; holds = named_holds b; only = λ (c : FloatClass) (i : InClass c b). is_named c b i }

-- ---- how large the numbers are

-- a zero is no number of units above 0
pub no_zero : (t s : Bool) (e : ℤ) (n : ℕ) → HasValue (fin t zero e) s n (2 ^ 1074) → 0 < n → ⊥
no_zero t s e n v p = lt_irrefl 0 (subst (λ (k : ℕ). 0 < k) (sym v.1 ∙ ap (λ (k : ℕ). k * 2 ^ 1074) (zero-mul (up e)) ∙ zero-mul (2 ^ 1074)) (mul-pos p (down_pos e)))

-- a < d where n < 2 ^ 52, for a / d = n / 2 ^ 52
below : (a d n : ℕ) → 0 < d → a * 2 ^ 52 ≡ n * d → ltb a d ≡ ltb n (2 ^ 52)
below a d n D v =
    elim (dec_lt n (2 ^ 52)) [
      | yes l ↦ lt-ltb a d (lt_of_mul-lt-mul_right (2 ^ 52) (rw v (rw (mul_comm d (2 ^ 52)) (mul-lt-mul_of_pos_right l D)))) ∙ sym (lt-ltb n (2 ^ 52) l)
      | no l ↦
          let h : 2 ^ 52 ≤ n = omega arith in
          le-ltb a d (le_of_mul-le-mul_right (rw v (rw (mul_comm d (2 ^ 52)) (mul-le-mul_right d h))) (pow_pos 52)) ∙ sym (le-ltb n (2 ^ 52) h)
    ]

-- n units of 2 ^ -1074 are subnormal below 2 ^ 52 of them
by_units : (x : Float) (s : Bool) (n : ℕ) → HasValue x s n (2 ^ 1074) → 0 < n → value_class x ≡ cond (ltb n (2 ^ 52)) Subnormal Normal
by_units nan s n v p = absurd v
by_units (inf t) s n v p = absurd v
by_units (fin t zero e) s n v p = absurd (no_zero t s e n v p)
by_units (fin t (suc m) e) s n v p = rw (below (suc m * up e * 2 ^ 1022) (down e) n (down_pos e) (mul_assoc (suc m * up e) (2 ^ 1022) (2 ^ 52) ∙ v.1))

pub by_value : (c : FloatClass) (b : ℕ) → InClass c b → value_class (of_bits binary64 b) ≡ c
by_value Zero b i = ap value_class (stands Zero b i)
by_value Subnormal b i =
    by_units (of_bits binary64 b) (sign_bit b) (significand_field b) (stands Subnormal b i) (omega (arith, i.1))
    ∙ ap (λ (q : Bool). cond q Subnormal Normal) (lt-ltb (significand_field b) (2 ^ 52) (field_narrow b))
by_value Normal b i =
    let n = (2 ^ 52 + significand_field b) * 2 ^ (exponent_field b - 1) in
    let h : 2 ^ 52 ≤ n = at_least (significand_field b) (exponent_field b - 1) in
    by_units (of_bits binary64 b) (sign_bit b) n (stands Normal b i) (lt_of_lt_of_le (pow_pos 52) h) ∙ ap (λ (q : Bool). cond q Subnormal Normal) (le-ltb n (2 ^ 52) h)
  where
    at_least : (t k : ℕ) → 2 ^ 52 ≤ (2 ^ 52 + t) * 2 ^ k
    at_least t k = le_trans (le-add_right (2 ^ 52) t) (le-mul_of_pos_right (2 ^ 52 + t) (pow_pos k))
by_value Infinity b i = ap value_class (stands Infinity b i)
by_value NaN b i = ap value_class (stands NaN b i)

-- and back: bits are in the class of what they stand for
pub of_value : (b : ℕ) → InClass (value_class (of_bits binary64 b)) b
of_value b = let o = one_class b in subst (λ (c : FloatClass). InClass c b) (sym (by_value o.class b o.holds)) o.holds

-- so a float's bits are in the float's class
pub class_of : (x : Float) → T (fits binary64 x) → InClass (value_class x) (to_bits binary64 x)
class_of x h = subst (λ (y : Float). InClass (value_class y) (to_bits binary64 x)) (of_bits-to_bits binary64 x h) (of_value (to_bits binary64 x))

-- ---- the table at its edges

-- zero, the least and the largest number of either finite class, infinity, and signalling and quiet NaNs with their least and greatest payloads
abbrev edges : List ℕ
edges =
    0 ∷ 1 ∷ 0xf_ffff_ffff_ffff ∷ 0x10_0000_0000_0000 ∷ 0x7fef_ffff_ffff_ffff ∷ 0x7ff0_0000_0000_0000
    ∷ 0x7ff0_0000_0000_0001 ∷ 0x7ff7_ffff_ffff_ffff ∷ 0x7ff8_0000_0000_0000 ∷ 0x7fff_ffff_ffff_ffff ∷ []

abbrev edge_classes : List FloatClass
edge_classes = Zero ∷ Subnormal ∷ Subnormal ∷ Normal ∷ Normal ∷ Infinity ∷ NaN ∷ NaN ∷ NaN ∷ NaN ∷ []

pub edges_are : (map named edges ≡ edge_classes) × (map (λ (b : ℕ). named (2 ^ 63 + b)) edges ≡ edge_classes)
edges_are = (refl, refl)
