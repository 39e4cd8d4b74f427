-- What `split_of` gives is the number: significand × 2 ^ (digits - 1127). And its floor can be read off these parts.
use mathlib.Core.Path.{◌≡◌, refl, sym, ap, ◌∙◌, subst}
use mathlib.Core.Bool.{Bool, true, false}
use Prim.Native.Nat.{ℕ, zero, suc, ◌+◌, ◌-◌, ◌*◌, ◌/◌, ◌%◌, ◌^◌, ◌≤◌, ◌<◌}
use native.Mathlib.Nat.{mul_assoc, mul_comm, mul_right_comm, zero-mul, zero-div, zero-mod, add-mul, mul-div_cancel, div-add-mod', div-eq_of_lt, mod-eq_of_lt, mul-pos, lt_of_le_of_lt, le_of_eq, le_trans, mul-le-mul_right, le_of_mul-le-mul_right, eq_of_mul-eq-mul_right, eq-zero-or-pos, lt_irrefl}
use mathlib.Core.Logic.{inl, inr}
use native.Mathlib.Omega.{arith}
use lib.IntN.{ℤ}
use lib.Dec.{T, eqb}
use lib.Pow.{pow-add, pow_pos, pow-lt, shl_lt}
use lib.Ieee.{Float, nan, inf, fin, binary64, up, down, size, fits}
use lib.Ieee.Digits.{back, size-le}
use lib.Ieee.Fits.{down_pos}
use lib.Ieee.Nearest.{div_same}
use borrow.Author.Tests.{eq-eqb, ne_eqb}
use Rattle.elementary.specs.declared.split.Parts.{Parts}
use Rattle.elementary.specs.declared.split.Parts.TheVariants.{Nan, Infinite, Zero, Finite}
use Rattle.elementary.specs.declared.split.Whole.{Whole}
use Rattle.elementary.specs.Figures.{Figures}
use Rattle.elementary.specs.Split.{units, normalised, finite_parts, split_of, floor_size, floor_of, Within}
use Rattle.elementary.proofs.Bits.{Held, held, in_units}

-- bringing n to 53 digits loses nothing
pub normal_exact : (m : ℕ) (e : ℤ) → Held (suc m) e → let n = units (suc m) e in normalised n (size n) * 2 ^ size n ≡ n * 2 ^ 53
normal_exact m e h =
    let u = in_units m e h in
    let n = units (suc m) e in
    let j = u.exponent in
    let d = size n in
    let top : d ≤ 53 + j = size-le n (53 + j) (subst (λ (a : ℕ). a < 2 ^ (53 + j)) (sym u.whole) (shl_lt 53 j h.narrow)) in
    let k = 53 + j - d in
    let x : n * 2 ^ 53 ≡ suc m * 2 ^ k * 2 ^ d =
    ap (λ (a : ℕ). a * 2 ^ 53) u.whole
    ∙ mul_assoc (suc m) (2 ^ j) (2 ^ 53)
    ∙ ap (λ (a : ℕ). suc m * a) (mul_comm (2 ^ j) (2 ^ 53) ∙ sym (pow-add 2 53 j) ∙ ap (λ (a : ℕ). 2 ^ a) (sym (back (53 + j) d top)) ∙ pow-add 2 k d)
    ∙ sym (mul_assoc (suc m) (2 ^ k) (2 ^ d)) in
    ap (λ (a : ℕ). a / 2 ^ d * 2 ^ d) x ∙ ap (λ (a : ℕ). a * 2 ^ d) (mul-div_cancel (suc m * 2 ^ k) (pow_pos d)) ∙ sym x

-- equal parts have equal figures
figures : {s t : Bool} {v w : Figures} → Finite s v ≡ Finite t w → v ≡ w
figures p = cc

-- the number is significand × 2 ^ digits / 2 ^ 1127
pub split_value : (s : Bool) (m : ℕ) (e : ℤ) {t : Bool} {g d : ℕ} → T (fits binary64 (fin s (suc m) e)) → split_of (fin s (suc m) e) ≡ finite_parts t g d
    → suc m * up e * 2 ^ 1127 ≡ g * 2 ^ d * down e
unfolding split_of
split_value s m e {t} {g} {d} h p =
    let u = in_units m e (held s m e h) in
    let n = units (suc m) e in
    let a : normalised n (size n) ≡ g = ap (λ (v : Figures). v.significand) (figures p) in
    let b : size n ≡ d = ap (λ (v : Figures). v.digits) (figures p) in
    sym (mul_assoc (suc m * up e) (2 ^ 1074) (2 ^ 53))
    ∙ ap (λ (z : ℕ). z * 2 ^ 53) u.exact
    ∙ mul_right_comm n (down e) (2 ^ 53)
    ∙ ap (λ (z : ℕ). z * down e) (sym (normal_exact m e (held s m e h)) ∙ ap (λ (z : ℕ). z * 2 ^ size n) a ∙ ap (λ (z : ℕ). g * 2 ^ z) b)

-- ---- the floor of a fraction

-- the remainders of two equal fractions are in proportion
rest_same : (a b c d : ℕ) → 0 < b → 0 < d → a * d ≡ c * b → a % b * d ≡ c % d * b
rest_same a b c d B D h =
    let q = a / b in
    let e : q ≡ c / d = div_same a b c d B D h in
    let x : a * d ≡ q * (b * d) + a % b * d = ap (λ (z : ℕ). z * d) (sym (div-add-mod' a b)) ∙ add-mul (q * b) (a % b) d ∙ ap (λ (z : ℕ). z + a % b * d) (mul_assoc q b d) in
    let y : c * b ≡ q * (b * d) + c % d * b =
    ap (λ (z : ℕ). z * b) (sym (div-add-mod' c d) ∙ ap (λ (z : ℕ). z * d + c % d) (sym e)) ∙ add-mul (q * d) (c % d) b ∙ ap (λ (z : ℕ). z + c % d * b) (mul_assoc q d b ∙ ap (λ (z : ℕ). q * z) (mul_comm d b)) in
    omega (arith, h)

zero_of : (r b : ℕ) → 0 < b → r * b ≡ 0 → r ≡ 0
zero_of r b B h = elim (eq-zero-or-pos r) [ inl z ↦ z | inr p ↦ absurd (lt_irrefl 0 (subst (λ (z : ℕ). 0 < z) h (mul-pos p B))) ]

same_test : (r t b d : ℕ) → 0 < b → 0 < d → r * d ≡ t * b → eqb r 0 ≡ eqb t 0
same_test r t b d B D h =
    elim (eq-zero-or-pos r) [
      | inl z ↦ eq-eqb r 0 z ∙ sym (eq-eqb t 0 (zero_of t b B (sym h ∙ ap (λ (y : ℕ). y * d) z ∙ zero-mul d)))
      | inr p ↦ ne_eqb r 0 (λ (z : r ≡ 0). omega arith) ∙ sym (ne_eqb t 0 (λ (z : t ≡ 0). lt_irrefl 0 (subst (λ (y : ℕ). 0 < y) (zero_of r d D (h ∙ ap (λ (y : ℕ). y * b) z ∙ zero-mul b)) p)))
    ]

pub same_floor : (s : Bool) (a b c d : ℕ) → 0 < b → 0 < d → a * d ≡ c * b → floor_size s a b ≡ floor_size s c d
same_floor s a b c d B D h = rw (div_same a b c d B D h, same_test (a % b) (c % d) b d B D (rest_same a b c d B D h))

-- ---- the floor from the parts

-- a number of at most 2 ^ k has at most 1075 + k digits
pub size_within : (s : Bool) (m : ℕ) (e : ℤ) (k : ℕ) → T (fits binary64 (fin s (suc m) e)) → Within (2 ^ k) (fin s (suc m) e) → size (units (suc m) e) ≤ 1075 + k
size_within s m e k h w =
    let u = in_units m e (held s m e h) in
    let n = units (suc m) e in
    let l : n * down e ≤ 2 ^ (k + 1074) * down e =
    le_trans (le_of_eq (sym u.exact))
    (le_trans (mul-le-mul_right (2 ^ 1074) w) (le_of_eq (mul_right_comm (2 ^ k) (down e) (2 ^ 1074) ∙ ap (λ (z : ℕ). z * down e) (sym (pow-add 2 k 1074))))) in
    size-le n (1075 + k) (lt_of_le_of_lt (le_of_mul-le-mul_right l (down_pos e)) (pow-lt {i = k + 1074} {j = 1075 + k} (omega arith)))

-- so one of at most 2 ^ 51 has at most 1126
pub few_digits : (s : Bool) (m : ℕ) (e : ℤ) {t : Bool} {g d : ℕ} → T (fits binary64 (fin s (suc m) e)) → split_of (fin s (suc m) e) ≡ finite_parts t g d
    → Within (2 ^ 51) (fin s (suc m) e) → d ≤ 1126
unfolding split_of
few_digits s m e {t} {g} {d} h p w = let b : size (units (suc m) e) ≡ d = ap (λ (v : Figures). v.digits) (figures p) in subst (λ (k : ℕ). k ≤ 1126) b (size_within s m e 51 h w)

pub floor_parts_lem : (s : Bool) (m : ℕ) (e : ℤ) {t : Bool} {g d : ℕ} → T (fits binary64 (fin s (suc m) e)) → split_of (fin s (suc m) e) ≡ finite_parts t g d
    → d ≤ 1126 → floor_size s (suc m * up e) (down e) ≡ floor_size s g (2 ^ (1127 - d))
floor_parts_lem s m e {t} {g} {d} h p l =
    let k = 1127 - d in
    let a = suc m * up e in
    let v : a * 2 ^ k * 2 ^ d ≡ g * down e * 2 ^ d =
    mul_assoc a (2 ^ k) (2 ^ d) ∙ ap (λ (z : ℕ). a * z) (sym (pow-add 2 k d) ∙ ap (λ (z : ℕ). 2 ^ z) (back 1127 d (omega arith))) ∙ split_value s m e h p ∙ mul_right_comm g (2 ^ d) (down e) in
    same_floor s a (down e) g (2 ^ k) (down_pos e) (pow_pos k) (eq_of_mul-eq-mul_right (2 ^ d) (pow_pos d) (a * 2 ^ k) (g * down e) v)

-- below 1 the whole part is 0, and what is left is not, as of one half
pub floor_below_one : (s : Bool) (g b : ℕ) → 0 < g → g < b → floor_size s g b ≡ floor_size s 1 2
floor_below_one s g b p h = rw (div-eq_of_lt h, mod-eq_of_lt h, ne_eqb g 0 (λ (z : g ≡ 0). omega arith))

-- the floor of x, by the parts of x
abbrev pub floor_parts : Parts → Whole
floor_parts Nan = record { negative = false; size = 0 }
floor_parts (Infinite s) = record { negative = false; size = 0 }
floor_parts (Zero s) = record { negative = s; size = 0 }
floor_parts (Finite s m) = record { negative = s; size = floor_size s m.significand (2 ^ (1127 - m.digits)) }

no_size : (s : Bool) → floor_size s 0 1 ≡ 0
no_size true = refl
no_size false = refl

pub floor_is : (x : Float) → T (fits binary64 x) → Within (2 ^ 51) x → floor_of x ≡ floor_parts (split_of x)
unfolding floor_of split_of
floor_is nan h w = refl
floor_is (inf s) h w = refl
floor_is (fin s zero e) h w = rw (zero-mul, zero-div, zero-mod, no_size s)
floor_is (fin s (suc m) e) h w = rw (floor_parts_lem s m e h refl (few_digits s m e h refl w))

pub few : (x : Float) {s : Bool} {g d : ℕ} → T (fits binary64 x) → split_of x ≡ finite_parts s g d → Within (2 ^ 51) x → d ≤ 1126
unfolding split_of
few nan h p w = absurd w
few (inf s) h p w = absurd w
few (fin s zero e) h p w = let z : ◌≡◌ {A = ℕ} 0 1 = cc in absurd (omega arith)
few (fin s (suc m) e) h p w = few_digits s m e h p w
