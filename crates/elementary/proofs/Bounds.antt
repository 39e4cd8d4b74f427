-- How large the sums, products and quotients of bounded floats are. `Within n x`: x is finite, and at most n in size. Each law asks that the bound of the result is itself
-- a float (`Fine`), which `small` and `power` say of whole numbers below 2 ^ 53 and of powers of two.
use mathlib.Core.Path.{◌≡◌, ap, ◌∙◌}
use Prim.Native.Nat.{ℕ, zero, suc, ◌+◌, ◌*◌, ◌≤◌, ◌<◌}
use native.Mathlib.Nat.{mul_assoc, mul_comm, mul_left_comm, add-mul, mul-pos, mul-le-mul, mul-le-mul_right, le_trans, le_of_eq, zero-mul, mul-zero}
use native.Mathlib.Omega.{arith}
use lib.Dec.{T}
use lib.Ieee.{Float, nan, inf, fin, up, down, unlike, add, sub, mul, div, neg}
use lib.Ieee.Scale.{finite}
use lib.Ieee.Fits.{down_pos, up_pos}
use borrow.Author.Tests.{ne_eqb}
use Rattle.elementary.specs.Arithmetic.{◌⊕◌, ◌⊖◌, ◌⊗◌, ◌⊘◌}
use Rattle.elementary.specs.Split.{Within}
use Rattle.elementary.proofs.Sizes.{Fine, round_within, sum_within}

pub add_within : (x y : Float) (n m : ℕ) → Fine (n + m) → Within n x → Within m y → Within (n + m) (x ⊕ y)
unfolding add
add_within nan y n m F a b = absurd a
add_within (inf s) y n m F a b = absurd a
add_within (fin s k e) nan n m F a b = absurd b
add_within (fin s k e) (inf t) n m F a b = absurd b
add_within (fin s k e) (fin t l d) n m F a b =
    let p = down e in
    let q = down d in
    let h : k * up e * q ≤ n * p * q = mul-le-mul_right q a in
    let i : l * up d * p ≤ m * q * p = mul-le-mul_right p b in
    let j : (n + m) * (p * q) ≡ n * p * q + m * q * p = add-mul n m (p * q) ∙ simp (mul_assoc, mul_comm, mul_left_comm) in
    sum_within s t (k * up e * q) (l * up d * p) (p * q) (n + m) (mul-pos (down_pos e) (down_pos d)) F (rw j (omega arith))

pub neg_within : (x : Float) (n : ℕ) → Within n x → Within n (neg x)
unfolding neg
neg_within nan n a = a
neg_within (inf s) n a = a
neg_within (fin s m e) n a = a

pub sub_within : (x y : Float) (n m : ℕ) → Fine (n + m) → Within n x → Within m y → Within (n + m) (x ⊖ y)
unfolding sub
sub_within x y n m F a b = add_within x (neg y) n m F a (neg_within y m b)

pub mul_within : (x y : Float) (n m : ℕ) → Fine (n * m) → Within n x → Within m y → Within (n * m) (x ⊗ y)
unfolding mul
mul_within nan y n m F a b = absurd a
mul_within (inf s) y n m F a b = absurd a
mul_within (fin s k e) nan n m F a b = absurd b
mul_within (fin s k e) (inf t) n m F a b = absurd b
mul_within (fin s k e) (fin t l d) n m F a b =
    round_within (unlike s t) (k * up e * (l * up d)) (down e * down d) (n * m) (mul-pos (down_pos e) (down_pos d)) F
    (le_trans (mul-le-mul a b) (le_of_eq (simp (mul_assoc, mul_comm, mul_left_comm))))

-- one q-th or more in size, an infinity too
abbrev pub Least : ℕ → Float → Type 0
Least q nan = ⊥
Least q (inf s) = Unit {0}
Least q (fin s m e) = down e ≤ q * (m * up e)

some_of : (q m u d : ℕ) → 0 < d → d ≤ q * (m * u) → 0 < m
some_of q zero u d D h = let e : q * (zero * u) ≡ 0 = ap (λ (z : ℕ). q * z) (zero-mul u) ∙ mul-zero q in absurd (omega arith)
some_of q (suc m) u d D h = omega arith

pub div_within : (x y : Float) (n q : ℕ) → Fine (n * q) → Within n x → Least q y → Within (n * q) (x ⊘ y)
unfolding div
div_within nan y n q F a b = absurd a
div_within (inf s) y n q F a b = absurd a
div_within (fin s k e) nan n q F a b = absurd b
div_within (fin s k e) (inf t) n q F a b = omega arith
div_within (fin s k e) (fin t l d) n q F a b =
    let z = some_of q l (up d) (down d) (down_pos d) b in
    let c = l * up d * down e in
    let h : k * up e * down d ≤ n * down e * (q * (l * up d)) = mul-le-mul a b in
    rw (ne_eqb l 0 (λ (i : l ≡ 0). omega arith))
    (round_within (unlike s t) (k * up e * down d) c (n * q) (mul-pos (mul-pos z (up_pos d)) (down_pos e)) F (le_trans h (le_of_eq (simp (mul_assoc, mul_comm, mul_left_comm)))))

-- a bounded float is finite
pub within_finite : (x : Float) (n : ℕ) → Within n x → T (finite x)
within_finite nan n a = absurd a
within_finite (inf s) n a = absurd a
within_finite (fin s m e) n a = tt
