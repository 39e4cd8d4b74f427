-- Two numbers that binary64 holds are one float where sign and size are the same. So a rounding that has nothing to round gives the number back, and +0 added to a
-- number without a sign changes nothing.
use mathlib.Core.Path.{◌≡◌, refl, sym, ap, ◌∙◌, subst}
use mathlib.Core.Bool.{Bool, true, false, not, cond}
use Prim.Native.Nat.{ℕ, zero, suc, ◌+◌, ◌-◌, ◌*◌, ◌^◌, ◌<◌}
use native.Mathlib.Nat.{mul-one, one-mul, zero-mul, zero-add, mul_right_comm, eq_of_mul-eq-mul_right, lt_irrefl}
use lib.IntN.{ℤ, pos}
use lib.Dec.{T, ltb, ltb→lt, lit<}
use lib.Pow.{pow_pos}
use lib.Ieee.{Float, nan, inf, fin, binary64, up, down, odd, units, round, neg, sum, add, sub, mul, fits, of_bits}
use lib.Ieee.Bits.{of_bits-to_bits}
use lib.Ieee.Fits.{down_pos, round_is, round-fits}
use lib.Ieee.Exact.{HasValue, round_exact}
use lib.Ieee.Nearest.{div_same}
use lib.Ieee.Positive.{positive, le→cross}
use borrow.Author.Tests.{le-ltb, ne_eqb}
use Rattle.elementary.specs.Arithmetic.{◌⊕◌, ◌⊖◌, ◌⊗◌, ◌≼◌}
use Rattle.elementary.specs.Constants.{0·0}
use Rattle.elementary.specs.Split as split
use Rattle.elementary.specs.Nearest.{units_of}
use Rattle.elementary.proofs.Bits.{held, in_units, bits_of, to_bits_lem}

-- ---- one sign and one size

pub same_units : (s : Bool) (m : ℕ) (e : ℤ) (n : ℕ) (d : ℤ) → T (fits binary64 (fin s m e)) → T (fits binary64 (fin s n d)) → split.units m e ≡ split.units n d
    → fin s m e ≡ fin s n d
same_units s m e n d p q h =
    sym (of_bits-to_bits binary64 (fin s m e) p)
    ∙ ap (of_bits binary64) (to_bits_lem s m e ∙ ap (bits_of s) h ∙ sym (to_bits_lem s n d))
    ∙ of_bits-to_bits binary64 (fin s n d) q

-- two numbers above zero of one size
pub same_positive : (x y : Float) → T (positive x) → T (positive y) → T (fits binary64 x) → T (fits binary64 y) → units_of x ≡ units_of y → x ≡ y
same_positive nan y a b p q h = absurd a
same_positive (inf s) y a b p q h = absurd a
same_positive (fin true m e) y a b p q h = absurd a
same_positive (fin false m e) nan a b p q h = absurd b
same_positive (fin false m e) (inf s) a b p q h = absurd b
same_positive (fin false m e) (fin true n d) a b p q h = absurd b
same_positive (fin false m e) (fin false n d) a b p q h = same_units false m e n d p q h

-- y is m × 2 ^ e, in any other form
pub same_value : (s : Bool) (y : Float) (m : ℕ) (e : ℤ) → T (fits binary64 y) → T (fits binary64 (fin s m e)) → HasValue y s (m * up e) (down e) → y ≡ fin s m e
same_value s nan m e p q v = absurd v
same_value s (inf t) m e p q v = absurd v
same_value s (fin t n d) m e p q v =
    let l = 2 ^ 1074 in
    let x : n * up d * l * down e ≡ m * up e * l * down d = mul_right_comm (n * up d) l (down e) ∙ ap (λ (k : ℕ). k * l) v.1 ∙ mul_right_comm (m * up e) (down d) l in
    ap (λ (b : Bool). fin b n d) v.0
    ∙ same_units s n d m e (subst (λ (b : Bool). T (fits binary64 (fin b n d))) v.0 p) q (div_same (n * up d * l) (down d) (m * up e * l) (down e) (down_pos d) (down_pos e) x)

-- a zero is written in one way
pub zero_is : (s : Bool) (e : ℤ) → T (fits binary64 (fin s 0 e)) → fin s 0 e ≡ fin s 0 (pos 0)
zero_is s e h = same_value s (fin s 0 e) 0 (pos 0) h (unfold fits in tt) (refl, ap (λ (k : ℕ). k * 1) (zero-mul (up e)) ∙ sym (zero-mul (down e)))

-- what is held is not rounded
pub round_held : (s : Bool) (m : ℕ) (e : ℤ) → T (fits binary64 (fin s (suc m) e)) → round binary64 s (suc m * up e) (down e) ≡ fin s (suc m) e
round_held s m e h =
    let c = held s m e h in
    let u = in_units m e c in
    same_value s (round binary64 s (suc m * up e) (down e)) (suc m) e (round-fits binary64 s (suc m * up e) (down e)) h
    (round_exact binary64 s (suc m * up e) (down e) (suc m) u.exponent (down_pos e) c.narrow (subst (λ (k : ℕ). k < 2 ^ 2098) u.whole u.few)
    (u.exact ∙ ap (λ (k : ℕ). k * down e) u.whole))

-- and nothing is rounded to nothing
pub round_nothing : (s : Bool) (c : ℕ) → 0 < c → round binary64 s 0 c ≡ fin s 0 (pos 0)
round_nothing s c h =
    same_value s (round binary64 s 0 c) 0 (pos 0) (round-fits binary64 s 0 c) (unfold fits in tt)
    (rescaled (round binary64 s 0 c) (round_exact binary64 s 0 c 0 0 h (lit< tt) (pow_pos 2098) (zero-mul (2 ^ 1074) ∙ sym (zero-mul c))))
  where
    rescaled : (x : Float) → HasValue x s 0 c → HasValue x s 0 1
    rescaled nan v = v
    rescaled (inf t) v = v
    rescaled (fin t m e) v =
        let z : m * up e * c ≡ 0 = v.1 ∙ zero-mul (down e) in
        let n : m * up e ≡ 0 = eq_of_mul-eq-mul_right c h (m * up e) 0 (z ∙ sym (zero-mul c)) in
        (v.0, ap (λ (k : ℕ). k * 1) n ∙ sym (zero-mul (down e)))

-- ---- numbers without a sign

-- from +0 up, +infinity included
abbrev pub unsigned : Float → Bool
unsigned nan = false
unsigned (inf s) = not s
unsigned (fin s m e) = not s

odd_unsigned : (d q k l : ℕ) → T (unsigned (odd d false q k l))
unfolding odd
odd_unsigned d zero k l = tt
odd_unsigned d (suc q) k l = tt

units_unsigned : (q k : ℕ) → T (unsigned (units binary64 false q k))
unfolding units
units_unsigned q k = go (ltb (q * 2 ^ k) (2 ^ 2098))
  where
    go : (b : Bool) → T (unsigned (cond b (odd 54 false q k 1074) (inf false)))
    go true = odd_unsigned 54 q k 1074
    go false = tt

round_unsigned : (a c : ℕ) → T (unsigned (round binary64 false a c))
round_unsigned a c = subst (λ (x : Float). T (unsigned x)) (sym (round_is binary64 false a c)) (units_unsigned _ _)

-- x - y, where y is at most x
pub sub_unsigned : (x y : Float) → T (positive x) → T (positive y) → T (y ≼ x) → T (unsigned (x ⊖ y))
unfolding sub add neg sum
sub_unsigned nan y p q h = absurd p
sub_unsigned (inf s) y p q h = absurd p
sub_unsigned (fin true m e) y p q h = absurd p
sub_unsigned (fin false m e) nan p q h = absurd q
sub_unsigned (fin false m e) (inf s) p q h = absurd q
sub_unsigned (fin false m e) (fin true n d) p q h = absurd q
sub_unsigned (fin false m e) (fin false n d) p q h =
    let a = m * up e * down d in
    let b = n * up d * down e in
    rw (le-ltb a b (le→cross (fin false n d) (fin false m e) q p h)) (round_unsigned (a - b) (down e * down d))

pub mul_unsigned : (x y : Float) → T (positive x) → T (unsigned y) → T (unsigned (x ⊗ y))
unfolding mul
mul_unsigned nan y p h = absurd p
mul_unsigned (inf s) y p h = absurd p
mul_unsigned (fin true m e) y p h = absurd p
mul_unsigned (fin false m e) nan p h = absurd h
mul_unsigned (fin false m e) (inf true) p h = absurd h
mul_unsigned (fin false m e) (inf false) p h = rw (ne_eqb m 0 (λ (z : m ≡ 0). lt_irrefl 0 (subst (λ (k : ℕ). 0 < k) z (ltb→lt 0 m p)))) tt
mul_unsigned (fin false m e) (fin true n d) p h = absurd h
mul_unsigned (fin false m e) (fin false n d) p h = round_unsigned (m * up e * (n * up d)) (down e * down d)

two_zeros : 0·0 ⊕ fin false 0 (pos 0) ≡ fin false 0 (pos 0)
unfolding add sum round of_bits
two_zeros = refl

opened : (n : ℕ) (d : ℤ) → 0·0 ⊕ fin false n d ≡ round binary64 false (0 * 1 * down d + n * up d * 1) (1 * down d)
unfolding add sum of_bits
opened n d = refl

to_the_top : 0·0 ⊕ inf false ≡ inf false
unfolding add of_bits
to_the_top = refl

pub zero_plus : (x : Float) → T (fits binary64 x) → T (unsigned x) → 0·0 ⊕ x ≡ x
zero_plus nan h u = absurd u
zero_plus (inf true) h u = absurd u
zero_plus (inf false) h u = to_the_top
zero_plus (fin true m e) h u = absurd u
zero_plus (fin false zero e) h u = let z = zero_is false e h in ap (λ (x : Float). 0·0 ⊕ x) z ∙ two_zeros ∙ sym z
zero_plus (fin false (suc m) e) h u =
    let a : 0 * 1 * down e + suc m * up e * 1 ≡ suc m * up e = simp (zero-mul, zero-add, mul-one) in
    rw (opened (suc m) e, a, one-mul (down e)) (round_held false m e h)
