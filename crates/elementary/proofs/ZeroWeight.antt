-- A zero added or taken away. x - 0 is x for every x (`minus_zero`). lo + 0 × d for finite lo and d: it is lo, but for a zero lo, where it is a zero, whose sign may be another: -0 + 0 × d is +0 for a d that isn't negative. (Where d overflows, 0 × d is a NaN.)
use mathlib.Core.Path.{◌≡◌, refl, sym, ap, ◌∙◌}
use mathlib.Core.Bool.{Bool, true, false, cond, ◌&&◌}
use Prim.Native.Nat.{ℕ, zero, suc, ◌*◌, ◌<◌, zero-le}
use native.Mathlib.Nat.{mul-one, zero-mul, add-zero, sub-zero, mul-pos, zero-lt-suc}
use lib.IntN.{ℤ, pos}
use lib.Dec.{T}
use lib.Ieee.{Float, nan, inf, fin, binary64, up, down, round, unlike, neg, sum, add, sub, mul, fits, of_bits, le, lt, eq}
use lib.Ieee.Scale.{finite}
use lib.Ieee.Fits.{up_pos, down_pos}
use borrow.Author.Tests.{lt-ltb, le-ltb}
use Rattle.elementary.specs.Arithmetic.{◌⊕◌, ◌⊖◌, ◌⊗◌, ◌≼◌}
use Rattle.elementary.specs.Constants.{0·0}
use Rattle.elementary.proofs.Same.{round_held, round_nothing, zero_is}

-- 0 × d has d's sign
zero_times : (t : Bool) (n : ℕ) (d : ℤ) → 0·0 ⊗ fin t n d ≡ fin (unlike false t) 0 (pos 0)
unfolding mul of_bits
zero_times t n d = ap (λ (a : ℕ). round binary64 (unlike false t) a (1 * down d)) (zero-mul (n * up d)) ∙ round_nothing (unlike false t) (1 * down d) (mul-pos (zero-lt-suc 0) (down_pos d))

-- a zero added to a number other than zero
sum_zero : (s t : Bool) (a c : ℕ) → 0 < a → sum binary64 s a t 0 c ≡ round binary64 s a c
unfolding sum
sum_zero true true a c h = ap (λ (z : ℕ). round binary64 true z c) (add-zero a)
sum_zero false false a c h = ap (λ (z : ℕ). round binary64 false z c) (add-zero a)
sum_zero true false a c h = rw (le-ltb a 0 (zero-le), lt-ltb 0 a h, sub-zero a)
sum_zero false true a c h = rw (le-ltb a 0 (zero-le), sub-zero a)

plus_zero : (s t : Bool) (m : ℕ) (e : ℤ) → T (fits binary64 (fin s (suc m) e)) → fin s (suc m) e ⊕ fin t 0 (pos 0) ≡ fin s (suc m) e
unfolding add
plus_zero s t m e h =
    ap (λ (z : ℕ). sum binary64 s z t (0 * 1 * down e) (down e * 1)) (mul-one (suc m * up e))
    ∙ ap (λ (z : ℕ). sum binary64 s (suc m * up e) t z (down e * 1)) (zero-mul (down e))
    ∙ ap (λ (z : ℕ). sum binary64 s (suc m * up e) t 0 z) (mul-one (down e))
    ∙ sum_zero s t (suc m * up e) (down e) (mul-pos (zero-lt-suc m) (up_pos e))
    ∙ round_held s m e h

-- one number, or two zeros
abbrev Zero : Float → Type 0
Zero x = (s : Bool) × (x ≡ fin s 0 (pos 0))

pub data Alike (x y : Float) : Type 0 where
  same : x ≡ y → Alike x y
  zeros : Zero x → Zero y → Alike x y

two_zeros : (s t : Bool) → fin s 0 (pos 0) ⊕ fin t 0 (pos 0) ≡ fin (s && t) 0 (pos 0)
unfolding add sum round
two_zeros true true = refl
two_zeros true false = refl
two_zeros false true = refl
two_zeros false false = refl

-- x - (+0) is x + (-0)
taken_away : (x : Float) → x ⊖ 0·0 ≡ x ⊕ fin true 0 (pos 0)
unfolding sub neg of_bits
taken_away x = refl

pub minus_zero : (x : Float) → T (fits binary64 x) → x ⊖ 0·0 ≡ x
unfolding add
minus_zero nan h = taken_away nan
minus_zero (inf s) h = taken_away (inf s)
minus_zero (fin s zero e) h = let z = zero_is s e h in ap (λ (x : Float). x ⊖ 0·0) z ∙ taken_away (fin s 0 (pos 0)) ∙ two_zeros s true ∙ signed s ∙ sym z
  where
    signed : (s : Bool) → fin (s && true) 0 (pos 0) ≡ fin s 0 (pos 0)
    signed true = refl
    signed false = refl
minus_zero (fin s (suc m) e) h = taken_away (fin s (suc m) e) ∙ plus_zero s true m e h

pub nothing_of : (lo d : Float) → T (fits binary64 lo) → T (finite lo) → T (finite d) → Alike (lo ⊕ 0·0 ⊗ d) lo
nothing_of nan d h a b = absurd a
nothing_of (inf s) d h a b = absurd a
nothing_of (fin s m e) nan h a b = absurd b
nothing_of (fin s m e) (inf t) h a b = absurd b
nothing_of (fin s zero e) (fin t n d) h a b =
    let z = zero_is s e h in
    zeros (s && unlike false t, (λ i. z i ⊕ zero_times t n d i) ∙ two_zeros s (unlike false t)) (s, z)
nothing_of (fin s (suc m) e) (fin t n d) h a b = same (ap (λ (z : Float). fin s (suc m) e ⊕ z) (zero_times t n d) ∙ plus_zero s (unlike false t) m e h)

-- so a choice that a number at or below 0 makes is made alike
zero_at_most : (s : Bool) → (fin s 0 (pos 0) ≼ 0·0) ≡ true
unfolding le lt eq of_bits
zero_at_most true = refl
zero_at_most false = refl

pub alike_choice : {A : Type 0} (x y : Float) (a : A) (f : Float → A) → Alike x y → cond (x ≼ 0·0) a (f x) ≡ cond (y ≼ 0·0) a (f y)
alike_choice x y a f (same e) = ap (λ (z : Float). cond (z ≼ 0·0) a (f z)) e
alike_choice x y a f (zeros (s, e) (t, g)) =
    let left : (x ≼ 0·0) ≡ true = ap (λ (z : Float). z ≼ 0·0) e ∙ zero_at_most s in
    let right : (y ≼ 0·0) ≡ true = ap (λ (z : Float). z ≼ 0·0) g ∙ zero_at_most t in
    rw (left, right)
