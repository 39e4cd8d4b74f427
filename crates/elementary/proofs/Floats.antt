-- Small facts about floats that several proofs cite.
use mathlib.Core.Path.{◌≡◌, refl, sym, ap, ◌∙◌, subst}
use mathlib.Core.Bool.{Bool, true, false, not, false≢true}
use Prim.Native.Nat.{ℕ, ◌*◌, ◌%◌, ◌^◌, ◌≤◌, ◌<◌}
use lib.Dec.{T}
use lib.Ieee.{Float, nan, inf, fin, is_nan, ne, binary64, of_bits, nan_bits}
use lib.Ieee.Bits.{nan_bits_is, nan_bits_above}
use borrow.Author.Tests.{lt-ltb, le-ltb}
use lib.Ieee.Compare.{differs_from_itself, nan_differs}

-- a test that is true, as a fact
pub true_t : {b : Bool} → b ≡ true → T b
true_t e = subst T (sym e) tt

pub only_nan : (x : Float) → is_nan x ≡ true → x ≡ nan
unfolding is_nan
only_nan nan e = refl
only_nan (inf s) e = absurd (false≢true e)
only_nan (fin s m d) e = absurd (false≢true e)

-- the patterns above that of +infinity, less their sign, are the NaNs'
pub nan_above : (b : ℕ) → 2047 * 2 ^ 52 < b % 2 ^ 63 → of_bits binary64 b ≡ nan
nan_above b h = only_nan (of_bits binary64 b) (sym (nan_bits_is binary64 b) ∙ nan_bits_above binary64 b ∙ lt-ltb (2047 * 2 ^ 52) (b % 2 ^ 63) h)

pub nan_below : (b : ℕ) → b % 2 ^ 63 ≤ 2047 * 2 ^ 52 → T (not (nan_bits binary64 b))
nan_below b h = rw (nan_bits_above binary64 b, le-ltb (2047 * 2 ^ 52) (b % 2 ^ 63) h) tt

-- ---- only a NaN differs from itself

pub is_nan_lem : (x : Float) → ne x x ≡ true → x ≡ nan
is_nan_lem x e = differs_from_itself x (true_t e)

same : (x : Float) → is_nan x ≡ false → ne x x ≡ false
unfolding is_nan
same x n = go (ne x x) refl
  where
    go : (b : Bool) → ne x x ≡ b → b ≡ false
    go false e = refl
    go true e = absurd (false≢true (sym n ∙ ap is_nan (is_nan_lem x e)))

pub differs : (x : Float) → ne x x ≡ is_nan x
unfolding is_nan
differs nan = nan_differs
differs (inf s) = same _ refl
differs (fin s m d) = same _ refl
