-- A float taken apart, in the one place where that is done. A finite x other than zero is significand × 2 ^ (digits - 1127), with a sign:
-- the significand has 53 binary digits, its highest one set, subnormal numbers included, and `digits` is how many binary digits x has
-- as a whole number of binary64's smallest positive number, 2 ^ -1074. So x = m × 2 ^ e with 1 ≤ m < 2 for m = significand / 2 ^ 52 and e = digits - 1075.
use Rattle.std.specs.Prelude.{◌≡◌, Bool, true, false, cond, ℕ, zero, suc, ◌+◌, ◌*◌, ◌/◌, ◌%◌, ◌^◌, ◌≤◌, ◌<◌, ℤ, pos, neg_ℤ, eqb, Float}
use Rattle.std.specs.Float.{nan, inf, fin}
use Rattle.std.specs.Float.Ieee.{up, down, size}
use Rattle.elementary.specs.declared.split.Parts.{Parts}
use Rattle.elementary.specs.declared.split.Parts.TheVariants.{Nan, Infinite, Zero, Finite}
use Rattle.elementary.specs.declared.split.Positive.{Positive}
use Rattle.elementary.specs.declared.split.Positive.TheVariants
use Rattle.elementary.specs.declared.split.Whole.{Whole}

-- m × 2 ^ e in units of 2 ^ -1074: a whole number for every number that binary64 holds
abbrev pub units : ℕ → ℤ → ℕ
units m e = m * up e * 2 ^ 1074 / down e

-- n, which has d digits, brought to 53 digits
abbrev pub normalised : ℕ → ℕ → ℕ
normalised n d = n * 2 ^ 53 / 2 ^ d

-- a finite number other than zero
abbrev pub finite_parts : Bool → ℕ → ℕ → Parts
finite_parts s g d = Finite s (record { significand = g; digits = d })

unfoldable pub split_of : Float → Parts
split_of nan = Nan
split_of (inf s) = Infinite s
split_of (fin s zero e) = Zero s
split_of (fin s (suc m) e) = let n = units (suc m) e in finite_parts s (normalised n (size n)) (size n)

-- what SQRT and LN share: "NaN is the answer to a NaN argument, to a negative x", and +infinity gives itself
abbrev pub positive_of : Parts → Positive
positive_of Nan = TheVariants.Not nan
positive_of (Infinite s) = TheVariants.Not (cond s nan (inf false))
positive_of (Zero s) = TheVariants.Zero s
positive_of (Finite s m) = cond s (TheVariants.Not nan) (TheVariants.Finite m)

-- ---- the greatest whole number that is at most x, as a sign and a size

-- a / b as a whole number: its fraction dropped; for a negative number one more where the division leaves something
abbrev pub floor_size : Bool → ℕ → ℕ → ℕ
floor_size negative a b = cond negative (cond (eqb (a % b) 0) (a / b) (a / b + 1)) (a / b)

unfoldable pub floor_of : Float → Whole
floor_of nan = record { negative = false; size = 0 }
floor_of (inf s) = record { negative = false; size = 0 }
floor_of (fin s m e) = record { negative = s; size = floor_size s (m * up e) (down e) }

-- k is the greatest whole number that is at most ±a / b: k ≤ ±a / b < k + 1
abbrev pub Greatest : Bool → ℕ → ℕ → Whole → Type 0
Greatest false a b k = (k.negative ≡ false) × (k.size * b ≤ a) × (a < (k.size + 1) * b)
Greatest true a b k = (k.negative ≡ true) × (a ≤ k.size * b) × (k.size * b < a + b)

-- x is finite, and at most n in size
abbrev pub Within : ℕ → Float → Type 0
Within n nan = ⊥
Within n (inf s) = ⊥
Within n (fin s m e) = m * up e ≤ n * down e

-- ---- powers of two

-- 2 ^ z
abbrev pub two^ : ℤ → Float
two^ z = fin false 1 z

-- n with its sign
abbrev pub signed : Bool → ℕ → ℤ
signed s n = cond s (neg_ℤ (pos n)) (pos n)
