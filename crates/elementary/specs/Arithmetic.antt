-- The notation in which every definition of this repository is written: Rust's operators on `f64`, each rounded once to binary64 (IEEE 754, ties to even).
-- `x ⊕ y`, `x ⊖ y`, `x ⊗ y`, `x ⊘ y` are the rounded sum, difference, product and quotient; `x ≺ y`, `x ≼ y`, `x ≈ y` are the tests `<`, `<=` and `==`,
-- all false where a NaN stands. What they mean is `lib.Ieee`'s text; nothing is defined anew here.
use Rattle.std.specs.Prelude.{ℕ, Bool, pos, Float}
use Rattle.std.specs.Float.{binary64}
use Rattle.std.specs.Float.Ieee.{add, sub, mul, div, lt, le, eq, of_bits, of_int}

infixl 65 ◌⊕◌ ◌⊖◌
infixl 70 ◌⊗◌ ◌⊘◌
infix 50 ◌≺◌ ◌≼◌ ◌≈◌
abbrev pub ◌⊕◌ : Float → Float → Float
x ⊕ y = add binary64 x y

abbrev pub ◌⊖◌ : Float → Float → Float
x ⊖ y = sub binary64 x y

abbrev pub ◌⊗◌ : Float → Float → Float
x ⊗ y = mul binary64 x y

abbrev pub ◌⊘◌ : Float → Float → Float
x ⊘ y = div binary64 x y

abbrev pub ◌≺◌ : Float → Float → Bool
x ≺ y = lt x y

abbrev pub ◌≼◌ : Float → Float → Bool
x ≼ y = le x y

abbrev pub ◌≈◌ : Float → Float → Bool
x ≈ y = eq x y

-- the whole number n as a float, rounded where n has more than 53 digits
abbrev pub whole : ℕ → Float
whole n = of_int binary64 (pos n)

-- the float that a pattern of 64 bits stands for; every NaN pattern is the one `nan`
abbrev pub bits : ℕ → Float
bits b = of_bits binary64 b
