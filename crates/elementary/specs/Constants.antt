-- The constants of the fixed steps (docs/REFERENCE.md, Fixed steps), and those that the crates above share, each under its decimal, with the bits that the
-- program stores. `constants_nearest` shows once, by computing, that each pattern of bits is the binary64 number nearest to its decimal.
use Rattle.std.specs.Prelude.{◌≡◌, refl, List, [], ◌∷◌, map, false, ℕ, ◌^◌, Float}
use Rattle.std.specs.Float.{binary64}
use Rattle.std.specs.Float.Ieee.{round, of_bits}
use Rattle.elementary.specs.Arithmetic.{bits}

-- 0
abbrev pub 0·0 : Float
0·0 = bits 0

-- 0.5
abbrev pub 0·5 : Float
0·5 = bits 0x3fe0_0000_0000_0000

-- 0.8
abbrev pub 0·8 : Float
0·8 = bits 0x3fe9_9999_9999_999a

-- 1
abbrev pub 1·0 : Float
1·0 = bits 0x3ff0_0000_0000_0000

-- 2
abbrev pub 2·0 : Float
2·0 = bits 0x4000_0000_0000_0000

-- LN's threshold 1.4142135623730951, just above the square root of 2 and the binary64 number nearest to it
abbrev pub 1·4142135623730951 : Float
1·4142135623730951 = bits 0x3ff6_a09e_667f_3bcd

-- LN_2, 0.6931471805599453
abbrev pub ln_2 : Float
ln_2 = bits 0x3fe6_2e42_fefa_39ef

-- EXP's bounds 710 and 746
abbrev pub 710·0 : Float
710·0 = bits 0x4086_3000_0000_0000

abbrev pub 746·0 : Float
746·0 = bits 0x4087_5000_0000_0000

-- the unit in the last place of 1, 2^-52 = 0.0000000000000002220446049250313080847263336181640625
abbrev pub ulp_of_one : Float
ulp_of_one = bits 0x3cb0_0000_0000_0000

-- a constant, and the numerator and denominator of its decimal
abbrev constants : List (Float × ℕ × ℕ)
constants =
    (0·0, 0, 1)
    ∷ (0·5, 5, 10)
    ∷ (0·8, 8, 10)
    ∷ (1·0, 1, 1)
    ∷ (2·0, 2, 1)
    ∷ (1·4142135623730951, 14142135623730951, 10 ^ 16)
    ∷ (ln_2, 6931471805599453, 10 ^ 16)
    ∷ (710·0, 710, 1)
    ∷ (746·0, 746, 1)
    ∷ (ulp_of_one, 2220446049250313080847263336181640625, 10 ^ 52)
    ∷ []

-- what is stored for a row, and the binary64 number nearest to its decimal
abbrev pub stored : Float × ℕ × ℕ → Float
stored row = row.0

abbrev pub nearest : Float × ℕ × ℕ → Float
nearest row = round binary64 false row.1 row.2

pub constants_nearest : map stored constants ≡ map nearest constants
unfolding round of_bits
constants_nearest = refl
