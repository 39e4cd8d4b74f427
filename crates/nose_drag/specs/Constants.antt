-- The decimal constants of the nose's pressure drag, each named once by its decimal, and the Rust's own names for some. `constants_nearest` shows once, by
-- computing, that each pattern of bits is the binary64 number nearest its decimal. Those that drag.rs has too are its constants.
use Rattle.std.specs.Prelude.{◌≡◌, refl, List, [], ◌∷◌, map, ℕ, Float}
use Rattle.std.specs.Float.Ieee.{round, of_bits, neg, mul, div}
use Rattle.elementary.specs.Arithmetic.{◌⊗◌, ◌⊘◌, bits}
use Rattle.elementary.specs.Constants.{2·0, ln_2, stored, nearest, 0·5, 0·8, 1·0}
use Rattle.drag.specs.Constants.{3·0}

abbrev pub 0·01 : Float
0·01 = bits 0x3f847ae147ae147b

abbrev pub 0·05 : Float
0·05 = bits 0x3fa999999999999a

abbrev pub 0·21 : Float
0·21 = bits 0x3fcae147ae147ae1

abbrev pub 0·664 : Float
0·664 = bits 0x3fe53f7ced916873

abbrev pub 0·72 : Float
0·72 = bits 0x3fe70a3d70a3d70a

abbrev pub 0·75 : Float
0·75 = bits 0x3fe8000000000000

abbrev pub 0·82 : Float
0·82 = bits 0x3fea3d70a3d70a3d

abbrev pub 1·3 : Float
1·3 = bits 0x3ff4cccccccccccd

abbrev pub 1·4 : Float
1·4 = bits 0x3ff6666666666666

abbrev pub 1·52 : Float
1·52 = bits 0x3ff851eb851eb852

abbrev pub 2·1 : Float
2·1 = bits 0x4000cccccccccccd

abbrev pub 4·0 : Float
4·0 = bits 0x4010000000000000

abbrev pub 6·0 : Float
6·0 = bits 0x4018000000000000

abbrev pub 37·0 : Float
37·0 = bits 0x4042800000000000

-- where eq. B.4 takes over from the cubic
abbrev pub cone_supersonic_mach : Float
cone_supersonic_mach = 1·3

-- the ratio of specific heats of air
abbrev pub GAMMA : Float
GAMMA = 1·4

-- ln 4, as LN_2 × 2
abbrev pub ln_4 : Float
ln_4 = bits 0x3ff62e42fefa39ef

abbrev pub one_third : Float
one_third = 1·0 ⊘ 3·0

-- Hoerner's two heads: their fineness and their forebody pressure drag
abbrev pub hemisphere_fineness : Float
hemisphere_fineness = 0·5

abbrev pub round_head_fineness : Float
round_head_fineness = 1·0

abbrev pub hemisphere_drag : Float
hemisphere_drag = 0·01

-- -0.05
abbrev pub round_head_drag : Float
round_head_drag = bits 0xbfa999999999999a

-- a 3:1 cone at rest, 0.8/37
abbrev pub cone_3_rest : Float
cone_3_rest = bits 0x3f9623fa77016240

-- a constant, and the numerator and the denominator of its decimal
abbrev pub decimals : List (Float × ℕ × ℕ)
decimals =
    (0·01, 1, 100) ∷
    (0·05, 5, 100) ∷
    (0·21, 21, 100) ∷
    (0·664, 664, 1000) ∷
    (0·72, 72, 100) ∷
    (0·75, 75, 100) ∷
    (0·82, 82, 100) ∷
    (1·3, 13, 10) ∷
    (1·4, 14, 10) ∷
    (1·52, 152, 100) ∷
    (2·1, 21, 10) ∷
    (4·0, 4, 1) ∷
    (6·0, 6, 1) ∷
    (37·0, 37, 1) ∷
    []

pub constants_nearest : map stored decimals ≡ map nearest decimals
unfolding of_bits round
constants_nearest = refl

-- and those that the program computes before it runs
pub computed_constants : (ln_4 ≡ ln_2 ⊗ 2·0) × (round_head_drag ≡ neg 0·05) × (cone_3_rest ≡ 0·8 ⊘ 37·0)
unfolding of_bits round neg mul div
computed_constants = (refl, refl, refl)
