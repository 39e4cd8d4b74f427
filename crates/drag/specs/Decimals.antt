-- Each constant of `Constants` is the binary64 number nearest its decimal fraction: one table and one theorem, by computation.
use Rattle.std.specs.Prelude.{ℕ, ◌≡◌, refl, List, [], ◌∷◌, map, Float}
use Rattle.std.specs.Float.Ieee.{round, of_bits}
use Rattle.elementary.specs.Constants.{stored, nearest}
use Rattle.drag.specs.Constants.{3·0, 40·0, 51·0, 10000·0, 0·0148, 0·032, 0·035, 0·1, 0·12, 0·13, 0·15, 0·166, 0·18, 0·2, 0·25, 0·58, 0·76, 0·85, 1·5, 1·84, 5·6, 1·039, π/2}

-- each constant, with the numerator and the denominator of its decimal; π/2 stands by the digits that the Rust's standard library writes.
abbrev pub decimals : List (Float × ℕ × ℕ)
decimals =
    (3·0, 3, 1)
    ∷ (40·0, 40, 1)
    ∷ (51·0, 51, 1)
    ∷ (10000·0, 10000, 1)
    ∷ (0·0148, 148, 10000)
    ∷ (0·032, 32, 1000)
    ∷ (0·035, 35, 1000)
    ∷ (0·1, 1, 10)
    ∷ (0·12, 12, 100)
    ∷ (0·13, 13, 100)
    ∷ (0·15, 15, 100)
    ∷ (0·166, 166, 1000)
    ∷ (0·18, 18, 100)
    ∷ (0·2, 2, 10)
    ∷ (0·25, 25, 100)
    ∷ (0·58, 58, 100)
    ∷ (0·76, 76, 100)
    ∷ (0·85, 85, 100)
    ∷ (1·5, 15, 10)
    ∷ (1·84, 184, 100)
    ∷ (5·6, 56, 10)
    ∷ (1·039, 1039, 1000)
    ∷ (π/2, 157079632679489661923132169163975144, 100000000000000000000000000000000000)
    ∷ []

pub constants_nearest : map stored decimals ≡ map nearest decimals
unfolding of_bits round
constants_nearest = refl
