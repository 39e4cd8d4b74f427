-- The shape byte of a part card, and the two shapes that have names (docs/REFERENCE.md, Cards and Modules): "0 conical, 1 ogive, 2 elliptical, 3 power, 4 parabolic, 5 Haack".
use Rattle.std.specs.Prelude.{◌≡◌, refl, false, cond, ℕ, eqb, Float}
use Rattle.std.specs.Float.{binary64}
use Rattle.std.specs.Float.Ieee.{round, of_bits, of_int, div}
use Rattle.elementary.specs.Arithmetic.{◌⊘◌, whole, bits}
use Rattle.elementary.specs.Constants.{0·0, 1·0}
use Rattle.shapes.specs.declared.NoseShape.{NoseShape}
use Rattle.shapes.specs.declared.NoseShape.TheVariants.{Conical, Ogive, Elliptical, PowerSeries, ParabolicSeries, Haack}

abbrev pub number_of_shape : NoseShape → ℕ
number_of_shape Conical = 0
number_of_shape (Ogive radius-ratio) = 1
number_of_shape Elliptical = 2
number_of_shape (PowerSeries exponent) = 3
number_of_shape (ParabolicSeries parameter) = 4
number_of_shape (Haack parameter) = 5

-- the shape of a number, with a parameter for the shapes that have one
abbrev pub shape_of : ℕ → Float → NoseShape
shape_of n x =
    cond (eqb n 0) Conical
    (cond (eqb n 1) (Ogive x)
    (cond (eqb n 2) Elliptical
    (cond (eqb n 3) (PowerSeries x)
    (cond (eqb n 4) (ParabolicSeries x)
    (Haack x)))))

-- a shape's parameter; a shape without one has +0 in its place
abbrev pub parameter_of : NoseShape → Float
parameter_of Conical = 0·0
parameter_of (Ogive radius-ratio) = radius-ratio
parameter_of Elliptical = 0·0
parameter_of (PowerSeries exponent) = exponent
parameter_of (ParabolicSeries parameter) = parameter
parameter_of (Haack parameter) = parameter

-- ---- "`VON_KARMAN`, `LV_HAACK` as constants of the type": Haack's series with C = 0 and with C = 1/3

abbrev pub von_karman : NoseShape
von_karman = Haack 0·0

abbrev pub lv_haack : NoseShape
lv_haack = Haack (1·0 ⊘ whole 3)

-- C = 1/3 is the binary64 number nearest to it, by its bits
pub third : (parameter_of lv_haack ≡ round binary64 false 1 3) × (parameter_of lv_haack ≡ bits 0x3fd5_5555_5555_5555)
unfolding div of_int round of_bits
third = (refl, refl)

-- both have the shape byte of Haack's series
pub both_haack : (number_of_shape von_karman ≡ 5) × (number_of_shape lv_haack ≡ 5)
both_haack = (refl, refl)
