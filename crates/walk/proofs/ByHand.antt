-- Walks on paper: the count along the von Kármán nose's table, point by point, whose first points are at Mach 0.8, 0.85, 0.9 and 0.915; and what short lists are
-- refused with.
use mathlib.Core.Path.{◌≡◌, refl}
use mathlib.Core.Bool.{false}
use mathlib.Core.List.{List, [], ◌∷◌, ◌++◌}
use mathlib.Core.Option.{Option, none, some}
use Prim.Native.Nat.{ℕ}
use lib.Dec.{T, eqb}
use lib.Ieee.{Float, binary64, of_bits, round, neg, lt, eq, le}
use Rattle.elementary.specs.Constants.{0·0}
use Rattle.aero_error.specs.Checks.{up_to}
use Rattle.aero_error.specs.Told.{Told, told}
use Rattle.drag.specs.Friction.{mach_checked, machs_test}
use Rattle.stoney.specs.declared.StoneyNose.TheVariants.{VonKarman}
use Rattle.stoney.specs.Points.{points}
use Rattle.walk.specs.Tests.{rising_test, flight_test}
use Rattle.walk.specs.Walk.{leg, walk_from, walk_of}

-- a Mach number in tenths
abbrev tenths : ℕ → Float
tenths n = round binary64 false n 10

abbrev counts : List Float → ℕ
counts Ms = (walk_of VonKarman Ms).compared

-- | query | set against            | ends      | in all |
-- |-------|------------------------|-----------|--------|
-- | 0.5   | 0.8                    | at 0.8    | 1      |
-- | 0.8   | 0.8, 0.85              | at 0.85   | 3      |
-- | 0.8   | 0.85                   | at 0.85   | 4      |
-- | 0.9   | 0.85, 0.9, 0.915       | at 0.915  | 7      |
-- | 2.0   | the 15 that are left   | past them | 22     |
-- | 3.0   | none                   | there     | 22     |
abbrev flight : List Float
flight = tenths 5 ∷ tenths 8 ∷ tenths 8 ∷ tenths 9 ∷ []

pub by_hand : T (eqb (counts flight) 7)
unfolding walk_of walk_from leg points round lt eq le
by_hand = tt

pub past_the_last : T (eqb (counts (flight ++ tenths 20 ∷ tenths 30 ∷ [])) 22)
unfolding walk_of walk_from leg points round lt eq le
past_the_last = tt

-- ---- the tests, by number, code and value

abbrev answer : List Float → ℕ → Option Told
answer Ms cells = told (flight_test Ms cells)

-- equal Machs, no Machs, -0 after +0
pub accepted : (answer flight 4 ≡ none) × (answer [] 0 ≡ none) × (answer (tenths 0 ∷ neg (tenths 0) ∷ []) 2 ≡ none)
unfolding rising_test machs_test mach_checked up_to round of_bits neg lt eq le
accepted = (refl, refl, refl)

-- a falling pair; a bad Mach after it, and then one cell too few
pub refused : (answer (tenths 10 ∷ tenths 9 ∷ []) 2 ≡ some (record { number = 16; code = 0; value = 0·0 }))
    × (answer (tenths 10 ∷ tenths 9 ∷ neg (tenths 5) ∷ []) 3 ≡ some (record { number = 1; code = 1; value = neg (tenths 5) }))
    × (answer (tenths 10 ∷ tenths 9 ∷ neg (tenths 5) ∷ []) 2 ≡ some (record { number = 10; code = 0; value = 0·0 }))
unfolding rising_test machs_test mach_checked up_to round of_bits neg lt eq le
refused = (refl, refl, refl)
