-- What a call answers and leaves in the answer cells. Accepted: the count of the walk, and the single lookup's value at each Mach, then the cells that stood there.
-- Refused: the first test that fails, and all cells as they were.
use Rattle.std.specs.Prelude.{◌≡◌, List, ◌++◌, map, ℕ, length, drop, Float, Result, Ok, Err}
use Rattle.aero_error.specs.Checks.{Check, after, ◌and_then◌}
use Rattle.std.proofs.Math.Option.{Option, none, some}
use Rattle.aero_error.specs.Told.{Told, told_of}
use Rattle.aero_error.specs.declared.AeroError.{AeroError}
use Rattle.stoney.specs.declared.StoneyNose.{StoneyNose}
use Rattle.stoney.specs.Lookup.{value_and_slope}
use Rattle.walk.specs.Tests.{flight_test}
use Rattle.walk.specs.Walk.{walk_of}

-- how many times a query was set against a point, or the refusal
abbrev pub Walked : Type 0
Walked = Result ℕ AeroError

-- the count where the tests have passed, or their refusal
abbrev pub walked_as : Check → ℕ → Walked
walked_as check compared = check and_then Ok compared

abbrev pub told_of_walk : Walked → Option Told
told_of_walk (Ok n) = none
told_of_walk (Err e) = some (told_of e)

-- "the number of times a query was set against a table point"
abbrev pub count_of : StoneyNose → List Float → ℕ
count_of nose Ms = (walk_of nose Ms).compared

-- "Each answer is the single lookup's value"
abbrev pub values_of : StoneyNose → List Float → List Float
values_of nose Ms = map (λ M. (value_and_slope nose M).value) Ms

-- the answer r to the queries Ms, and the answer cells before (xs) and after (ys)
pub record Answered (nose : StoneyNose) (Ms xs : List Float) (r : Walked) (ys : List Float) : Type 0 where
  pub answer : r ≡ walked_as (flight_test Ms (length xs)) (count_of nose Ms)
  pub cells : ys ≡ after (λ e. xs) (flight_test Ms (length xs)) (values_of nose Ms ++ drop (length Ms) xs)
