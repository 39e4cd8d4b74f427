-- What the queries of a flight have to pass, in this order: 10 for too many of them or too few answer cells, 1 for the first bad Mach of all, 16 for a Mach
-- below its forerunner.
use Rattle.aero_error.specs.Checks.{◌then◌, unless, up_to, Check}
use Rattle.std.specs.Prelude.{List, ℕ, suc, ◌-◌, ltb, length, get_or, Float}
use Rattle.std.specs.Float.{nan}
use Rattle.elementary.specs.Arithmetic.{◌≺◌}
use Rattle.aero_error.specs.declared.Rule.TheVariants.{TooFewCells, FallingMach}
use Rattle.drag.specs.Friction.{machs_test}

-- "up to 256 Machs"
abbrev pub most_queries : ℕ
most_queries = 256

-- "10 (more than 256 queries, or too few answer cells)"
abbrev pub room_test : List Float → ℕ → Check
room_test Ms cells = unless (ltb most_queries (length Ms)) TooFewCells then unless (ltb cells (length Ms)) TooFewCells

-- "and 1 for the first bad Mach"
abbrev pub given_test : List Float → ℕ → Check
given_test Ms cells = room_test Ms cells then machs_test Ms

-- "Refusal 16 is for a Mach below its forerunner". -0 is not below +0.
unfoldable pub rising_test : List Float → Check
rising_test Ms = up_to (length Ms - 1) (λ k. unless (get_or Ms (suc k) nan ≺ get_or Ms k nan) FallingMach)

abbrev pub flight_test : List Float → ℕ → Check
flight_test Ms cells = given_test Ms cells then rising_test Ms
