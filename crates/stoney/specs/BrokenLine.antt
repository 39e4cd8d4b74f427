-- The broken line through a nose's stored points, with no rounding in it. Mach numbers and drags are whole numbers of units of 2 ^ -1074 (`units_of`), and the line's
-- height at a Mach number is a fraction of two whole numbers, in the same units. It is level before its first corner and after its last. Of the rest of this crate
-- it knows the tables and the stored points alone.
use Rattle.std.specs.Prelude.{cond, List, [], ◌∷◌, ℕ, ◌+◌, ◌-◌, ◌*◌, ltb, Float}
use Rattle.elementary.specs.Nearest.{units_of}
use Rattle.elementary.specs.Distance.{Fraction}
use Rattle.stoney.specs.declared.StoneyNose.{StoneyNose}
use Rattle.stoney.specs.Points.{Point, point, points, no_point, from_1·2}

-- where a point stands: its Mach number to the right, its drag upwards
abbrev pub across : Point → ℕ
across p = units_of p.mach

abbrev pub height : Point → ℕ
height p = units_of p.drag

-- drag 0 at Mach 0.8
abbrev pub start : Point
start = point (800, 0)

-- "with the line from 0 at Mach 0.8 for the two tables starting at 1.2": they have one corner more
abbrev pub corners : StoneyNose → List Point
corners nose = cond (from_1·2 nose) (start ∷ points nose) (points nose)

-- "level outside"
abbrev pub level : Point → Fraction
level p = record { over = height p; under = 1 }

-- between p and q: the mean of the two heights, each weighted with how far m is from the other one
abbrev pub straight : Point → Point → ℕ → Fraction
straight p q m = record { over = height p * (across q - m) + height q * (m - across p); under = across q - across p }

-- from p on, which is at or to the left of m, through the corners that are left
abbrev pub onwards : Point → List Point → ℕ → Fraction
onwards p [] m = level p
onwards p (q ∷ rest) m = cond (ltb m (across q)) (straight p q m) (onwards q rest m)

-- (no table is empty)
abbrev pub through : List Point → ℕ → Fraction
through [] m = level no_point
through (p ∷ rest) m = cond (ltb m (across p)) (level p) (onwards p rest m)

unfoldable pub broken_line : StoneyNose → Float → Fraction
broken_line nose M = through (corners nose) (units_of M)
