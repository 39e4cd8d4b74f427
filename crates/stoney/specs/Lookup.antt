-- What a table says at a Mach number M: the value and its slope, and beside them whether M is beyond its last point. The points are walked from the first to the first one above M; the segment that ends there
-- holds M, so that a tabled Mach takes the segment to its right. nose_drag.rs, `StoneyNose::value_and_slope`, with its order of operations.
use Rattle.std.specs.Prelude.{Bool, cond, List, [], ◌∷◌, Float}
use Rattle.elementary.specs.Arithmetic.{◌⊕◌, ◌⊖◌, ◌⊗◌, ◌⊘◌, ◌≺◌, ◌≼◌, bits}
use Rattle.elementary.specs.Constants.{0·8}
use Rattle.stoney.specs.declared.StoneyNose.{StoneyNose}
use Rattle.stoney.specs.declared.ValueAndSlope.{ValueAndSlope}
use Rattle.stoney.specs.declared.Reading.{Reading}
use Rattle.stoney.specs.Points.{Point, points, no_point, last_mach}

-- the top of the subsonic region (Niskanen 2009, Table 3.1)
abbrev pub subsonic_mach_limit : Float
subsonic_mach_limit = 0·8

-- below the first point: a table that starts above Mach 0.8 is run down in a straight line to 0 at Mach 0.8 and is 0 before it; any other holds its first value
unfoldable pub before : Point → Float → ValueAndSlope
before first M =
    let slope = first.drag ⊘ (first.mach ⊖ subsonic_mach_limit) in
    cond (subsonic_mach_limit ≺ first.mach)
    (cond (subsonic_mach_limit ≼ M)
    (record { value = slope ⊗ (M ⊖ subsonic_mach_limit); slope = slope })
    (record { value = bits 0; slope = bits 0 }))
    (record { value = first.drag; slope = bits 0 })

-- on the straight line from p to q
unfoldable pub line : Point → Point → Float → ValueAndSlope
line p q M =
    let slope = (q.drag ⊖ p.drag) ⊘ (q.mach ⊖ p.mach) in
    record { value = p.drag ⊕ slope ⊗ (M ⊖ p.mach); slope = slope }

-- past the last point its value is held
abbrev pub held : Point → ValueAndSlope
held last = record { value = last.drag; slope = bits 0 }

-- M is below the point q, so that the segment that ends at q holds it
abbrev pub is_short_of : Float → Point → Bool
is_short_of M q = M ≺ q.mach

-- from p on, which is at or below M, through the points that are left. A NaN has no point above it and is held.
unfoldable pub walk : Point → List Point → Float → ValueAndSlope
unfolding line
walk p [] M = held p
walk p (q ∷ rest) M = cond (is_short_of M q) (line p q M) (walk q rest M)

-- (no table is empty)
unfoldable pub lookup : List Point → Float → ValueAndSlope
unfolding before walk
lookup [] M = held no_point
lookup (first ∷ rest) M = cond (is_short_of M first) (before first M) (walk first rest M)

unfoldable pub value_and_slope : StoneyNose → Float → ValueAndSlope
unfolding lookup points
value_and_slope nose M = lookup (points nose) M

-- ---- beside the value

-- "whether Mach was above its table's last Mach": a NaN is above none
unfoldable pub beyond : StoneyNose → Float → Bool
unfolding points
beyond nose M = last_mach nose ≺ M

-- the lookup's answer
abbrev pub reading : StoneyNose → Float → Reading
reading nose M = record { at = value_and_slope nose M; beyond = beyond nose M }
