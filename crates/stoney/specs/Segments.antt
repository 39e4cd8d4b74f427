-- What the laws of the segments speak of (proofs/Segments.antt): the points of a nose by number, that each segment reaches the next point, the two Machs at
-- which a table may start, and what it says below Mach 0.8.
use Rattle.std.specs.Prelude.{◌≡◌, Bool, true, false, ◌&&◌, cond, negsuc, T, get_or, Float}
use Rattle.std.proofs.Math.Path.{refl}
use mathlib.Core.List.{List, [], ◌∷◌}
use Prim.Native.Nat.{ℕ, ◌-◌}
use Rattle.std.proofs.Math.ListN.{length}
use Rattle.std.specs.Float.{binary64}
use Rattle.std.specs.Float.Ieee.{of_bits, round, sum, neg, add, sub, mul, div, lt, eq, le}
use Rattle.elementary.specs.Arithmetic.{◌⊖◌}
use Rattle.elementary.specs.Constants.{0·0}
use Rattle.elementary.specs.Split.{two^}
use Rattle.elementary.specs.Tests.{between}
use Rattle.stoney.specs.declared.StoneyNose.{StoneyNose}
use Rattle.stoney.specs.declared.StoneyNose.TheVariants.{PowerQuarter, PowerHalf, PowerThreeQuarters, ParabolaHalf, ParabolaThreeQuarters, Parabola, Ellipsoid, LvHaack, VonKarman}
use Rattle.stoney.specs.declared.ValueAndSlope.{ValueAndSlope}
use Rattle.stoney.specs.Tables.{noses}
use Rattle.stoney.specs.Points.{Point, points, no_point, range_of, first_mach, from_1·2, every, holds_at}
use Rattle.stoney.specs.Lookup.{subsonic_mach_limit, line}

-- ---- the points of a nose

-- the k-th point from 0, and the last
abbrev pub point_of : StoneyNose → ℕ → Point
point_of nose k = get_or (points nose) k no_point

abbrev pub last_of : StoneyNose → Point
last_of nose = point_of nose ((range_of nose).count - 1)

pub count_is : (nose : StoneyNose) → length (points nose) ≡ (range_of nose).count
unfolding points
count_is PowerQuarter = refl
count_is PowerHalf = refl
count_is PowerThreeQuarters = refl
count_is ParabolaHalf = refl
count_is ParabolaThreeQuarters = refl
count_is Parabola = refl
count_is Ellipsoid = refl
count_is LvHaack = refl
count_is VonKarman = refl

-- ---- a segment runs from its point to the next one: at the next point's Mach it has that point's drag, to 2 ^ -58

abbrev pub reaches : List Point → Bool
reaches [] = true
reaches (p ∷ []) = true
reaches (p ∷ q ∷ rest) = between (neg (two^ (negsuc 57))) ((line p q q.mach).value ⊖ q.drag) (two^ (negsuc 57)) && reaches (q ∷ rest)

all_reach : T (every (λ nose. reaches (points nose)) noses)
unfolding line points between of_bits round sum neg add sub mul div lt eq le
all_reach = tt

pub nose_reaches : (nose : StoneyNose) → T (reaches (points nose))
nose_reaches nose = holds_at (λ nose. reaches (points nose)) all_reach nose

-- ---- where a table starts

abbrev pub 1·2 : Float
1·2 = round binary64 false 12 10

-- Mach 0.8 with drag 0: where the other seven start, and where these two are run down to
abbrev pub at_limit : Point
at_limit = record { mach = subsonic_mach_limit; drag = 0·0 }

pub starts : (nose : StoneyNose) → cond (from_1·2 nose) (first_mach nose ≡ 1·2) (point_of nose 0 ≡ at_limit)
unfolding points round of_bits
starts PowerQuarter = refl
starts PowerHalf = refl
starts PowerThreeQuarters = refl
starts ParabolaHalf = refl
starts ParabolaThreeQuarters = refl
starts Parabola = refl
starts Ellipsoid = refl
starts LvHaack = refl
starts VonKarman = refl

-- what a table says below Mach 0.8
abbrev pub nothing : ValueAndSlope
nothing = record { value = 0·0; slope = 0·0 }
