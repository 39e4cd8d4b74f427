-- The points that the program stores: each number of a table is the binary64 number nearest its decimal, and the nine tables stand one after the other.
-- `part_of_all` shows that each nose's range picks that nose's table; that Mach strictly rises within each is `all_rise` (proofs/Rises.antt) and `rises_at`.
use Rattle.std.specs.Prelude.{◌≡◌, refl, Bool, true, false, ◌&&◌, List, [], ◌∷◌, ◌++◌, map, ℕ, zero, suc, ◌+◌, ◌-◌, ◌≤◌, ◌<◌, T, eqb, length, get_or, take, drop, Float}
use Rattle.std.proofs.Common.{le_of_suc-le-suc, not-suc-le-zero, lit<, lit≤, get_or-take, get_or-drop}
use Rattle.std.specs.Float.{binary64}
use Rattle.std.specs.Float.Ieee.{round}
use Rattle.std.specs.Float.Ieee.Fits.{and_l, and_r}
use Rattle.std.specs.Float.Ieee.Positive.{positive}
use Rattle.elementary.specs.Arithmetic.{◌≺◌, bits}
use Rattle.stoney.specs.declared.StoneyNose.{StoneyNose}
use Rattle.stoney.specs.declared.StoneyNose.TheVariants.{PowerQuarter, PowerHalf, PowerThreeQuarters, ParabolaHalf, ParabolaThreeQuarters, Parabola, Ellipsoid, LvHaack, VonKarman}
use Rattle.stoney.specs.declared.PointRange.{PointRange}
use Rattle.stoney.specs.declared.StoredPoint.{StoredPoint}
use Rattle.stoney.specs.Tables.{noses, tabled}

-- Mach, and the drag there
abbrev pub Point : Type 0
Point = StoredPoint

-- the stored point of a tabled pair: thousandths of Mach, ten-thousandths of drag, each rounded to binary64
abbrev pub point : ℕ × ℕ → Point
point p = record { mach = round binary64 false p.0 1000; drag = round binary64 false p.1 10000 }

unfoldable pub points : StoneyNose → List Point
points nose = map point (tabled nose)

-- the table of all points
abbrev joined : List StoneyNose → List Point
unfolding points
joined [] = []
joined (nose ∷ rest) = points nose ++ joined rest

unfoldable pub all_points : List Point
unfolding joined
all_points = joined noses

-- past the end of the table
abbrev pub no_point : Point
no_point = record { mach = bits 0; drag = bits 0 }

unfoldable pub mach_at : ℕ → Float
unfolding all_points
mach_at place = (get_or all_points place no_point).mach

unfoldable pub drag_at : ℕ → Float
unfolding all_points
drag_at place = (get_or all_points place no_point).drag

-- within the list it is all one what stands past its end
pub any_default : (ps : List Point) (k : ℕ) (d d' : Point) → k < length ps → get_or ps k d ≡ get_or ps k d'
any_default [] k d d' h = absurd (not-suc-le-zero h)
any_default (p ∷ ps) zero d d' h = refl
any_default (p ∷ ps) (suc k) d d' h = any_default ps k d d' (le_of_suc-le-suc h)

-- where a nose's points stand among all
abbrev pub range_of : StoneyNose → PointRange
range_of PowerQuarter = record { first = 0; count = 12 }
range_of PowerHalf = record { first = 12; count = 17 }
range_of PowerThreeQuarters = record { first = 29; count = 18 }
range_of ParabolaHalf = record { first = 47; count = 18 }
range_of ParabolaThreeQuarters = record { first = 65; count = 18 }
range_of Parabola = record { first = 83; count = 18 }
range_of Ellipsoid = record { first = 101; count = 12 }
range_of LvHaack = record { first = 113; count = 18 }
range_of VonKarman = record { first = 131; count = 18 }

pub part_of_all : (nose : StoneyNose) → take (range_of nose).count (drop (range_of nose).first all_points) ≡ points nose
unfolding all_points points
part_of_all PowerQuarter = refl
part_of_all PowerHalf = refl
part_of_all PowerThreeQuarters = refl
part_of_all ParabolaHalf = refl
part_of_all ParabolaThreeQuarters = refl
part_of_all Parabola = refl
part_of_all Ellipsoid = refl
part_of_all LvHaack = refl
part_of_all VonKarman = refl

-- what stands at a nose's own place k stands at the place first + k of the table
pub at_place : (nose : StoneyNose) (k : ℕ) → k < (range_of nose).count → get_or all_points ((range_of nose).first + k) no_point ≡ get_or (points nose) k no_point
at_place nose k h = rw (← part_of_all nose, get_or-take, get_or-drop)

pub range_within : (nose : StoneyNose) → (0 < (range_of nose).count) × ((range_of nose).first + (range_of nose).count ≤ 149)
range_within PowerQuarter = (lit< tt, lit≤ tt)
range_within PowerHalf = (lit< tt, lit≤ tt)
range_within PowerThreeQuarters = (lit< tt, lit≤ tt)
range_within ParabolaHalf = (lit< tt, lit≤ tt)
range_within ParabolaThreeQuarters = (lit< tt, lit≤ tt)
range_within Parabola = (lit< tt, lit≤ tt)
range_within Ellipsoid = (lit< tt, lit≤ tt)
range_within LvHaack = (lit< tt, lit≤ tt)
range_within VonKarman = (lit< tt, lit≤ tt)

abbrev pub first_mach : StoneyNose → Float
first_mach nose = (get_or (points nose) 0 no_point).mach

abbrev pub last_mach : StoneyNose → Float
last_mach nose = (get_or (points nose) (length (points nose) - 1) no_point).mach

-- whether the table starts at Mach 1.2: those of the wind tunnel do
abbrev pub from_1·2 : StoneyNose → Bool
from_1·2 nose = eqb (get_or (tabled nose) 0 (0, 0)).0 1200

-- ---- "within each nose Mach strictly rises": one test over all nine tables, computed in proofs/Rises.antt, and one law that carries it to each entry

-- every Mach is a positive number and below the next one
abbrev pub rises : List Point → Bool
rises [] = true
rises (p ∷ []) = positive p.mach
rises (p ∷ q ∷ rest) = positive p.mach && (p.mach ≺ q.mach && rises (q ∷ rest))

-- a test of every nose
abbrev pub every : (StoneyNose → Bool) → List StoneyNose → Bool
every test [] = true
every test (nose ∷ rest) = test nose && every test rest

module _ (test : StoneyNose → Bool) where
  rest_holds : (k : ℕ) (all : List StoneyNose) → T (every test all) → T (every test (drop k all))
  rest_holds zero all t = t
  rest_holds (suc k) [] t = tt
  rest_holds (suc k) (nose ∷ rest) t = rest_holds k rest (and_r (test nose) (every test rest) t)

  first_holds : (nose : StoneyNose) (rest : List StoneyNose) → T (every test (nose ∷ rest)) → T (test nose)
  first_holds nose rest = and_l (test nose) (every test rest)

  pub holds_at : T (every test noses) → (nose : StoneyNose) → T (test nose)
  holds_at t PowerQuarter = first_holds _ (drop 1 noses) (rest_holds 0 noses t)
  holds_at t PowerHalf = first_holds _ (drop 2 noses) (rest_holds 1 noses t)
  holds_at t PowerThreeQuarters = first_holds _ (drop 3 noses) (rest_holds 2 noses t)
  holds_at t ParabolaHalf = first_holds _ (drop 4 noses) (rest_holds 3 noses t)
  holds_at t ParabolaThreeQuarters = first_holds _ (drop 5 noses) (rest_holds 4 noses t)
  holds_at t Parabola = first_holds _ (drop 6 noses) (rest_holds 5 noses t)
  holds_at t Ellipsoid = first_holds _ (drop 7 noses) (rest_holds 6 noses t)
  holds_at t LvHaack = first_holds _ (drop 8 noses) (rest_holds 7 noses t)
  holds_at t VonKarman = first_holds _ (drop 9 noses) (rest_holds 8 noses t)

pub tail_rises : (p q : Point) (rest : List Point) → T (rises (p ∷ q ∷ rest)) → T (rises (q ∷ rest))
tail_rises p q rest t = and_r (p.mach ≺ q.mach) (rises (q ∷ rest)) (and_r (positive p.mach) (p.mach ≺ q.mach && rises (q ∷ rest)) t)

-- at each entry: the Mach there is positive, and below the next one's
pub positive_at : (ps : List Point) (k : ℕ) → T (rises ps) → k < length ps → T (positive (get_or ps k no_point).mach)
positive_at [] k t h = absurd (not-suc-le-zero h)
positive_at (p ∷ []) zero t h = t
positive_at (p ∷ []) (suc k) t h = absurd (not-suc-le-zero (le_of_suc-le-suc h))
positive_at (p ∷ q ∷ rest) zero t h = and_l (positive p.mach) (p.mach ≺ q.mach && rises (q ∷ rest)) t
positive_at (p ∷ q ∷ rest) (suc k) t h = positive_at (q ∷ rest) k (tail_rises p q rest t) (le_of_suc-le-suc h)

pub rises_at : (ps : List Point) (k : ℕ) → T (rises ps) → suc k < length ps → T ((get_or ps k no_point).mach ≺ (get_or ps (suc k) no_point).mach)
rises_at [] k t h = absurd (not-suc-le-zero h)
rises_at (p ∷ []) k t h = absurd (not-suc-le-zero (le_of_suc-le-suc h))
rises_at (p ∷ q ∷ rest) zero t h = and_l (p.mach ≺ q.mach) (rises (q ∷ rest)) (and_r (positive p.mach) (p.mach ≺ q.mach && rises (q ∷ rest)) t)
rises_at (p ∷ q ∷ rest) (suc k) t h = rises_at (q ∷ rest) k (tail_rises p q rest t) (le_of_suc-le-suc h)
