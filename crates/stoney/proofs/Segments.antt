-- Which part of a table holds a Mach number M, for every nose and every float: at its own points a table has its own drag, with the slope of the segment to the
-- right; from a point on up to the next one the line between the two holds; from the last point on its drag is held, with slope 0; below the first point a table
-- that starts above Mach 0.8 is run down (proofs/RunDown.antt), and below Mach 0.8 every table is 0. The laws for all M rest on rising Machs (`nose_rises`).
use Rattle.std.specs.Prelude.{◌≡◌, Bool, true, false, ◌&&◌, cond, T, get_or, Float}
use Rattle.std.proofs.Math.Path.{refl}
use Rattle.std.proofs.Common.{sym, ap, ◌∙◌, subst, le_of_suc-le-suc, le_of_lt, not-suc-le-zero}
use mathlib.Core.List.{List, [], ◌∷◌}
use Prim.Native.Nat.{ℕ, zero, suc, ◌-◌, ◌<◌}
use native.Mathlib.Omega.{arith}
use Rattle.std.proofs.Math.ListN.{length}
use Rattle.std.specs.Float.{nan}
use Rattle.std.specs.Float.Ieee.{of_bits, to_bits, fits, round, sum, neg, add, sub, mul, div, lt, eq, le}
use Rattle.std.specs.Float.Ieee.Bits.{is_true}
use Rattle.std.specs.Float.Ieee.Fits.{and_l, and_r}
use Rattle.std.specs.Float.Ieee.Positive.{positive}
use Rattle.elementary.specs.Arithmetic.{◌⊖◌, ◌⊘◌, ◌≺◌, ◌≼◌}
use Rattle.elementary.specs.Constants.{0·0, 0·8}
use Rattle.elementary.specs.Equal.{same, same_is}
use Rattle.elementary.specs.Order.{itself, not_above, not_at_most, lt_le, le_through, lt_through}
use Rattle.stoney.specs.declared.StoneyNose.{StoneyNose}
use Rattle.stoney.specs.declared.StoneyNose.TheVariants.{PowerQuarter, PowerHalf, PowerThreeQuarters, ParabolaHalf, ParabolaThreeQuarters, Parabola, Ellipsoid, LvHaack, VonKarman}
use Rattle.stoney.specs.Tables.{noses}
use Rattle.stoney.specs.Points.{Point, points, no_point, range_of, range_within, first_mach, from_1·2, every, holds_at, rises, tail_rises, positive_at, rises_at}
use Rattle.stoney.proofs.Rises.{nose_rises}
use Rattle.stoney.specs.Segments.{point_of, last_of, count_is, 1·2, at_limit, starts, nothing}
use Rattle.stoney.specs.Lookup.{before, line, held, is_short_of, walk, lookup, value_and_slope}

-- ---- "at a tabled Mach": the point's own drag, with the slope of the segment to its right, and 0 at the last point

abbrev answers : StoneyNose → Point → Float → Bool
answers nose p slope = same (value_and_slope nose p.mach).value p.drag && same (value_and_slope nose p.mach).slope slope

abbrev to_the_right : StoneyNose → List Point → Bool
to_the_right nose [] = true
to_the_right nose (p ∷ []) = answers nose p 0·0
to_the_right nose (p ∷ q ∷ rest) = answers nose p ((q.drag ⊖ p.drag) ⊘ (q.mach ⊖ p.mach)) && to_the_right nose (q ∷ rest)

-- by computing, at all 149 points
all_to_the_right : T (every (λ nose. to_the_right nose (points nose)) noses)
unfolding value_and_slope lookup walk before line points of_bits to_bits fits round sum neg add sub mul div lt eq le
all_to_the_right = tt

module _ (nose : StoneyNose) where
  answer_is : (p : Point) (slope : Float) → T (answers nose p slope) → value_and_slope nose p.mach ≡ record { value = p.drag; slope = slope }
  answer_is p slope t =
      let a = value_and_slope nose p.mach in
      let v : a.value ≡ p.drag = same_is a.value p.drag (and_l (same a.value p.drag) (same a.slope slope) t) in
      let s : a.slope ≡ slope = same_is a.slope slope (and_r (same a.value p.drag) (same a.slope slope) t) in
      λ i. record { value = v i; slope = s i }

  in_list : (ps : List Point) (k : ℕ) → T (to_the_right nose ps) → suc k < length ps →
      let p = get_or ps k no_point in
      let q = get_or ps (suc k) no_point in
      value_and_slope nose p.mach ≡ record { value = p.drag; slope = (q.drag ⊖ p.drag) ⊘ (q.mach ⊖ p.mach) }
  in_list [] k t h = absurd (not-suc-le-zero h)
  in_list (p ∷ []) k t h = absurd (not-suc-le-zero (le_of_suc-le-suc h))
  in_list (p ∷ q ∷ rest) zero t h = let slope = (q.drag ⊖ p.drag) ⊘ (q.mach ⊖ p.mach) in answer_is p slope (and_l (answers nose p slope) (to_the_right nose (q ∷ rest)) t)
  in_list (p ∷ q ∷ rest) (suc k) t h =
      in_list (q ∷ rest) k (and_r (answers nose p ((q.drag ⊖ p.drag) ⊘ (q.mach ⊖ p.mach))) (to_the_right nose (q ∷ rest)) t) (le_of_suc-le-suc h)

  pub at_point : (k : ℕ) → suc k < (range_of nose).count →
      let p = point_of nose k in
      let q = point_of nose (suc k) in
      value_and_slope nose p.mach ≡ record { value = p.drag; slope = (q.drag ⊖ p.drag) ⊘ (q.mach ⊖ p.mach) }
  at_point k h =
      in_list (points nose) k (holds_at (λ nose. to_the_right nose (points nose)) all_to_the_right nose) (subst (λ (n : ℕ). suc k < n) (sym (count_is nose)) h)

-- ---- a walk through rising points

module _ (M : Float) where
  -- M is at or above some point, so at or above the first
  pub first_reached : (p : Point) (ps : List Point) (k : ℕ) → T (rises (p ∷ ps)) → k < length (p ∷ ps) → T ((get_or (p ∷ ps) k no_point).mach ≼ M) → T (p.mach ≼ M)
  first_reached p ps zero t h l = l
  first_reached p [] (suc k) t h l = absurd (not-suc-le-zero (le_of_suc-le-suc h))
  first_reached p (q ∷ rest) (suc k) t h l =
      le_through p.mach q.mach M
      (positive_at (p ∷ q ∷ rest) 0 t (omega arith))
      (positive_at (p ∷ q ∷ rest) 1 t (omega arith))
      (lt_le p.mach q.mach (rises_at (p ∷ q ∷ rest) 0 t (omega arith)))
      (first_reached q rest k (tail_rises p q rest t) (le_of_suc-le-suc h) l)

  -- so that the walk passes the first
  passed : (p : Point) (ps : List Point) (k : ℕ) → T (rises (p ∷ ps)) → k < length (p ∷ ps) → T ((get_or (p ∷ ps) k no_point).mach ≼ M) → is_short_of M p ≡ false
  passed p ps k t h l = not_above p.mach M (first_reached p ps k t h l)

  walk_between : (p : Point) (ps : List Point) (k : ℕ) → T (rises (p ∷ ps)) → suc k < length (p ∷ ps)
      → T ((get_or (p ∷ ps) k no_point).mach ≼ M) → T (M ≺ (get_or (p ∷ ps) (suc k) no_point).mach)
      → walk p ps M ≡ line (get_or (p ∷ ps) k no_point) (get_or (p ∷ ps) (suc k) no_point) M
  unfolding walk
  walk_between p [] k t h l u = absurd (not-suc-le-zero (le_of_suc-le-suc h))
  walk_between p (q ∷ rest) zero t h l u = rw (is_true (is_short_of M q) u)
  walk_between p (q ∷ rest) (suc k) t h l u =
      rw (passed q rest k (tail_rises p q rest t) (le_of_lt (le_of_suc-le-suc h)) l)
      (walk_between q rest k (tail_rises p q rest t) (le_of_suc-le-suc h) l u)

  walk_past : (p : Point) (ps : List Point) (k : ℕ) → T (rises (p ∷ ps)) → suc k ≡ length (p ∷ ps) → T ((get_or (p ∷ ps) k no_point).mach ≼ M)
      → walk p ps M ≡ held (get_or (p ∷ ps) k no_point)
  unfolding walk
  walk_past p [] zero t e l = refl
  walk_past p [] (suc k) t e l = absurd (omega arith)
  walk_past p (q ∷ rest) zero t e l = absurd (omega arith)
  walk_past p (q ∷ rest) (suc k) t e l =
      let n : suc k ≡ length (q ∷ rest) = omega arith in
      rw (passed q rest k (tail_rises p q rest t) (omega arith) l) (walk_past q rest k (tail_rises p q rest t) n l)

  in_between : (ps : List Point) (k : ℕ) → T (rises ps) → suc k < length ps → T ((get_or ps k no_point).mach ≼ M) → T (M ≺ (get_or ps (suc k) no_point).mach)
      → lookup ps M ≡ line (get_or ps k no_point) (get_or ps (suc k) no_point) M
  unfolding lookup
  in_between [] k t h l u = absurd (not-suc-le-zero h)
  in_between (p ∷ ps) k t h l u = rw (passed p ps k t (le_of_lt h) l) (walk_between p ps k t h l u)

  past : (ps : List Point) (k : ℕ) → T (rises ps) → suc k ≡ length ps → T ((get_or ps k no_point).mach ≼ M) → lookup ps M ≡ held (get_or ps k no_point)
  unfolding lookup
  past [] k t e l = absurd (omega arith)
  past (p ∷ ps) k t e l = rw (passed p ps k t (omega arith) l) (walk_past p ps k t e l)

  before_all : (ps : List Point) → 0 < length ps → T (M ≺ (get_or ps 0 no_point).mach) → lookup ps M ≡ before (get_or ps 0 no_point) M
  unfolding lookup
  before_all [] h u = absurd (not-suc-le-zero h)
  before_all (p ∷ ps) h u = rw (is_true (is_short_of M p) u)

-- ---- the noses

-- from a point on, and below the next one: the line between the two
pub on_segment : (nose : StoneyNose) (M : Float) (k : ℕ) → suc k < (range_of nose).count → T ((point_of nose k).mach ≼ M) → T (M ≺ (point_of nose (suc k)).mach)
    → value_and_slope nose M ≡ line (point_of nose k) (point_of nose (suc k)) M
unfolding value_and_slope
on_segment nose M k h l u = in_between M (points nose) k (nose_rises nose) (subst (λ (n : ℕ). suc k < n) (sym (count_is nose)) h) l u

-- from the last point on, +infinity included: its drag, with slope 0
pub past_last_point : (nose : StoneyNose) (M : Float) → T ((last_of nose).mach ≼ M) → value_and_slope nose M ≡ held (last_of nose)
unfolding value_and_slope
past_last_point nose M l = past M (points nose) ((range_of nose).count - 1) (nose_rises nose) (omega (arith, count_is nose, (range_within nose).0)) l

pub at_last_point : (nose : StoneyNose) → value_and_slope nose (last_of nose).mach ≡ held (last_of nose)
at_last_point nose =
    past_last_point nose (last_of nose).mach
    (itself (last_of nose).mach (positive_at (points nose) ((range_of nose).count - 1) (nose_rises nose) (omega (arith, count_is nose, (range_within nose).0))))

-- a NaN is held too: it has no point above it
pub at_nan : (nose : StoneyNose) → value_and_slope nose nan ≡ held (last_of nose)
unfolding value_and_slope lookup walk points lt
at_nan PowerQuarter = refl
at_nan PowerHalf = refl
at_nan PowerThreeQuarters = refl
at_nan ParabolaHalf = refl
at_nan ParabolaThreeQuarters = refl
at_nan Parabola = refl
at_nan Ellipsoid = refl
at_nan LvHaack = refl
at_nan VonKarman = refl

pub below_first : (nose : StoneyNose) (M : Float) → T (M ≺ first_mach nose) → value_and_slope nose M ≡ before (point_of nose 0) M
unfolding value_and_slope
below_first nose M u = before_all M (points nose) (omega (arith, count_is nose, (range_within nose).0)) u

-- ---- below the first point

-- Mach 0.8 is a positive number, below 1.2
limit_facts : T (positive 0·8) × T (0·8 ≺ 1·2) × T (positive 1·2) × ((0·8 ≺ 0·8) ≡ false)
unfolding round of_bits lt
limit_facts = (tt, tt, tt, refl)

late : (p : Point) (M : Float) → p.mach ≡ 1·2 → T (M ≺ 0·8) → before p M ≡ nothing
unfolding before
late p M e u = rw (e, is_true (0·8 ≺ 1·2) limit_facts.1, not_at_most 0·8 M u)

early : (M : Float) → before at_limit M ≡ nothing
unfolding before
early M = rw limit_facts.3

-- below Mach 0.8 every table is 0, with slope 0
pub below_limit : (nose : StoneyNose) (M : Float) → T (M ≺ 0·8) → value_and_slope nose M ≡ nothing
below_limit nose M u = go (from_1·2 nose) (starts nose)
  where
    go : (b : Bool) → cond b (first_mach nose ≡ 1·2) (point_of nose 0 ≡ at_limit) → value_and_slope nose M ≡ nothing
    go true e =
        below_first nose M (subst (λ (m : Float). T (M ≺ m)) (sym e) (lt_through M 0·8 1·2 limit_facts.0 limit_facts.2 u (lt_le 0·8 1·2 limit_facts.1)))
        ∙ late (point_of nose 0) M e u
    go false e = below_first nose M (subst (λ (p : Point). T (M ≺ p.mach)) (sym e) u) ∙ ap (λ (p : Point). before p M) e ∙ early M
