-- The count of a walk. For every nose and list: each time that a query is set against a point it leaves that point behind for good, or ends, so that the count is
-- at most queries plus points (`count_most`). For accepted queries: which points and queries those are (`cost_is`).
use Rattle.std.specs.Prelude.{Ok, Option, Some, None}
use mathlib.Core.Path.{◌≡◌, refl, sym, ap, ◌∙◌, subst}
use mathlib.Core.Bool.{Bool, true, false, cond}
use mathlib.Core.List.{List, [], ◌∷◌}
use Prim.Native.Nat.{ℕ, suc, ◌+◌, ◌≤◌, ◌<◌}
use native.Mathlib.Nat.{zero-add, not-suc-le-zero}
use native.Mathlib.Omega.{arith}
use lib.Dec.{T}
use lib.ListN.{length}
use lib.Ieee.{Float}
use Rattle.stoney.specs.declared.StoneyNose.{StoneyNose}
use Rattle.stoney.specs.Points.{Point, points, range_of, range_within, rises, tail_rises}
use Rattle.stoney.proofs.Rises.{nose_rises}
use Rattle.stoney.specs.Segments.{count_is}
use Rattle.stoney.proofs.Segments.{first_reached}
use Rattle.walk.specs.Tests.{flight_test}
use Rattle.walk.specs.Walk.{Stand, reached, leg, went, walk_from, start, walk_of}
use Rattle.walk.specs.Cost.{reached_by, short_of, last, cost, cost_of}
use Rattle.walk.specs.Answers.{count_of}
use Rattle.walk.proofs.SingleLookup.{Rising, Caught, rest_rises, rest_rising, accepted_rise, at_start, caught}

-- ---- every list

-- 1 where a query ends at a point, 0 past the last
abbrev at_point : List Point → ℕ
at_point [] = 0
at_point (p ∷ ahead) = 1

leg_count : (passed : Option Point) (ahead : List Point) (M : Float)
    → (leg passed ahead M).compared + length (leg passed ahead M).ends.ahead ≡ length ahead + at_point (leg passed ahead M).ends.ahead
unfolding leg
leg_count passed [] M = refl
leg_count passed (p ∷ ahead) M = go (reached p M) refl (leg_count (Some p) ahead M)
  where
    go : (b : Bool) → reached p M ≡ b
        → (leg (Some p) ahead M).compared + length (leg (Some p) ahead M).ends.ahead ≡ length ahead + at_point (leg (Some p) ahead M).ends.ahead
        → (leg passed (p ∷ ahead) M).compared + length (leg passed (p ∷ ahead) M).ends.ahead ≡ suc (length ahead) + at_point (leg passed (p ∷ ahead) M).ends.ahead
    go true e h = rw e (omega (arith, h))
    go false e h = rw e (omega arith)

at_most_one : (ahead : List Point) → at_point ahead ≤ 1
at_most_one [] = omega arith
at_most_one (p ∷ ahead) = omega arith

pub walk_most : (stand : Stand) (Ms : List Float) → (walk_from stand Ms).compared ≤ length Ms + length stand.ahead
unfolding walk_from
walk_most stand [] = omega arith
walk_most stand (M ∷ Ms) =
    let one = leg_count stand.passed stand.ahead M in
    let end = at_most_one (went stand M).ends.ahead in
    let rest = walk_most (went stand M).ends Ms in
    omega (arith, one, end, rest)

pub count_most : (nose : StoneyNose) (Ms : List Float) → count_of nose Ms ≤ length Ms + (range_of nose).count
unfolding walk_of
count_most nose Ms = let h = walk_most (start nose) Ms in omega (arith, h, count_is nose)

-- ---- accepted queries

module _ (M : Float) where
  -- a point that isn't reached has none after it that is
  next_not_reached : (p q : Point) (rest : List Point) → T (rises (p ∷ q ∷ rest)) → reached p M ≡ false → reached q M ≡ false
  next_not_reached p q rest t e = go (reached q M) refl
    where
      go : (b : Bool) → reached q M ≡ b → reached q M ≡ false
      go false f = f
      go true f = absurd (subst T e (first_reached M p (q ∷ rest) 1 t (omega arith) (subst T (sym f) tt)))

  none_after : (p : Point) (ps : List Point) → T (rises (p ∷ ps)) → reached p M ≡ false → reached_by M ps ≡ 0
  unfolding reached_by
  none_after p [] t e = refl
  none_after p (q ∷ rest) t e = let f = next_not_reached p q rest t e in rw f (none_after q rest (tail_rises p q rest t) f)

  last_not_reached : (p : Point) (ps : List Point) → T (rises (p ∷ ps)) → reached p M ≡ false → reached (last (p ∷ ps)) M ≡ false
  last_not_reached p [] t e = e
  last_not_reached p (q ∷ rest) t e = last_not_reached q rest (tail_rises p q rest t) (next_not_reached p q rest t e)

  -- the points passed are those at or below M
  left_over : (passed : Option Point) (ps : List Point) → T (rises ps) → length (leg passed ps M).ends.ahead + reached_by M ps ≡ length ps
  unfolding leg reached_by
  left_over passed [] t = refl
  left_over passed (p ∷ ps) t = go (reached p M) refl (left_over (Some p) ps (rest_rises p ps t))
    where
      go : (b : Bool) → reached p M ≡ b → length (leg (Some p) ps M).ends.ahead + reached_by M ps ≡ length ps
          → length (leg passed (p ∷ ps) M).ends.ahead + reached_by M (p ∷ ps) ≡ suc (length ps)
      go true e h = rw e (omega (arith, h))
      go false e h = let z = none_after p ps t e in rw e (omega (arith, z))

  -- a query ends at a point unless it reaches the last one
  ends_at : (passed : Option Point) (p : Point) (ps : List Point) → T (rises (p ∷ ps)) → at_point (leg passed (p ∷ ps) M).ends.ahead ≡ cond (reached (last (p ∷ ps)) M) 0 1
  unfolding leg
  ends_at passed p [] t = go (reached p M) refl
    where
      go : (b : Bool) → reached p M ≡ b → at_point (leg passed (p ∷ []) M).ends.ahead ≡ cond (reached p M) 0 1
      go true e = rw e
      go false e = rw e
  ends_at passed p (q ∷ rest) t = go (reached p M) refl (ends_at (Some p) q rest (tail_rises p q rest t))
    where
      go : (b : Bool) → reached p M ≡ b → at_point (leg (Some p) (q ∷ rest) M).ends.ahead ≡ cond (reached (last (q ∷ rest)) M) 0 1
          → at_point (leg passed (p ∷ q ∷ rest) M).ends.ahead ≡ cond (reached (last (q ∷ rest)) M) 0 1
      go true e h = rw e h
      go false e h = rw (e, last_not_reached p (q ∷ rest) t e)

-- one query more that does not reach the point, or the same number
one_short : (p : Point) (M : Float) (Ms : List Float) → short_of p (M ∷ Ms) ≡ cond (reached p M) 0 1 + short_of p Ms
unfolding short_of
one_short p M Ms = go (reached p M) refl
  where
    go : (b : Bool) → reached p M ≡ b → short_of p (M ∷ Ms) ≡ cond (reached p M) 0 1 + short_of p Ms
    go true e = rw e (sym (zero-add (short_of p Ms)))
    go false e = let s : suc (short_of p Ms) ≡ 1 + short_of p Ms = omega arith in rw e s

module _ (p : Point) (ps : List Point) (t : T (rises (p ∷ ps))) where
  module _ (stand : Stand) (M : Float) (c : (went stand M).ends ≡ (leg None (p ∷ ps) M).ends) where
    one_query : (went stand M).compared + length (went stand M).ends.ahead ≡ length stand.ahead + cond (reached (last (p ∷ ps)) M) 0 1
    one_query =
        leg_count stand.passed stand.ahead M ∙ ap (λ (n : ℕ). length stand.ahead + n) (ap (λ (s : Stand). at_point s.ahead) c ∙ ends_at M None p ps t)

    left_there : length (went stand M).ends.ahead + reached_by M (p ∷ ps) ≡ length (p ∷ ps)
    left_there = rw c (left_over M None (p ∷ ps) t)

  from_stand : (stand : Stand) (M : Float) (Ms : List Float) → Caught (p ∷ ps) stand (M ∷ Ms) → Rising (M ∷ Ms)
      → (walk_from stand (M ∷ Ms)).compared + length (p ∷ ps) ≡ length stand.ahead + cost (p ∷ ps) M Ms + short_of (last (p ∷ ps)) (M ∷ Ms)
  unfolding walk_from short_of
  from_stand stand M [] c r =
      let one = one_query stand M c in
      let left = left_there stand M c in
      let short = one_short (last (p ∷ ps)) M [] in
      omega (arith, one, left, short)
  from_stand stand M (N ∷ Ns) c r =
      let one = one_query stand M c in
      let short = one_short (last (p ∷ ps)) M (N ∷ Ns) in
      let rest = from_stand (went stand M).ends N Ns (subst (λ (s : Stand). Caught (p ∷ ps) s (N ∷ Ns)) (sym c) (caught (p ∷ ps) t M (N ∷ Ns) r)) (rest_rising M (N ∷ Ns) r) in
      omega (arith, one, short, rest)

whole : (ps : List Point) → T (rises ps) → 0 < length ps → (M : Float) (Ms : List Float) → Rising (M ∷ Ms)
    → (walk_from (record { passed = None; ahead = ps }) (M ∷ Ms)).compared ≡ cost ps M Ms + short_of (last ps) (M ∷ Ms)
whole [] t h M Ms r = absurd (not-suc-le-zero h)
whole (p ∷ ps) t h M Ms r = let all = from_stand p ps t (record { passed = None; ahead = p ∷ ps }) M Ms (at_start (p ∷ ps) (M ∷ Ms)) r in omega (arith, all)

-- "the number of times a query was set against a table point", told without the walk
pub cost_is : (nose : StoneyNose) (Ms : List Float) (cells : ℕ) → flight_test Ms cells ≡ Ok tt → count_of nose Ms ≡ cost_of nose Ms
unfolding walk_of walk_from
cost_is nose [] cells h = refl
cost_is nose (M ∷ Ms) cells h = whole (points nose) (nose_rises nose) (omega (arith, count_is nose, (range_within nose).0)) M Ms (accepted_rise (M ∷ Ms) cells h)
