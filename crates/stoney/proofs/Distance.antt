-- How far the lookup is from the broken line (specs/Distance.antt): one computed test over the segments of all nine tables, and one law that carries it along a walk
-- through them to every Mach number. At the corners themselves the distance is 0, by computing.
use mathlib.Core.Path.{◌≡◌, refl, sym, ap, ◌∙◌, subst}
use mathlib.Core.Bool.{Bool, true, false, ◌&&◌, true≢false}
use mathlib.Core.List.{List, [], ◌∷◌}
use Prim.Native.Nat.{ℕ, zero, suc, ◌+◌, ◌*◌, ◌^◌, ◌≤◌, ◌<◌}
use native.Mathlib.Nat.{zero-mul, mul-one, mul-pos, zero-lt-suc, le_of_suc-le-suc, not-suc-le-zero}
use native.Mathlib.Omega.{arith}
use lib.Dec.{T, ltb, eqb, eqb→eq, ltb→lt, lit<}
use lib.IntN.{ℤ}
use lib.ListN.{length, get_or, drop}
use lib.Ieee.{Float, nan, inf, fin, binary64, up, down, fits, of_bits, round, sum, neg, add, sub, mul, div, lt, le, eq}
use lib.Ieee.Scale.{finite}
use lib.Ieee.Fits.{and_l, and_r, up_pos}
use lib.Ieee.Positive.{positive}
use borrow.Author.Tests.{ltb-true, ltb-false, lt-ltb}
use Rattle.elementary.specs.Arithmetic.{◌≺◌, ◌≼◌}
use Rattle.elementary.specs.Constants.{0·0, 0·8}
use Rattle.elementary.specs.Order.{not_above}
use Rattle.elementary.specs.Nearest.{units_of}
use Rattle.elementary.specs.Distance.{two^_, Counts, Apart, OffBy}
use Rattle.elementary.proofs.Bits.{units_are, no_units}
use Rattle.elementary.proofs.Ranges.{reaches, positive_from}
use Rattle.elementary.proofs.Rounding.{held_counts, positive_counts, counts, counts_is, less_than}
use Rattle.stoney.specs.declared.StoneyNose.{StoneyNose}
use Rattle.stoney.specs.declared.StoneyNose.TheVariants.{VonKarman}
use Rattle.stoney.specs.Tables.{noses}
use Rattle.stoney.specs.Points.{Point, points, no_point, every, holds_at}
use Rattle.stoney.specs.Lookup.{line, before, walk, lookup, value_and_slope}
use Rattle.stoney.proofs.Segments.{below_limit}
use Rattle.stoney.specs.BrokenLine.{across, height, start, corners, level, onwards, through, broken_line}
use Rattle.stoney.specs.Distance.{bound, HowFar}
use Rattle.stoney.proofs.Segment.{fair_segment, on_line}
use Rattle.stoney.proofs.Corners.{from_start, by_corners}

-- ---- the tests

-- a point stands where the line has it
abbrev stands : Point → Bool
stands p = counts p.mach (across p) && counts p.drag (height p)

-- the corners that are left, each with the segment to its right
abbrev fair_line : List Point → Bool
fair_line [] = true
fair_line (p ∷ []) = stands p
fair_line (p ∷ q ∷ rest) = stands p && (fair_segment p q && fair_line (q ∷ rest))

all_fair : T (every (λ nose. fair_line (corners nose)) noses)
unfolding points of_bits round sum neg add sub mul div
all_fair = tt

abbrev on_corner : StoneyNose → Point → Bool
on_corner nose p =
    let v = (value_and_slope nose p.mach).value in
    let f = broken_line nose p.mach in
    ltb 0 f.under && (counts v (units_of v) && eqb (units_of v * f.under) f.over)

abbrev on_corners : StoneyNose → List Point → Bool
on_corners nose [] = true
on_corners nose (p ∷ ps) = on_corner nose p && on_corners nose ps

all_on_corners : T (every (λ nose. on_corners nose (corners nose)) noses)
unfolding value_and_slope lookup walk before line broken_line points of_bits round sum neg add sub mul div lt eq le
all_on_corners = tt

-- docs/DISTANCE.md, One segment by hand: half way between two points of the von Kármán nose the line is 12768605663520831 / 2 ^ 57 high, and the lookup is 1 / 2 ^ 57 off
by_hand :
    let M = round binary64 false 145 100 in
    let f = broken_line VonKarman M in
    T (eqb (f.over * 2 ^ 57) (12768605663520831 * (f.under * two^_ 0)) && counts (value_and_slope VonKarman M).value (12768605663520832 * two^_ 57))
unfolding value_and_slope lookup walk before line broken_line points of_bits round sum neg add sub mul div lt eq le
by_hand = tt

-- ---- no distance at a corner

module _ (nose : StoneyNose) where
  at_corner : (p : Point) → T (on_corner nose p) → OffBy 0 (value_and_slope nose p.mach).value (broken_line nose p.mach)
  at_corner p t =
      let v = (value_and_slope nose p.mach).value in
      let f = broken_line nose p.mach in
      let u = and_r (ltb 0 f.under) (counts v (units_of v) && eqb (units_of v * f.under) f.over) t in
      let e = eqb→eq (units_of v * f.under) f.over (and_r (counts v (units_of v)) (eqb (units_of v * f.under) f.over) u) in
      let z = zero-mul f.under in
      record {
        some = ltb→lt 0 f.under (and_l (ltb 0 f.under) _ t);
        number = counts_is v (units_of v) (and_l (counts v (units_of v)) _ u);
        apart = record { up = omega arith; down = omega arith };
      }

  at_each : (ps : List Point) (k : ℕ) → T (on_corners nose ps) → k < length ps → let M = (get_or ps k no_point).mach in OffBy 0 (value_and_slope nose M).value (broken_line nose M)
  at_each [] k t h = absurd (not-suc-le-zero h)
  at_each (p ∷ ps) zero t h = at_corner p (and_l (on_corner nose p) (on_corners nose ps) t)
  at_each (p ∷ ps) (suc k) t h = at_each ps k (and_r (on_corner nose p) (on_corners nose ps) t) (le_of_suc-le-suc h)

-- ---- along the walk

first_stands : (p : Point) (ps : List Point) → T (fair_line (p ∷ ps)) → T (stands p)
first_stands p [] t = t
first_stands p (q ∷ ps) t = and_l (stands p) (fair_segment p q && fair_line (q ∷ ps)) t

first_mach_lem : (p : Point) (ps : List Point) → T (fair_line (p ∷ ps)) → Counts p.mach false (across p)
first_mach_lem p ps t = counts_is p.mach (across p) (and_l (counts p.mach (across p)) (counts p.drag (height p)) (first_stands p ps t))

first_drag : (p : Point) (ps : List Point) → T (fair_line (p ∷ ps)) → Counts p.drag false (height p)
first_drag p ps t = counts_is p.drag (height p) (and_r (counts p.mach (across p)) (counts p.drag (height p)) (first_stands p ps t))

on_level : (p : Point) → Counts p.drag false (height p) → OffBy bound p.drag (level p)
on_level p h = let e = units_are p.drag false (height p) h in record { some = lit< tt; number = rw e h; apart = rw e (near (height p) (bound * 1)) }
  where
    near : (u b : ℕ) → Apart b (u * 1) u
    near u b = let e = mul-one u in record { up = omega arith; down = omega arith }

module _ (M : Float) (m : ℕ) (hM : Counts M false m) where
  walked : (p : Point) (ps : List Point) → T (fair_line (p ∷ ps)) → across p ≤ m → OffBy bound (walk p ps M).value (onwards p ps m)
  unfolding walk
  walked p [] t from = on_level p (first_drag p [] t)
  walked p (q ∷ ps) t from = go (ltb m (across q)) refl (walked q ps rest)
    where
      both : T (fair_segment p q && fair_line (q ∷ ps))
      both = and_r (stands p) (fair_segment p q && fair_line (q ∷ ps)) t

      rest : T (fair_line (q ∷ ps))
      rest = and_r (fair_segment p q) (fair_line (q ∷ ps)) both

      tested : (M ≺ q.mach) ≡ ltb m (across q)
      tested = less_than M q.mach m (across q) hM (first_mach_lem q ps rest)

      go : (b : Bool) → ltb m (across q) ≡ b → (across q ≤ m → OffBy bound (walk q ps M).value (onwards q ps m)) → OffBy bound (walk p (q ∷ ps) M).value (onwards p (q ∷ ps) m)
      go true e again =
          rw (tested, e) (on_line p q M m hM (first_mach_lem p (q ∷ ps) t) (first_drag p (q ∷ ps) t) from (ltb-true m (across q) e) (and_l (fair_segment p q) (fair_line (q ∷ ps)) both))
      go false e again = rw (tested, e) (again (ltb-false m (across q) e))

-- ---- from Mach 0 up

-- the start, by computing
record Start : Type 0 where
  mach_is : 0·8 ≡ start.mach
  drag_is : 0·0 ≡ start.drag
  above : T (positive 0·8)
  some : 0 < across start
  number : Counts start.mach false (across start)
  held : OffBy bound start.drag (level start)

at_start : Start
unfolding round of_bits
at_start = record {
  mach_is = refl;
  drag_is = refl;
  above = tt;
  some = lit< tt;
  number = counts_is start.mach (across start) tt;
  held = on_level start (counts_is start.drag (height start) tt);
}

by_start : (M : Float) → Counts M false (units_of M) → ltb (units_of M) (across start) ≡ M ≺ 0·8
by_start M hM = sym (less_than M start.mach (units_of M) (across start) hM at_start.number) ∙ ap (λ (x : Float). M ≺ x) (sym at_start.mach_is)

below_zero : (m : ℕ) (e : ℤ) → (fin true (suc m) e ≺ 0·0) ≡ true
unfolding lt of_bits
below_zero m e = lt-ltb 0 (suc m * up e * 1 + 0 * 1 * down e) (let h = mul-pos (zero-lt-suc m) (up_pos e) in omega arith)

-- a Mach number below 0.8 is to the left of the start, -0 too
to_the_left : (M : Float) → T (fits binary64 M) → T (finite M) → T (0·0 ≼ M) → (M ≺ 0·8) ≡ true → units_of M < across start
to_the_left nan h f z l = absurd f
to_the_left (inf s) h f z l = absurd f
to_the_left (fin s zero e) h f z l = rw (no_units e) at_start.some
to_the_left (fin true (suc m) e) h f z l = absurd (true≢false (sym (below_zero m e) ∙ not_above 0·0 (fin true (suc m) e) z))
to_the_left (fin false (suc m) e) h f z l =
    let M = fin false (suc m) e in
    ltb-true (units_of M) (across start) (by_start M (held_counts false (suc m) e h) ∙ l)

module _ (nose : StoneyNose) (M : Float) (h : T (fits binary64 M)) (f : T (finite M)) (z : T (0·0 ≼ M)) where
  below : (M ≺ 0·8) ≡ true → OffBy bound (value_and_slope nose M).value (broken_line nose M)
  unfolding broken_line
  below l =
      rw (below_limit nose M (rw l tt), at_start.drag_is)
      (subst (λ (ps : List Point). OffBy bound start.drag (through ps (units_of M))) (sym (from_start nose))
      (rw (lt-ltb (units_of M) (across start) (to_the_left M h f z l)) at_start.held))

  from : (M ≺ 0·8) ≡ false → OffBy bound (value_and_slope nose M).value (broken_line nose M)
  unfolding broken_line
  from l =
      let above : T (0·8 ≼ M) = reaches 0·8 M at_start.above f l in
      let hM = positive_counts M (positive_from 0·8 M at_start.above f above) h in
      let e = by_start M hM ∙ l in
      let t = subst (λ (ps : List Point). T (fair_line ps)) (from_start nose) (holds_at (λ nose. fair_line (corners nose)) all_fair nose) in
      rw (by_corners nose M above)
      (subst (λ (ps : List Point). OffBy bound (walk start (drop 1 (corners nose)) M).value (through ps (units_of M))) (sym (from_start nose))
      (rw e (walked M (units_of M) hM start (drop 1 (corners nose)) t (ltb-false (units_of M) (across start) e))))

  within : (b : Bool) → (M ≺ 0·8) ≡ b → OffBy bound (value_and_slope nose M).value (broken_line nose M)
  within true l = below l
  within false l = from l

pub how_far : (nose : StoneyNose) → HowFar nose
how_far nose = record {
  within = λ M h f z. within nose M h f z (M ≺ 0·8) refl;
  at_corners = λ k. at_each nose (corners nose) k (holds_at (λ nose. on_corners nose (corners nose)) all_on_corners nose);
}
