-- From Mach 0.8 on the lookup is one walk through the corners of the broken line (`by_corners`): the run of the two tables that start at Mach 1.2 is its first segment.
use mathlib.Core.Path.{◌≡◌, refl, sym, ap, ◌∙◌}
use mathlib.Core.Bool.{Bool, true, false, ◌&&◌, cond}
use mathlib.Core.List.{List, [], ◌∷◌}
use Prim.Native.Nat.{◌<◌}
use native.Mathlib.Nat.{not-suc-le-zero}
use native.Mathlib.Omega.{arith}
use lib.Dec.{T}
use lib.ListN.{length, get_or, drop}
use lib.Ieee.{Float, of_bits, to_bits, fits, round}
use lib.Ieee.Fits.{and_l, and_r}
use Rattle.elementary.specs.Arithmetic.{◌≺◌, ◌≼◌}
use Rattle.elementary.specs.Constants.{0·8}
use Rattle.elementary.specs.Equal.{same, same_is}
use Rattle.elementary.specs.Order.{not_above}
use Rattle.stoney.specs.declared.StoneyNose.{StoneyNose}
use Rattle.stoney.specs.Tables.{noses}
use Rattle.stoney.specs.Points.{Point, points, no_point, first_mach, from_1·2, range_within, every, holds_at}
use Rattle.stoney.specs.Lookup.{line, is_short_of, walk, lookup, value_and_slope}
use Rattle.stoney.specs.Segments.{point_of, count_is, 1·2, at_limit, starts}
use Rattle.stoney.specs.BrokenLine.{start, corners}
use Rattle.stoney.proofs.RunDown.{run_down}

start_is : start ≡ at_limit
unfolding round of_bits
start_is = refl

some : (nose : StoneyNose) → 0 < length (points nose)
some nose = omega (arith, count_is nose, (range_within nose).0)

-- ---- every line begins at drag 0 and Mach 0.8

abbrev begins : List Point → Bool
begins [] = false
begins (p ∷ ps) = same p.mach start.mach && same p.drag start.drag

all_begin : T (every (λ nose. begins (corners nose)) noses)
unfolding points round of_bits to_bits fits
all_begin = tt

begun : (ps : List Point) → T (begins ps) → ps ≡ start ∷ drop 1 ps
begun [] t = absurd t
begun (p ∷ ps) t =
    let m : p.mach ≡ start.mach = same_is p.mach start.mach (and_l (same p.mach start.mach) _ t) in
    let c : p.drag ≡ start.drag = same_is p.drag start.drag (and_r (same p.mach start.mach) _ t) in
    λ i. record { mach = m i; drag = c i } ∷ ps

pub from_start : (nose : StoneyNose) → corners nose ≡ start ∷ drop 1 (corners nose)
from_start nose = begun (corners nose) (holds_at (λ nose. begins (corners nose)) all_begin nose)

-- ---- the walk

late : (ps : List Point) (M : Float) → 0 < length ps → ((M ≺ (get_or ps 0 no_point).mach) ≡ true → lookup ps M ≡ line start (get_or ps 0 no_point) M) → lookup ps M ≡ walk start ps M
unfolding lookup walk
late [] M h run = absurd (not-suc-le-zero h)
late (p ∷ ps) M h run = go (is_short_of M p) refl
  where
    go : (b : Bool) → is_short_of M p ≡ b → lookup (p ∷ ps) M ≡ walk start (p ∷ ps) M
    go true e = run e ∙ rw e
    go false e = rw e

early : (ps : List Point) (M : Float) → 0 < length ps → get_or ps 0 no_point ≡ at_limit → T (0·8 ≼ M) → lookup ps M ≡ walk start (drop 1 ps) M
unfolding lookup
early [] M h e l = absurd (not-suc-le-zero h)
early (p ∷ ps) M h e l = rw (e, not_above 0·8 M l, start_is)

pub by_corners : (nose : StoneyNose) (M : Float) → T (0·8 ≼ M) → value_and_slope nose M ≡ walk start (drop 1 (corners nose)) M
unfolding value_and_slope
by_corners nose M l = go (from_1·2 nose) refl (starts nose)
  where
    go : (b : Bool) → from_1·2 nose ≡ b → cond b (first_mach nose ≡ 1·2) (point_of nose 0 ≡ at_limit) → lookup (points nose) M ≡ walk start (drop 1 (cond b (start ∷ points nose) (points nose))) M
    go true w e = late (points nose) M (some nose) (λ u. run_down nose M (rw w tt) l (rw u tt) ∙ ap (λ (p : Point). line p (point_of nose 0) M) (sym start_is))
    go false w e = early (points nose) M (some nose) e l
