-- The walk as told and the single lookup agree. A walk that goes on from an earlier query's end comes to the same end as one from the first point, since the points
-- passed are at or below every later query (`goes_on`); and at its end stands the segment that the single lookup takes (`looked_up`).
use Rattle.std.specs.Prelude.{Ok, Option, Some, None}
use mathlib.Core.Path.{◌≡◌, refl, sym, ap, subst}
use mathlib.Core.Bool.{Bool, true, false}
use mathlib.Core.List.{List, [], ◌∷◌, map}
use Prim.Native.Nat.{ℕ, suc, ◌-◌, ◌<◌}
use native.Mathlib.Omega.{arith}
use lib.Dec.{T}
use lib.ListN.{length, get_or}
use lib.Ieee.{Float, nan}
use lib.Ieee.Bits.{is_true}
use lib.Ieee.Positive.{positive}
use lib.Ieee.Scale.{finite}
use Rattle.elementary.specs.Arithmetic.{◌≺◌}
use Rattle.elementary.specs.Order.{not_above, le_through}
use Rattle.elementary.proofs.Ranges.{reaches, positive_from}
use Rattle.aero_error.specs.Checks.{unless}
use Rattle.aero_error.specs.CheckLaws.{both_passed, up_each, unless_passed}
use Rattle.aero_error.specs.declared.Rule.TheVariants.{FallingMach}
use Rattle.drag.specs.Friction.{mach_checked, machs_test}
use Rattle.drag.specs.Answered.{mach_passed}
use Rattle.stoney.specs.declared.StoneyNose.{StoneyNose}
use Rattle.stoney.specs.Points.{Point, points, rises, positive_at, tail_rises}
use Rattle.stoney.proofs.Rises.{nose_rises}
use Rattle.stoney.specs.Lookup.{is_short_of, walk, lookup, value_and_slope}
use Rattle.walk.specs.Tests.{room_test, given_test, rising_test, flight_test}
use Rattle.walk.specs.Walk.{Stand, reached, leg, went, read_at, walk_from, walk_of, start}
use Rattle.walk.specs.Answers.{values_of}

-- ---- a rising table

pub first_positive : (p : Point) (ps : List Point) → T (rises (p ∷ ps)) → T (positive p.mach)
first_positive p ps t = positive_at (p ∷ ps) 0 t (omega arith)

pub rest_rises : (p : Point) (ps : List Point) → T (rises (p ∷ ps)) → T (rises ps)
rest_rises p [] t = tt
rest_rises p (q ∷ rest) t = tail_rises p q rest t

-- ---- the segment that the single lookup takes

module _ (M : Float) (good : T (finite M)) where
  -- a point that is not at or below M is above it
  higher : (p : Point) → T (positive p.mach) → reached p M ≡ false → is_short_of M p ≡ true
  higher p t e = go (is_short_of M p) refl
    where
      go : (b : Bool) → is_short_of M p ≡ b → is_short_of M p ≡ true
      go true f = f
      go false f = absurd (subst T e (reaches p.mach M t good f))

  passes : (p : Point) → reached p M ≡ true → is_short_of M p ≡ false
  passes p e = not_above p.mach M (subst T (sym e) tt)

  on_from : (p : Point) (ps : List Point) → T (rises ps) → walk p ps M ≡ read_at (leg (Some p) ps M).ends M
  unfolding walk leg
  on_from p [] t = refl
  on_from p (q ∷ rest) t = go (reached q M) refl (on_from q rest (rest_rises q rest t))
    where
      go : (b : Bool) → reached q M ≡ b → walk q rest M ≡ read_at (leg (Some q) rest M).ends M → walk p (q ∷ rest) M ≡ read_at (leg (Some p) (q ∷ rest) M).ends M
      go true e h = rw (e, passes q e) h
      go false e h = rw (e, higher q (first_positive q rest t) e)

  looked_up : (ps : List Point) → T (rises ps) → lookup ps M ≡ read_at (leg None ps M).ends M
  unfolding lookup leg
  looked_up [] t = refl
  looked_up (p ∷ ps) t = go (reached p M) refl
    where
      go : (b : Bool) → reached p M ≡ b → lookup (p ∷ ps) M ≡ read_at (leg None (p ∷ ps) M).ends M
      go true e = rw (e, passes p e) (on_from p ps (rest_rises p ps t))
      go false e = rw (e, higher p (first_positive p ps t) e)

-- ---- from where an earlier query ended

-- what is at or below M is at or below a later query N
still_below : (p : Point) (M N : Float) → T (positive p.mach) → T (finite M) → T (finite N) → (N ≺ M) ≡ false → T (reached p M) → T (reached p N)
still_below p M N t f g later h = let m : T (positive M) = positive_from p.mach M t f h in le_through p.mach M N t m h (reaches M N m g later)

module _ (M N : Float) (f : T (finite M)) (g : T (finite N)) (later : (N ≺ M) ≡ false) where
  goes_on : (passed : Option Point) (ps : List Point) → T (rises ps) → (went (leg passed ps M).ends N).ends ≡ (leg passed ps N).ends
  unfolding leg
  goes_on passed [] t = refl
  goes_on passed (p ∷ ps) t = go (reached p M) refl (goes_on (Some p) ps (rest_rises p ps t))
    where
      go : (b : Bool) → reached p M ≡ b → (went (leg (Some p) ps M).ends N).ends ≡ (leg (Some p) ps N).ends → (went (leg passed (p ∷ ps) M).ends N).ends ≡ (leg passed (p ∷ ps) N).ends
      go true e h = rw (e, is_true (reached p N) (still_below p M N (first_positive p ps t) f g later (subst T (sym e) tt))) h
      go false e h = rw e

-- ---- all queries

-- what accepted queries have: finite numbers, none below its forerunner
pub record Rising (Ms : List Float) : Type 0 where
  pub good : (k : ℕ) → k < length Ms → T (finite (get_or Ms k nan))
  pub later : (k : ℕ) → suc k < length Ms → (get_or Ms (suc k) nan ≺ get_or Ms k nan) ≡ false

pub rest_rising : (M : Float) (Ms : List Float) → Rising (M ∷ Ms) → Rising Ms
rest_rising M Ms r = record { good = λ k h. r.good (suc k) (omega arith); later = λ k h. r.later (suc k) (omega arith) }

pub accepted_rise : (Ms : List Float) (cells : ℕ) → flight_test Ms cells ≡ Ok tt → Rising Ms
unfolding machs_test rising_test
accepted_rise Ms cells h =
    let b = both_passed (given_test Ms cells) (rising_test Ms) h in
    let machs = (both_passed (room_test Ms cells) (machs_test Ms) b.first).second in
    record {
      good = λ k l. (mach_passed (get_or Ms k nan) (up_each (λ k. mach_checked (get_or Ms k nan)) (length Ms) machs k l)).is_finite;
      later = λ k l. unless_passed (get_or Ms (suc k) nan ≺ get_or Ms k nan) FallingMach (up_each (λ k. unless (get_or Ms (suc k) nan ≺ get_or Ms k nan) FallingMach) (length Ms - 1) b.second k (omega arith));
    }

-- the list's first query, if any, ends where the single lookup would
abbrev pub Caught : List Point → Stand → List Float → Type 0
Caught ps stand [] = Unit {0}
Caught ps stand (M ∷ Ms) = (went stand M).ends ≡ (leg None ps M).ends

pub at_start : (ps : List Point) (Ms : List Float) → Caught ps (record { passed = None; ahead = ps }) Ms
at_start ps [] = tt
at_start ps (M ∷ Ms) = refl

pub caught : (ps : List Point) → T (rises ps) → (M : Float) (Ms : List Float) → Rising (M ∷ Ms) → Caught ps (leg None ps M).ends Ms
caught ps t M [] r = tt
caught ps t M (N ∷ Ms) r = goes_on M N (r.good 0 (omega arith)) (r.good 1 (omega arith)) (r.later 0 (omega arith)) None ps t

module _ (ps : List Point) (t : T (rises ps)) where
  all_agree : (stand : Stand) (Ms : List Float) → Caught ps stand Ms → Rising Ms → (walk_from stand Ms).values ≡ map (λ M. (lookup ps M).value) Ms
  unfolding walk_from
  all_agree stand [] c r = refl
  all_agree stand (M ∷ Ms) c r =
      rw (c, looked_up M (r.good 0 (omega arith)) ps t)
      (ap (λ (vs : List Float). (read_at (leg None ps M).ends M).value ∷ vs) (all_agree (leg None ps M).ends Ms (caught ps t M Ms r) (rest_rising M Ms r)))

-- Accepted queries: the walk's values are the single lookup's.
pub agree : (nose : StoneyNose) (Ms : List Float) (cells : ℕ) → flight_test Ms cells ≡ Ok tt → (walk_of nose Ms).values ≡ values_of nose Ms
unfolding walk_of value_and_slope
agree nose Ms cells h = all_agree (points nose) (nose_rises nose) (start nose) Ms (at_start (points nose) Ms) (accepted_rise Ms cells h)
