-- `values` meets its contract: a failed test is the answer, and what is written once all have passed is the walk's, whose values are the single lookup's.
use Rattle.std.specs.Prelude.{Ok, Err}
use Rattle.aero_error.specs.Checks.{unless}
use Rattle.walk.specs.Answers.{Walked}
use mathlib.Core.Path.{◌≡◌, ap, ◌∙◌}
use mathlib.Core.List.{List, ◌++◌}
use Prim.Native.Nat.{ℕ, ◌+◌, ◌≤◌}
use native.Mathlib.Omega.{arith}
use lib.Dec.{ltb}
use borrow.Author.Tests.{ltb-false}
use lib.ListN.{length, drop, length-map}
use lib.Seq.{sets, sets-eq}
use lib.Ieee.{Float}
use Rattle.aero_error.specs.declared.AeroError.{AeroError}
use Rattle.aero_error.specs.declared.Rule.TheVariants.{TooFewCells}
use Rattle.aero_error.specs.CheckLaws.{both_passed, unless_passed}
use Rattle.drag.specs.Friction.{machs_test}
use Rattle.stoney.specs.declared.StoneyNose.{StoneyNose}
use Rattle.walk.specs.Tests.{most_queries, room_test, given_test, rising_test, flight_test}
use Rattle.stoney.specs.Points.{Point, points}
use Rattle.walk.specs.Walk.{walk_from, walk_of}
use Rattle.walk.specs.Walker.{at_first, WalkMade}
use Rattle.walk.specs.Answers.{values_of, Answered}
use Rattle.walk.proofs.SingleLookup.{agree}
use Rattle.walk.proofs.values.Goals as goal

room : (Ms : List Float) (cells : ℕ) → flight_test Ms cells ≡ Ok tt → length Ms ≤ cells
room Ms cells h =
    let few = unless (ltb most_queries (length Ms)) TooFewCells in
    let lent = unless (ltb cells (length Ms)) TooFewCells in
    ltb-false cells (length Ms)
    (unless_passed _ TooFewCells (both_passed few lent (both_passed (room_test Ms cells) (machs_test Ms) (both_passed (given_test Ms cells) (rising_test Ms) h).first).first).second)

-- put into the first cells, with the others after them
front : (vs : List Float) (n : ℕ) (xs : List Float) → length vs ≡ n → n ≤ length xs → sets xs 0 vs ≡ vs ++ drop n xs
front vs n xs e h = let k : 0 + length vs ≡ n = omega arith in sets-eq vs xs 0 (omega arith) ∙ ap (λ (m : ℕ). vs ++ drop m xs) k

module _ (nose : StoneyNose) (Ms xs : List Float) where
  refused : (r : Walked) (e : AeroError) → flight_test Ms (length xs) ≡ Err e → r ≡ Err e → Answered nose Ms xs r xs
  refused r e failed answer = record { answer = rw failed answer; cells = rw failed }

  accepted : (ps : List Point) (n : ℕ) (ys : List Float) → flight_test Ms (length xs) ≡ Ok tt → ps ≡ points nose → WalkMade (walk_from (at_first ps) Ms) xs n ys → Answered nose Ms xs (Ok n) ys
  unfolding walk_of
  accepted ps n ys passed its made =
      let own : WalkMade (walk_of nose Ms) xs n ys = rw its at made in
      record {
        answer = rw passed (ap Ok own.0);
        cells = rw passed (own.1 ∙ ap (sets xs 0) (agree nose Ms (length xs) passed) ∙ front (values_of nose Ms) (length Ms) xs (length-map Ms _) (room Ms (length xs) passed));
      }

-- Whichever test comes first, all have passed here: the order is told by the refusals alone.
pub returns : goal.returns
returns c =
    let a = c.args in
    let passed : flight_test a.machs.now (length a.answers.now) ≡ Ok tt = rw (← c.check_given.ensures, c.in_ok-check_given.was, ← c.check_rising.ensures, c.in_ok-check_rising.was) in
    accepted a.nose a.machs.now a.answers.now _ _ _ passed c.table.ensures.points c.walk_along.ensures
