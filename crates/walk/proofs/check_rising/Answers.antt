-- `check_rising` meets its contract: neighbours in order pass every test of the definition, and of two that aren't the refusal is every test's.
use Rattle.std.specs.Prelude.{◌≡◌, Bool, zero, true, false, not, List, ℕ, suc, ◌+◌, ◌-◌, ◌<◌, length, get_or, Float, Ok, Err}
use Rattle.std.specs.List.{IsAllAdjacentAnswer}
use Rattle.std.specs.Float.{nan}
use native.Mathlib.Numerals.{add-one}
use Rattle.std.proofs.Common.{rules, refl, sym, ◌∙◌, arith}
use Rattle.std.proofs.lemmas.List.Sorted.{answers_always}
use mathlib.Core.Logic.{◌⊎◌, inl, inr, ⊎_elim}
use mathlib.Core.Bool.{false≢true}
use Rattle.std.proofs.lemmas.Bool.{not-false, not-true}
use Rattle.elementary.specs.Arithmetic.{◌≺◌}
use Rattle.aero_error.specs.declared.AeroError.TheVariants.{Broken}
use Rattle.aero_error.specs.declared.Rule.TheVariants.{FallingMach}
use Rattle.aero_error.specs.Checks.{Check, unless, up_to, ◌then◌}
use Rattle.aero_error.specs.CheckLaws.{up_all, up_each, unless_passed}
use Rattle.walk.specs.Tests.{rising_test}
use Rattle.walk.proofs.check_rising.Goals as goal

module _ (Ms : List Float) where
  abbrev falls : ℕ → Bool
  falls k = get_or Ms (suc k) nan ≺ get_or Ms k nan

  abbrev test : ℕ → Check
  test k = unless (falls k) FallingMach

  -- the only refusal is that of a fall
  either : (n : ℕ) → (up_to n test ≡ Ok tt) ⊎ (up_to n test ≡ Err (Broken FallingMach))
  unfolding up_to
  either zero = inl refl
  either (suc n) = ⊎_elim (λ p. by_test (falls n) p) (λ q. inr (rw q)) (either n)
    where
      by_test : (b : Bool) → up_to n test ≡ Ok tt → ((up_to n test then unless b FallingMach) ≡ Ok tt) ⊎ ((up_to n test then unless b FallingMach) ≡ Err (Broken FallingMach))
      by_test true p = inr (rw p)
      by_test false p = inl (rw p)

  same : (r : Bool) → IsAllAdjacentAnswer (λ x y b. b ≡ not (y ≺ x)) Ms r → unless (not r) FallingMach ≡ rising_test Ms
  unfolding rising_test
  same true all = sym (up_all test (length Ms - 1) (λ k h. let later : k + 1 < length Ms = omega arith in rw (not-true (falls k) (rw (← add-one k) (sym (all k nan later))))))
  same false one =
      let k = one.0 in
      ⊎_elim (λ p. absurd (false≢true (sym (unless_passed (falls k) FallingMach (up_each test _ p k (omega (arith, one.1)))) ∙ not-false (falls k) (rw (← add-one k) (sym (one.2 nan)))))) (λ q. sym q) (either (length Ms - 1))

pub returns : goal.returns
returns c = c.unless.ensures ∙ same c.args.machs.now c.is_sorted_by-rises.result (c.is_sorted_by-rises.ensures.cases (λ x y. not (y ≺ x)) (answers_always _ _ _ (λ f a r g h. search rules)))
