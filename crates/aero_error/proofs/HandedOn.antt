-- A `?` hands a refusal on unchanged, alone and in a loop of tests.
use Rattle.std.specs.Prelude.{◌≡◌, ℕ, ◌+◌, ◌<◌, Result, Ok, Err, IsErr, IsErrAnd}
use Rattle.std.proofs.Common.{ap, sym, ◌∙◌}
use Rattle.std.proofs.lemmas.Result.{err_from_is_err_and}
use Rattle.aero_error.specs.declared.AeroError.{AeroError}
use Rattle.aero_error.specs.Checks.{Check, up_to}
use Rattle.aero_error.specs.CheckLaws.{up_more, up_failed}

pub handed_on : {A E : Type 0} (answer : Result A E) (refusal : E) → IsErr answer × IsErrAnd answer (λ e. e ≡ refusal) → answer ≡ Err refusal
handed_on answer refusal h = let p = err_from_is_err_and answer h.1 in p.1 ∙ ap Err p.2

-- a loop that asks tests 0, 1, .. one after another and hands the first refusal on
module _ (test : ℕ → Check) where
  pub stopped : {i n : ℕ} {asked : Check} {refusal : AeroError} (answer : Check) → up_to i test ≡ Ok tt → asked ≡ test i → asked ≡ Err refusal → i < n
      → IsErr answer × IsErrAnd answer (λ e. e ≡ refusal) → answer ≡ up_to n test
  stopped {i} {n} {refusal = refusal} answer before same failed l h = handed_on answer refusal h ∙ sym (up_failed test i n refusal before (sym same ∙ failed) l)

  pub one_more : {i : ℕ} {asked : Check} → up_to i test ≡ Ok tt → asked ≡ test i → asked ≡ Ok tt → up_to (i + 1) test ≡ Ok tt
  one_more before same passed = up_more test before (sym same ∙ passed)
