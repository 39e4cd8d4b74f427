-- `cobalnis_check_dimension` meets its contract: a code of a quantity is one of 1 to 22, and its test is that quantity's.
use Rattle.std.specs.Prelude.{◌≡◌, true}
use Rattle.std.proofs.Common.{sym, ap, ◌∙◌}
use Rattle.aero_error.specs.Checks.{dimension}
use Rattle.aero_error.specs.Refusals.{code_of_quantity}
use Rattle.cobalnis.specs.Answers.{answer_status, answer_bits, is_code, tested}
use Rattle.cobalnis.proofs.Tables.{code_known, required_status, required_bits}
use Rattle.cobalnis.proofs.formulas.cobalnis_check_dimension.Goals as goal

pub returns : goal.returns
returns c =
    let ok = dimension c.args.value c.args.allow_zero in
    let q = c.in-Ok.quantity in
    let code : code_of_quantity q ≡ c.args.what = c.in-Ok.ensures in
    let known : is_code c.args.what ≡ true = ap is_code (sym code) ∙ code_known q in
    let t = c.tested.ensures ∙ ap tested c.check_dimension.ensures in (
      rw known (c.hand_out.ensures.0 ∙ ap answer_status t ∙ required_status ok q c.args.value c.args.what code),
      rw known (c.hand_out.ensures.1 ∙ ap answer_bits t ∙ required_bits ok q c.args.value),
    )
