-- `check_parts` meets its contract: the first refusal is handed on.
use Rattle.aero_error.proofs.HandedOn.{stopped}
use Rattle.sheet_data.specs.Tests.{parts_test}
use Rattle.sheet_data.proofs.checks.check_parts.Goals as goal

pub returns-in_err-check_part : goal.returns-in_err-check_part
unfolding parts_test
returns-in_err-check_part c = stopped _ _ c.loop-part.invariant c.check_part.ensures c.in_err-check_part.was c.loop-part-test.true c.from_residual.ensures
