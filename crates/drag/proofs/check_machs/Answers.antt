-- `check_machs` meets its contract: the first refusal is handed on.
use Rattle.aero_error.proofs.HandedOn.{stopped}
use Rattle.drag.specs.Friction.{machs_test}
use Rattle.drag.proofs.check_machs.Goals as goal

pub returns-in_err-check_mach_any : goal.returns-in_err-check_mach_any
unfolding machs_test
returns-in_err-check_mach_any c = stopped _ _ c.loop-mach.invariant c.check_mach_any.ensures c.in_err-check_mach_any.was c.loop-mach-test.true c.from_residual.ensures
