-- The loop of `check_columns`: the columns so far have passed.
use Rattle.std.specs.Prelude.{◌≡◌, length, Ok}
use Rattle.aero_error.specs.Checks.{up_to}
use Rattle.drag.specs.Friction.{flow_checked}
use Rattle.sheet_data.specs.Contents.{mach_at, reynolds_at}
use Rattle.sheet_data.proofs.checks.check_columns.Given as goal

abbrev pub invariant-loop-mach : goal.invariant-loop-mach
invariant-loop-mach l = up_to (length l.yielded) (λ k. flow_checked (mach_at l.fn.settings k) (reynolds_at l.fn.settings k)) ≡ Ok tt
