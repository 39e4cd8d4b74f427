-- The loop of `check_machs`: the Machs passed so far.
use Rattle.std.specs.Prelude.{◌≡◌, get_or, Ok}
use Rattle.std.specs.Float.{nan}
use Rattle.aero_error.specs.Checks.{up_to}
use Rattle.drag.specs.Friction.{mach_checked}
use Rattle.drag.proofs.check_machs.Given as goal

abbrev pub invariant-loop-mach : goal.invariant-loop-mach
invariant-loop-mach l = up_to l.mach-index (λ k. mach_checked (get_or l.machs k nan)) ≡ Ok tt
