-- The loop of `check_parts`: the parts before this one have passed.
use Rattle.std.specs.Prelude.{◌≡◌, Ok}
use Rattle.aero_error.specs.Checks.{up_to}
use Rattle.sheet_data.specs.Tests.{part_test}
use Rattle.sheet_data.specs.Contents.{part_at}
use Rattle.sheet_data.proofs.checks.check_parts.Given as goal

abbrev pub invariant-loop-part : goal.invariant-loop-part
invariant-loop-part l = up_to l.part-index (λ i. part_test (part_at l.part-items i)) ≡ Ok tt
