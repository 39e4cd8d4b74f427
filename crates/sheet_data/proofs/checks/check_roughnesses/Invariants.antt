-- The loop of `check_roughnesses`: the roughnesses before this one have passed.
use Rattle.std.specs.Prelude.{◌≡◌, Ok}
use Rattle.aero_error.specs.Checks.{up_to}
use Rattle.elementary.specs.Constants.{0·0, 1·0}
use Rattle.sheet_data.specs.Contents.{roughness_at}
use Rattle.sheet_data.specs.Tests.{in_interval}
use Rattle.sheet_data.proofs.checks.check_roughnesses.Given as goal

abbrev pub invariant-loop-roughness : goal.invariant-loop-roughness
invariant-loop-roughness l = up_to l.roughness-index (λ j. in_interval 0·0 (roughness_at l.fn.settings j) 1·0) ≡ Ok tt
