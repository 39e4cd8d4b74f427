-- `check_roughnesses` meets its contract: the first refusal is handed on.
use Rattle.std.specs.Prelude.{◌≡◌, ◌<◌}
use Rattle.std.specs.Float.{nan}
use Rattle.std.proofs.Common.{ap, ◌∙◌, arith}
use Rattle.std.proofs.lemmas.List.{get_or-take, length-take}
use Rattle.elementary.specs.Constants.{0·0, 1·0}
use Rattle.aero_error.proofs.HandedOn.{stopped, one_more}
use Rattle.sheet_data.specs.Contents.{roughness_at}
use Rattle.sheet_data.specs.Tests.{in_interval, roughnesses_test}
use Rattle.sheet_data.proofs.checks.check_roughnesses.Goals as goal
use Rattle.sheet_data.proofs.checks.check_roughnesses.Goals.{After-in_interval}

within : (c : After-in_interval) → c.loop-roughness.roughness-index < c.args.settings.finishes
within c = omega (arith, c.loop-roughness-test.true, length-take c.args.settings.finishes c.args.settings.roughnesses)

-- the roughness that is tested is the next finish's
asked : (c : After-in_interval) → c.in_interval.result ≡ in_interval 0·0 (roughness_at c.args.settings c.loop-roughness.roughness-index) 1·0
asked c = c.in_interval.ensures ∙ ap (λ x. in_interval 0·0 x 1·0) (get_or-take c.args.settings.finishes c.args.settings.roughnesses c.loop-roughness.roughness-index nan (within c))

pub returns-in_err-in_interval : goal.returns-in_err-in_interval
unfolding roughnesses_test
returns-in_err-in_interval c =
    let k = goal.at.returns-in_err-in_interval c in
    stopped _ _ c.loop-roughness.invariant (asked k.After-in_interval) c.in_err-in_interval.was (within k.After-in_interval) c.from_residual.ensures

pub loop-roughness-preserved : goal.loop-roughness-preserved
loop-roughness-preserved c = one_more _ c.loop-roughness.invariant (asked (goal.at.loop-roughness-preserved c).After-in_interval) c.in_ok-in_interval.was
