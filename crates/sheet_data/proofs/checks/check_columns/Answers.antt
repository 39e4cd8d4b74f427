-- `check_columns` meets its contract: the first refusal is handed on.
use Rattle.std.specs.Prelude.{◌≡◌, ◌<◌, length, get_or, take}
use Rattle.std.specs.Float.{nan}
use Rattle.std.proofs.Common.{rules, ◌∙◌, arith, length-append}
use Rattle.std.proofs.lemmas.Slice.Zip.{zip_turn}
use Rattle.std.proofs.lemmas.List.{get_or-take, length-take}
use Rattle.drag.specs.Friction.{flow_checked}
use Rattle.sheet_data.specs.Contents.{mach_at, reynolds_at}
use Rattle.aero_error.proofs.HandedOn.{stopped, one_more}
use Rattle.sheet_data.specs.Tests.{columns_test}
use Rattle.sheet_data.proofs.checks.check_columns.Goals as goal
use Rattle.sheet_data.proofs.checks.check_columns.Goals.{After-check_flow}

turn : (c : After-check_flow) → let s = c.args.settings in let k = length c.loop-mach.yielded in
    (k < s.count) × (c.in-Some.mach.now ≡ get_or s.machs k nan) × (c.in-Some.reynolds.now ≡ get_or s.reynolds k nan)
turn c =
    let s = c.args.settings in
    let z = zip_turn (take s.count s.machs) (take s.count s.reynolds) c.loop-mach.yielded c.into_iter-mach-iterator.result c.loop-mach.mach-iterator c.next.new.self c.next.result (search rules) (search rules) c.loop-mach.yielded_by _ c.in-Some.is c.next.ensures.steps in
    let within : length c.loop-mach.yielded < s.count = omega (arith, length-take s.count s.machs, z.0) in
    (within, z.2 nan ∙ get_or-take s.count s.machs _ nan within, z.3 nan ∙ get_or-take s.count s.reynolds _ nan within)

-- the column that is asked is the next one
asked : (c : After-check_flow) → c.check_flow.result ≡ flow_checked (mach_at c.args.settings (length c.loop-mach.yielded)) (reynolds_at c.args.settings (length c.loop-mach.yielded))
asked c = let t = turn c in c.check_flow.ensures ∙ rw (t.1, t.2)

pub returns-in_err-check_flow : goal.returns-in_err-check_flow
unfolding columns_test
returns-in_err-check_flow c =
    let k = goal.at.returns-in_err-check_flow c in
    stopped _ _ c.loop-mach.invariant (asked k.After-check_flow) c.in_err-check_flow.was (turn k.After-check_flow).0 c.from_residual.ensures

pub loop-mach-preserved : goal.loop-mach-preserved
loop-mach-preserved c = rw (length-append _ _) (one_more _ c.loop-mach.invariant (asked (goal.at.loop-mach-preserved c).After-check_flow) c.in_ok-check_flow.was)
