-- `words::floats_at` meets its contract.
use Rattle.std.specs.Prelude.{◌+◌, get_or}
use Rattle.std.specs.Float.{nan}
use Rattle.std.proofs.Common.{sym, ◌∙◌, rules, tests}
use Rattle.elementary.specs.Arithmetic.{bits}
use Rattle.cobalnis.proofs.Turns.{every_float, made_tab}
use Rattle.cobalnis.proofs.words.floats_at.Goals as goal

pub returns : goal.returns
returns g c =
    made_tab _ (λ k. bits (get_or c.args.words.now (c.args.at + k) 0)) _ c.from_fn.result g.row.N nan c.from_fn.ensures.items (λ k y q h w. search (rules, tests))
    ∙ sym (every_float g.row.N c.args.words.now c.args.at)
