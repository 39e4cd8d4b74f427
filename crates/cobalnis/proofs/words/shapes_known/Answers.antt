-- `words::shapes_known` meets its contract.
use Rattle.std.specs.Prelude.{get_or, leb}
use Rattle.std.proofs.Common.{sym, ◌∙◌, rules, tests}
use Rattle.std.proofs.lemmas.Iterator.{YieldsList-from_slice}
use Rattle.std.proofs.lemmas.Iterator.Search.{all_from_yields_List}
use Rattle.cobalnis.specs.Words.{part_chunks}
use Rattle.cobalnis.proofs.Turns.{known_chunks}
use Rattle.cobalnis.proofs.words.shapes_known.Goals as goal

pub returns : goal.returns
returns c =
    let ws = c.args.words.now in
    all_from_yields_List (λ part. leb (get_or part 0 0) 5) _ _ _ c.all.ensures.ran (YieldsList-from_slice (part_chunks ws) (cc)) (λ x b q k. search (rules, tests)) ∙ sym (known_chunks ws)
