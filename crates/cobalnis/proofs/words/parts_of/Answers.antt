-- `words::parts_of` meets its contract: the parts that the chunks of eight words stand for are those of the words.
use Rattle.std.specs.Prelude.{[], get_or}
use Rattle.std.proofs.Common.{sym, ◌∙◌, rules, tests}
use Rattle.sheet_data.specs.Layout.{most_parts}
use Rattle.sheet_data.specs.Contents.{no_part}
use Rattle.cobalnis.specs.Words.{part_chunks, part_of}
use Rattle.cobalnis.proofs.Turns.{every_chunks, made_tab}
use Rattle.cobalnis.proofs.words.parts_of.Goals as goal

pub returns : goal.returns
returns c =
    let ws = c.args.words.now in
    made_tab _ (λ k. part_of (get_or (part_chunks ws) k [])) _ c.from_fn.result most_parts no_part c.from_fn.ensures.items (λ k y q h w. search (rules, tests))
    ∙ sym (every_chunks ws)
