-- `replay::is_line` meets its contract: `fold` asks each of the eleven words.
use Rattle.std.proofs.Common.{◌≡◌, refl, rules, tests}
use Rattle.std.specs.List.{fold, range_with_len}
use Rattle.std.specs.Prelude.{true, ◌&&◌, is_some}
use Rattle.std.proofs.Math.Bool.{and_assoc, and-true}
use Rattle.std.proofs.lemmas.Iterator.{YieldsList-from_range}
use Rattle.std.proofs.lemmas.Iterator.Consumers.{fold_from_yields_List}
use Rattle.replay.specs.Words.{field_at, is_line}
use Rattle.replay.proofs.is_line.Goals as goal

pub returns : goal.returns
unfolding is_line
returns = λ c.
    let words : c.fold.result ≡ fold (λ read k. read && is_some (field_at c.args.line.now k)) true (range_with_len 0 11) =
    fold_from_yields_List _ (λ read k. read && is_some (field_at c.args.line.now k)) true _ c.fold.ensures.ran (YieldsList-from_range 0 11 11 refl refl) (λ a x b q k. search (rules, tests)) in
    simp (words, c.byte_at.ensures, and_assoc, and-true)
