-- The loop of `roughnesses_at`: after i turns the first i slots hold their numbers.
use mathlib.Core.Path.{◌≡◌}
use Rattle.sheet_data.specs.Layout.{most_finishes}
use Rattle.cards.specs.Fields.{number_bytes, numbers_at}
use Rattle.cards.specs.Cards.{slots}
use Rattle.cards.proofs.fields.roughnesses_at.Given as goal

abbrev pub invariant-loop-i : goal.invariant-loop-i
invariant-loop-i l = l.roughnesses ≡ slots most_finishes l.i (numbers_at number_bytes l.i l.s l.at)
