-- The loop of `pairs_at`: after i turns the first i slots of both arrays hold their numbers.
use mathlib.Core.Path.{◌≡◌}
use Prim.Native.Nat.{◌+◌}
use Rattle.sheet_data.specs.Layout.{most_columns}
use Rattle.cards.specs.Fields.{number_bytes, pair_bytes, numbers_at}
use Rattle.cards.specs.Cards.{slots}
use Rattle.cards.proofs.fields.pairs_at.Given as goal

abbrev pub invariant-loop-i : goal.invariant-loop-i
invariant-loop-i l = (l.machs ≡ slots most_columns l.i (numbers_at pair_bytes l.i l.s l.at)) × (l.reynolds ≡ slots most_columns l.i (numbers_at pair_bytes l.i l.s (l.at + number_bytes)))
