-- What is printed for no bytes, and that for every other stream it is what was printed when a settings card was asked of each.
use mathlib.Core.Path.{◌≡◌, ap}
use mathlib.Core.List.{List, [], ◌∷◌}
use Prim.Native.Nat.{ℕ, ◌<◌}
use lib.ListN.{length}
use Rattle.cards.specs.Cards.{settings_at}
use Rattle.card_run.specs.Run.{card_of, stream_from}
use Rattle.card_run.proofs.NoCard.{no_bytes, other_streams}
use Rattle.sheet_text.specs.Text.{nothing_lent, ran_text, sheet_text, answer_text}

-- mach, friction, base and total, a line feed after each and no space
abbrev pub names_alone : List ℕ
names_alone =
    109 ∷ 97 ∷ 99 ∷ 104 ∷ 10
    ∷ 102 ∷ 114 ∷ 105 ∷ 99 ∷ 116 ∷ 105 ∷ 111 ∷ 110 ∷ 10
    ∷ 98 ∷ 97 ∷ 115 ∷ 101 ∷ 10
    ∷ 116 ∷ 111 ∷ 116 ∷ 97 ∷ 108 ∷ 10
    ∷ []

pub no_bytes_text : answer_text [] ≡ names_alone
unfolding answer_text sheet_text
no_bytes_text = ap ran_text (no_bytes nothing_lent)

pub other_texts : (s : List ℕ) → 0 < length s → answer_text s ≡ ran_text (stream_from s (card_of (settings_at s 0)) nothing_lent)
unfolding answer_text
other_texts s h = ap ran_text (other_streams nothing_lent s h)
