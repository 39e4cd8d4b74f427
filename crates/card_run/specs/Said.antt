-- What the cards of a stream say, read one after the other and held against nothing: one settings card, then part cards to the end of the bytes. "each inserted
-- last" (docs/REFERENCE.md, Program): so a stream that is accepted comes to a sheet of these settings and these parts in this order. No bytes say the settings
-- that stand for no card, and no parts.
use Rattle.cards.specs.Fields.{Read}
use Rattle.std.specs.Prelude.{cond, List, [], ◌∷◌, ℕ, zero, suc, length, ltb, Ok, Err}
use Rattle.elementary.specs.Constants.{0·0}
use Rattle.sheet_data.specs.declared.Part.{Part}
use Rattle.sheet_data.specs.Contents.{Contents}
use Rattle.cards.specs.Cards.{part_at}
use Rattle.card_run.specs.Run.{first_card}

-- a card's part, and those after it; none where the card can't be read
abbrev pub with_part : Read Part → (ℕ → List Part) → List Part
with_part (Ok (part, next)) rest = part ∷ rest next
with_part (Err e) rest = []

-- the parts of the cards from a position on, at most n of them
unfoldable pub parts_said : ℕ → List ℕ → ℕ → List Part
parts_said zero s at = []
parts_said (suc n) s at = cond (ltb at (length s)) (with_part (part_at s at) (parts_said n s)) []

-- each card takes a byte at least, so no stream of n bytes has more than n. No card carries a nozzle diameter
abbrev pub said : List ℕ → Contents
said s = let card = first_card s in record { settings = card.settings; parts = parts_said (length s) s card.next; nozzle = 0·0 }
