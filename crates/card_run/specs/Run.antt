-- What a whole stream of bytes comes to (docs/REFERENCE.md, Program): "reads one settings card and then part cards .., each inserted last, and stops at the
-- first refusal". Each card is read whole before its call. A stream of no bytes has settings of its own. What a call decides and leaves is `drag_sheet`'s own
-- definition of it.
use Rattle.cards.specs.Fields.{Read}
use Rattle.std.specs.Prelude.{◌≡◌, cond, List, [], ◌∷◌, ℕ, zero, suc, ◌+◌, ◌*◌, ◌≤◌, length, replicate, ltb, Ok, Err}
use Rattle.aero_error.specs.Checks.{Check}
use Rattle.elementary.specs.Constants.{0·0, 1·0}
use Rattle.aero_error.specs.declared.AeroError.{AeroError}
use Rattle.sheet_data.specs.declared.Settings.{Settings}
use Rattle.sheet_data.specs.declared.Part.{Part}
use Rattle.sheet_data.specs.declared.Sheet.{Sheet}
use Rattle.sheet_data.specs.Layout.{most_parts, most_columns, most_finishes}
use Rattle.sheet_data.specs.Contents.{contents_of, blank, Fits}
use Rattle.sheet_data.specs.Tests.{settings_test}
use Rattle.drag_sheet.specs.Planes.{Lent, cells_lent}
use Rattle.drag_sheet.specs.Writing.{whole, rewritten}
use Rattle.drag_sheet.specs.Calls.{Call, insert, scope, after, decision, sheet_with}
use Rattle.cards.specs.Cards.{part_at, no_settings, settings_at, settings_bytes, part_bytes}
use Rattle.card_run.specs.declared.Run.{Run}

-- the answer, and the lent buffers as they are left
pub record Ran : Type 0 where
  pub run : Run
  pub lent : Lent

-- stopped at a card: "K the card from 0"
abbrev pub stopped_at : ℕ → Check → Sheet → Lent → Ran
stopped_at card outcome sheet xs = record { run = record { outcome = outcome; card = card; sheet = sheet }; lent = xs }

-- the answer at a part card: the settings card and the design's parts come before it
abbrev pub run_stopped : Check → Sheet → Run
run_stopped outcome sheet = record { outcome = outcome; card = sheet.design.count + 1; sheet = sheet }

abbrev pub stopped : Check → Sheet → Lent → Ran
stopped outcome sheet xs = stopped_at (sheet.design.count + 1) outcome sheet xs

abbrev pub on_part : Read Part → (AeroError → Ran) → (Part → ℕ → Ran) → Ran
on_part (Ok (part, next)) refuse go = go part next
on_part (Err e) refuse go = refuse e

abbrev pub on_check : Check → (AeroError → Ran) → Ran → Ran
on_check (Ok _) refuse go = go
on_check (Err e) refuse go = refuse e

-- "each inserted last"; the sheet and the buffers after an accepted one
abbrev pub last_place : Sheet → ℕ
last_place sheet = sheet.design.count

abbrev pub insert_last : Sheet → Part → Call
insert_last sheet part = insert (last_place sheet) part

abbrev pub sheet_after : Call → Sheet → Sheet
sheet_after call sheet = sheet_with (after call sheet) sheet

abbrev pub lent_after : Call → Sheet → Lent → Lent
lent_after call sheet xs = rewritten (scope call (after call sheet)) (after call sheet) xs

-- one part card from a position on: the bytes end here, or the card is refused, or its part is, or the run goes on after it
abbrev pub part_card : List ℕ → ℕ → Sheet → Lent → (ℕ → Sheet → Lent → Ran) → Ran
part_card s at sheet xs go =
    cond (ltb at (length s))
    (on_part (part_at s at) (λ e. stopped (Err e) sheet xs) λ part next.
    on_check (decision (insert_last sheet part) sheet (cells_lent xs)) (λ e. stopped (Err e) sheet xs)
    (go next (sheet_after (insert_last sheet part) sheet) (lent_after (insert_last sheet part) sheet xs)))
    (stopped (Ok tt) sheet xs)

-- the part cards from a position on, at most n of them. Each takes a byte at least, so no stream of n bytes has more than n
unfoldable pub part_cards : ℕ → List ℕ → ℕ → Sheet → Lent → Ran
part_cards zero s at sheet xs = stopped (Ok tt) sheet xs
part_cards (suc n) s at sheet xs = part_card s at sheet xs (part_cards n s)

-- all the part cards from a position on
abbrev pub all_part_cards : List ℕ → ℕ → Sheet → Lent → Ran
all_part_cards s at sheet xs = part_cards (length s) s at sheet xs

-- the settings card as a run goes by it: whether it was read, what it says, and where it ends. Refused, it says nothing
pub record FirstCard : Type 0 where
  pub outcome : Check
  pub settings : Settings
  pub next : ℕ

abbrev pub card_of : Read Settings → FirstCard
card_of (Ok (settings, next)) = record { outcome = Ok tt; settings = settings; next = next }
card_of (Err e) = record { outcome = Err e; settings = no_settings; next = 0 }

-- what stands for the settings card where there are no bytes: D = 1, B = 1, one finish of roughness 0, no columns
abbrev pub unsaid : Settings
unsaid = record {
  reference_diameter = 1·0;
  finishes = 1;
  roughnesses = replicate most_finishes 0·0;
  body_fineness = 1·0;
  count = 0;
  machs = replicate most_columns 0·0;
  reynolds = replicate most_columns 0·0;
}

abbrev pub no_card : FirstCard
no_card = record { outcome = Ok tt; settings = unsaid; next = 0 }

-- the settings card of a stream, asked for wherever there is a byte
abbrev pub first_read : List ℕ → Read Settings
first_read [] = Ok (unsaid, 0)
first_read (b ∷ s) = settings_at (b ∷ s) 0

abbrev pub first_card : List ℕ → FirstCard
first_card s = card_of (first_read s)

-- the settings card, card 0, as it was read, and then the part cards
abbrev pub stream_from : List ℕ → FirstCard → Lent → Ran
stream_from s card xs =
    let sheet = blank card.settings in
    on_check card.outcome (λ e. stopped_at 0 (Err e) sheet xs)
    (on_check (settings_test card.settings (cells_lent xs)) (λ e. stopped_at 0 (Err e) sheet xs)
    (all_part_cards s card.next sheet (rewritten whole (contents_of sheet) xs)))

unfoldable pub stream_of : List ℕ → Lent → Ran
unfolding part_cards
stream_of s xs = stream_from s (first_card s) xs

-- the bytes of a stream that can matter: the settings card, a part card for each place of a design, and the one that can't be accepted any more
abbrev pub stream_bytes : ℕ
stream_bytes = settings_bytes + (most_parts + 1) * part_bytes

-- what a run's contract says: of its answer r, and of the lent buffers afterwards
pub record Stopped (ran : Ran) (r : Run) (ys : Lent) : Type 0 where
  pub answer : r ≡ ran.run
  pub left : ys ≡ ran.lent
  pub card : r.card ≤ most_parts + 1
  pub fits : r.outcome ≡ Ok tt → Fits r.sheet (cells_lent ys)
