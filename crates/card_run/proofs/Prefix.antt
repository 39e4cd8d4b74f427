-- No byte of a stream past its first `stream_bytes` matters: they hold the settings card and a part card more than a design has places, which can't be accepted.
-- A card reads the same in those bytes as in the stream; the count of the design's parts bounds the cards.
use Rattle.std.specs.Prelude.{Ok, Err}
use Rattle.aero_error.specs.Checks.{Check}
use mathlib.Core.Path.{◌≡◌, refl, sym, ap, ◌∙◌}
use mathlib.Core.Bool.{Bool, true, false}
use mathlib.Core.List.{List, [], ◌∷◌}
use Prim.Native.Nat.{ℕ, zero, suc, ◌+◌, ◌-◌, ◌*◌, ◌≤◌, ◌<◌, min}
use native.Mathlib.Omega.{arith}
use lib.ListN.{length, take, drop, length-take, length-append}
use lib.Dec.{ltb}
use borrow.Author.Tests.{ltb-true, ltb-false, lt-ltb, le-ltb}
use Rattle.sheet_data.specs.declared.Part.{Part}
use Rattle.sheet_data.specs.declared.Sheet.{Sheet}
use Rattle.sheet_data.specs.Layout.{most_parts}
use Rattle.sheet_data.specs.Contents.{contents_of, blank}
use Rattle.sheet_data.specs.Tests.{settings_test}
use Rattle.drag_sheet.specs.Planes.{Lent, cells_lent}
use Rattle.drag_sheet.specs.Writing.{whole, rewritten}
use Rattle.drag_sheet.specs.Calls.{after}
use Rattle.cards.specs.Cards.{settings_at, settings_bytes, part_bytes}
use Rattle.cards.proofs.Extents.{part_extent, settings_extent}
use Rattle.card_run.specs.Run.{FirstCard, card_of, Ran, insert_last, part_cards, on_check, stopped_at, first_card, stream_from, stream_of, stream_bytes}
use Rattle.card_run.proofs.Stream.{ends_of, sheet_then, lent_then, same_card, card_first, part_reach}
use Rattle.card_run.proofs.Answers.{one_more, accepted_part}

-- the array of a design holds its parts
abbrev pub Held : Sheet → Type 0
Held sheet = sheet.design.count ≤ length sheet.design.parts

-- it has one part more after an insert, and holds them
pub one_more_held : (sheet : Sheet) (part : Part) → Held sheet → ((sheet_then sheet part).design.count ≡ sheet.design.count + 1) × Held (sheet_then sheet part)
one_more_held sheet part h =
    let new = (after (insert_last sheet part) sheet).parts in
    let a = one_more sheet part in
    let b = length-append new (drop (length new) sheet.design.parts) in
    (omega (arith, a), omega (arith, b))

-- the settings card ends within its bytes and is the same in the first bytes of the stream, and no bytes are no bytes there
first_reach : (s : List ℕ) → (first_card s).outcome ≡ Ok tt → (first_card s).next ≤ settings_bytes
first_reach [] o = omega arith
first_reach (b ∷ s) o = (settings_extent.reach (b ∷ s) 0 (first_card (b ∷ s)).next (ends_of (settings_at (b ∷ s) 0) o)).1

first_same : (s : List ℕ) → first_card s ≡ first_card (take stream_bytes s)
first_same [] = refl
first_same (b ∷ s) = ap card_of (settings_extent.same (b ∷ s) stream_bytes 0 (omega arith))

module _ (s : List ℕ) where
  first_long : length (take stream_bytes s) ≡ min stream_bytes (length s)
  first_long = length-take stream_bytes s

  same_end : (at : ℕ) → at < stream_bytes → ltb at (length s) ≡ ltb at (length (take stream_bytes s))
  same_end at h = by_test (ltb at (length s)) refl
    where
      by_test : (t : Bool) → ltb at (length s) ≡ t → t ≡ ltb at (length (take stream_bytes s))
      by_test true e = let k = ltb-true at (length s) e in sym (lt-ltb at (length (take stream_bytes s)) (omega (arith, first_long)))
      by_test false e = let k = ltb-false at (length s) e in sym (le-ltb at (length (take stream_bytes s)) (omega (arith, first_long)))

  -- one card more, where n and m are enough for both
  same_next : (n m at : ℕ) (sheet : Sheet) (xs : Lent) → at + part_bytes ≤ stream_bytes → length s - at ≤ n → length (take stream_bytes s) - at ≤ m
      → ((part : Part) (next : ℕ) → at < length s → (at + 1 ≤ next) × (next ≤ at + part_bytes) → sheet.design.count < most_parts
      → part_cards (n - 1) s next (sheet_then sheet part) (lent_then sheet part xs) ≡ part_cards (m - 1) (take stream_bytes s) next (sheet_then sheet part) (lent_then sheet part xs))
      → part_cards n s at sheet xs ≡ part_cards m (take stream_bytes s) at sheet xs
  same_next n m at sheet xs h i j go =
      card_first n s at sheet xs i
      ∙ same_card s (take stream_bytes s) at sheet xs (part_cards (n - 1) s) (part_cards (m - 1) (take stream_bytes s))
      (same_end at (omega arith)) (λ k. part_extent.same s stream_bytes at h)
      (λ part next k p v. go part next k (part_reach s at part next p) (accepted_part sheet (cells_lent xs) part v).room)
      ∙ sym (card_first m (take stream_bytes s) at sheet xs j)

  -- d parts can still be inserted
  same_cards : (d n m at : ℕ) (sheet : Sheet) (xs : Lent) → Held sheet → sheet.design.count + d ≡ most_parts → at ≤ settings_bytes + part_bytes * sheet.design.count
      → length s - at ≤ n → length (take stream_bytes s) - at ≤ m → part_cards n s at sheet xs ≡ part_cards m (take stream_bytes s) at sheet xs
  same_cards zero n m at sheet xs g c h i j = same_next n m at sheet xs (omega arith) i j (λ part next k r v. absurd (omega arith))
  same_cards (suc d) n m at sheet xs g c h i j =
      same_next n m at sheet xs (omega arith) i j λ part next k r v.
      let o = one_more_held sheet part g in
      same_cards d (n - 1) (m - 1) next (sheet_then sheet part) (lent_then sheet part xs) o.1 (omega (arith, o.0)) (omega (arith, o.0)) (omega arith) (omega (arith, first_long))

  -- the same settings card, and the same part cards after it
  same_from : (card : FirstCard) (xs : Lent) → (card.outcome ≡ Ok tt → card.next ≤ settings_bytes) → stream_from s card xs ≡ stream_from (take stream_bytes s) card xs
  same_from card xs h = by_cases card.outcome h
    where
      sheet : Sheet
      sheet = blank card.settings

      after : List ℕ → ℕ → Ran
      after t n = on_check (settings_test card.settings (cells_lent xs)) (λ e. stopped_at 0 (Err e) sheet xs) (part_cards n t card.next sheet (rewritten whole (contents_of sheet) xs))

      by_cases : (o : Check) → (o ≡ Ok tt → card.next ≤ settings_bytes)
          → on_check o (λ e. stopped_at 0 (Err e) sheet xs) (after s (length s)) ≡ on_check o (λ e. stopped_at 0 (Err e) sheet xs) (after (take stream_bytes s) (length (take stream_bytes s)))
      by_cases (Ok _) h =
          let k = h refl in
          ap (λ (r : Ran). on_check (settings_test card.settings (cells_lent xs)) (λ e. stopped_at 0 (Err e) sheet xs) r)
          (same_cards most_parts (length s) (length (take stream_bytes s)) card.next sheet (rewritten whole (contents_of sheet) xs) (omega arith) (omega arith) (omega arith) (omega arith) (omega arith))
      by_cases (Err e) h = refl

  -- the answer for any stream is the answer for its first bytes
  pub first_bytes : (xs : Lent) → stream_of s xs ≡ stream_of (take stream_bytes s) xs
  unfolding stream_of
  first_bytes xs =
      same_from (first_card s) xs (first_reach s) ∙ ap (λ (card : FirstCard). stream_from (take stream_bytes s) card xs) (first_same s)
