-- Bytes that end inside a card are refused with 4 at that card: bytes t that a continuation u would make a whole card, one byte at least, but not all of it. So
-- wherever an accepted stream is cut, it is accepted or refused with 4.
use Rattle.std.specs.Prelude.{Ok, Err}
use mathlib.Core.Path.{◌≡◌, refl, sym, ap, ◌∙◌, subst}
use mathlib.Core.Bool.{Bool, true, false}
use mathlib.Core.List.{List, [], ◌∷◌, ◌++◌}
use Prim.Native.Nat.{ℕ, zero, suc, ◌+◌, ◌-◌, ◌≤◌, ◌<◌}
use native.Mathlib.Omega.{arith}
use lib.ListN.{length, take, length-append}
use lib.Seq.{take-append_seam}
use lib.Dec.{ltb}
use borrow.Author.Tests.{ltb-true, ltb-false}
use Rattle.aero_error.specs.declared.AeroError.TheVariants.{Broken}
use Rattle.aero_error.specs.declared.Rule.TheVariants.{CardEnds}
use Rattle.sheet_data.specs.declared.Settings.{Settings}
use Rattle.sheet_data.specs.declared.Part.{Part}
use Rattle.sheet_data.specs.declared.Sheet.{Sheet}
use Rattle.sheet_data.specs.Contents.{contents_of, blank}
use Rattle.sheet_data.specs.Tests.{settings_test}
use Rattle.drag_sheet.specs.Planes.{Lent, cells_lent}
use Rattle.drag_sheet.specs.Writing.{whole, rewritten}
use Rattle.cards.specs.Cards.{part_at, no_settings, settings_at}
use Rattle.cards.proofs.Extents.{part_extent, settings_extent}
use Rattle.cards.specs.Fields.{Read}
use Rattle.card_run.specs.Run.{FirstCard, card_of, Ran, stopped, stopped_at, first_card, all_part_cards, stream_of}
use Rattle.card_run.proofs.Stream.{ends_of, sheet_then, lent_then, part_reach, cards_end, card_refused, part_accepted, outcome, Turn, ended, carded, turn}
use Rattle.card_run.proofs.Answers.{first_of_some, stream_unread, stream_opened, stream_passed}
use Rattle.card_run.proofs.NoCard.{no_bytes}

-- a settings card that is cut short
abbrev cut_short : Read Settings
cut_short = Err (Broken CardEnds)

-- accepted, or refused with 4
pub data AtWorstShort (ran : Ran) : Type 0 where
  accepted : outcome ran ≡ Ok tt → AtWorstShort ran
  short : outcome ran ≡ Err (Broken CardEnds) → AtWorstShort ran

module _ (t u : List ℕ) where
  start : take (length t) (t ++ u) ≡ t
  start = take-append_seam t u

  -- ---- part cards, whatever the sheet is that the cards before left

  module _ (at next : ℕ) (part : Part) (p : part_at (t ++ u) at ≡ Ok (part, next)) where
    part_kept : next ≤ length t → part_at t at ≡ Ok (part, next)
    part_kept l = ap (λ (s : List ℕ). part_at s at) (sym start) ∙ sym (part_extent.kept (t ++ u) (length t) at next (rw p refl) l) ∙ p

    pub inside_part : (sheet : Sheet) (xs : Lent) → at < length t → length t < next → all_part_cards t at sheet xs ≡ stopped (Err (Broken CardEnds)) sheet xs
    inside_part sheet xs h l =
        let c = part_extent.cut (t ++ u) (length t) at next (rw p refl) (omega arith) l in
        card_refused t at sheet xs (Broken CardEnds) h (ap (λ (s : List ℕ). part_at s at) (sym start) ∙ c)

  -- one turn of the accepted run, where what follows it is known: t ends before the card, inside it, or past it
  module _ (at : ℕ) (sheet : Sheet) (xs : Lent) (o : outcome (all_part_cards (t ++ u) at sheet xs) ≡ Ok tt)
      (again : (part : Part) (next : ℕ) → at + 1 ≤ next → outcome (all_part_cards (t ++ u) next (sheet_then sheet part) (lent_then sheet part xs)) ≡ Ok tt
      → AtWorstShort (all_part_cards t next (sheet_then sheet part) (lent_then sheet part xs))) where
    ends_here : length t ≤ at → AtWorstShort (all_part_cards t at sheet xs)
    ends_here l = accepted (ap outcome (cards_end t at sheet xs l))

    cut_turn : Turn (t ++ u) at sheet xs → AtWorstShort (all_part_cards t at sheet xs)
    cut_turn (ended l) = let e = length-append t u in ends_here (omega (arith, e))
    cut_turn (carded part next h p d) = by_end (ltb at (length t)) refl (ltb (length t) next) refl
      where
        by_end : (a : Bool) → ltb at (length t) ≡ a → (b : Bool) → ltb (length t) next ≡ b → AtWorstShort (all_part_cards t at sheet xs)
        by_end false e b f = ends_here (ltb-false at (length t) e)
        by_end true e true f = short (ap outcome (inside_part at next part p sheet xs (ltb-true at (length t) e) (ltb-true (length t) next f)))
        by_end true e false f =
            let k = part_kept at next part p (ltb-false (length t) next f) in
            subst AtWorstShort (sym (part_accepted t at sheet xs part next (ltb-true at (length t) e) k d))
            (again part next (part_reach (t ++ u) at part next p).0 (ap outcome (sym (part_accepted (t ++ u) at sheet xs part next h p d)) ∙ o))

  parts_cut : (n at : ℕ) (sheet : Sheet) (xs : Lent) → length (t ++ u) - at ≤ n → outcome (all_part_cards (t ++ u) at sheet xs) ≡ Ok tt
      → AtWorstShort (all_part_cards t at sheet xs)
  parts_cut zero at sheet xs h o = let e = length-append t u in accepted (ap outcome (cards_end t at sheet xs (omega (arith, e))))
  parts_cut (suc n) at sheet xs h o =
      cut_turn at sheet xs o (λ part next k. parts_cut n next (sheet_then sheet part) (lent_then sheet part xs) (omega arith)) (turn (t ++ u) at sheet xs o)

  -- ---- the settings card, card 0

  module _ (xs : Lent) (some : 0 < length t) where
    abbrev card : FirstCard
    card = card_of (settings_at (t ++ u) 0)

    pub inside_settings : card.outcome ≡ Ok tt → length t < card.next → stream_of t xs ≡ stopped_at 0 (Err (Broken CardEnds)) (blank no_settings) xs
    inside_settings o l =
        let c = settings_extent.cut (t ++ u) (length t) 0 card.next (ends_of (settings_at (t ++ u) 0) o) (omega arith) l in
        stream_unread t xs (card_of cut_short) (ap card_of (sym (first_of_some t some ∙ ap (λ (s : List ℕ). settings_at s 0) (sym start) ∙ c))) (Broken CardEnds) refl

    settings_cut : outcome (stream_of (t ++ u) xs) ≡ Ok tt → AtWorstShort (stream_of t xs)
    settings_cut o = by_end (ltb (length t) card.next) refl
      where
        first : card ≡ first_card (t ++ u)
        first = let e = length-append t u in ap card_of (sym (first_of_some (t ++ u) (omega (arith, e))))

        passed : (card.outcome ≡ Ok tt) × (settings_test card.settings (cells_lent xs) ≡ Ok tt)
        passed = stream_passed (t ++ u) xs card first o

        by_end : (b : Bool) → ltb (length t) card.next ≡ b → AtWorstShort (stream_of t xs)
        by_end true e = short (ap outcome (inside_settings passed.0 (ltb-true (length t) card.next e)))
        by_end false e =
            let k = settings_extent.kept (t ++ u) (length t) 0 card.next (ends_of (settings_at (t ++ u) 0) passed.0) (ltb-false (length t) card.next e) in
            let same = ap card_of (k ∙ ap (λ (s : List ℕ). settings_at s 0) start ∙ sym (first_of_some t some)) in
            subst AtWorstShort (sym (stream_opened t xs card same passed.0 passed.1))
            (parts_cut (length (t ++ u)) card.next (blank card.settings) (rewritten whole (contents_of (blank card.settings)) xs) (omega arith)
            (ap outcome (sym (stream_opened (t ++ u) xs card first passed.0 passed.1)) ∙ o))

-- no cut is refused with another number than 4, and the one before the first byte is accepted
pub cut_anywhere : (t u : List ℕ) (xs : Lent) → outcome (stream_of (t ++ u) xs) ≡ Ok tt → AtWorstShort (stream_of t xs)
cut_anywhere [] u xs o = accepted (ap outcome (no_bytes xs))
cut_anywhere (b ∷ t) u xs o = settings_cut (b ∷ t) u xs (omega arith) o
