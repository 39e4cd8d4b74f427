-- The part cards of a stream, card by card: the bound on their number in `part_cards` never shows, what a turn of the run comes to, and what it was where the run
-- stops well.
use Rattle.cards.specs.Fields.{Read}
use Rattle.std.specs.Prelude.{Ok, Err}
use Rattle.aero_error.specs.Checks.{Check}
use mathlib.Core.Path.{◌≡◌, refl, sym, ap, ◌∙◌}
use mathlib.Core.Bool.{Bool, true, false, cond}
use mathlib.Core.List.{List}
use Prim.Native.Nat.{ℕ, zero, suc, ◌+◌, ◌-◌, ◌≤◌, ◌<◌}
use native.Mathlib.Omega.{arith}
use lib.ListN.{length}
use lib.Dec.{ltb}
use borrow.Author.Tests.{le-ltb, ltb-true, ltb-false, lt-ltb}
use Rattle.aero_error.specs.declared.AeroError.{AeroError}
use Rattle.sheet_data.specs.declared.Settings.{Settings}
use Rattle.sheet_data.specs.declared.Part.{Part}
use Rattle.sheet_data.specs.declared.Sheet.{Sheet}
use Rattle.drag_sheet.specs.Planes.{Lent, cells_lent}
use Rattle.drag_sheet.specs.Calls.{decision}
use Rattle.drag_sheet.proofs.Verdicts.{never}
use Rattle.cards.specs.Cards.{part_at, part_bytes}
use Rattle.cards.proofs.Extents.{Ends, part_extent}
use Rattle.card_run.specs.Run.{card_of, Ran, stopped, on_part, on_check, insert_last, sheet_after, lent_after, part_card, part_cards, all_part_cards}

-- a part card that is read takes a byte at least
pub part_reach : (s : List ℕ) (at : ℕ) (part : Part) (next : ℕ) → part_at s at ≡ Ok (part, next) → (at + 1 ≤ next) × (next ≤ at + part_bytes)
part_reach s at part next e = part_extent.reach s at next (rw e refl)

-- a settings card that is read ends where it says
pub ends_of : (r : Read Settings) → (card_of r).outcome ≡ Ok tt → Ends r (card_of r).next
ends_of (Ok (settings, next)) o = refl
ends_of (Err e) o = never refl o

-- how a run goes on after a card
abbrev pub Next : Type 0
Next = ℕ → Sheet → Lent → Ran

-- the sheet and the cells after an accepted part
abbrev pub sheet_then : Sheet → Part → Sheet
sheet_then sheet part = sheet_after (insert_last sheet part) sheet

abbrev pub lent_then : Sheet → Part → Lent → Lent
lent_then sheet part xs = lent_after (insert_last sheet part) sheet xs

-- two streams that show the same card, and go on alike after it where its part is accepted, come to the same
module _ (s t : List ℕ) (at : ℕ) (sheet : Sheet) (xs : Lent) (go go' : Next) where
  pub same_card : ltb at (length s) ≡ ltb at (length t)
      → (at < length s → part_at s at ≡ part_at t at)
      → ((part : Part) (next : ℕ) → at < length s → part_at s at ≡ Ok (part, next) → decision (insert_last sheet part) sheet (cells_lent xs) ≡ Ok tt
      → go next (sheet_then sheet part) (lent_then sheet part xs) ≡ go' next (sheet_then sheet part) (lent_then sheet part xs))
      → part_card s at sheet xs go ≡ part_card t at sheet xs go'
  same_card l p h = ended (ltb at (length s)) refl l
    where
      refuse : AeroError → Ran
      refuse e = stopped (Err e) sheet xs

      tail : Next → Part → ℕ → Ran
      tail k part next = on_check (decision (insert_last sheet part) sheet (cells_lent xs)) refuse (k next (sheet_then sheet part) (lent_then sheet part xs))

      decided : (part : Part) (next : ℕ) → at < length s → part_at s at ≡ Ok (part, next) → (d : Check) → decision (insert_last sheet part) sheet (cells_lent xs) ≡ d
          → on_check d refuse (go next (sheet_then sheet part) (lent_then sheet part xs)) ≡ on_check d refuse (go' next (sheet_then sheet part) (lent_then sheet part xs))
      decided part next i q (Ok _) d = h part next i q d
      decided part next i q (Err e) d = refl

      read : at < length s → (r : Read Part) → part_at s at ≡ r → on_part r refuse (tail go) ≡ on_part r refuse (tail go')
      read i (Ok (part, next)) q = decided part next i q (decision (insert_last sheet part) sheet (cells_lent xs)) refl
      read i (Err e) q = refl

      ended : (b : Bool) → ltb at (length s) ≡ b → b ≡ ltb at (length t)
          → cond b (on_part (part_at s at) refuse (tail go)) (stopped (Ok tt) sheet xs) ≡ cond (ltb at (length t)) (on_part (part_at t at) refuse (tail go')) (stopped (Ok tt) sheet xs)
      ended true e f =
          let i = ltb-true at (length s) e in
          rw (← f) (read i (part_at s at) refl ∙ ap (λ (r : Read Part). on_part r refuse (tail go')) (p i))
      ended false e f = rw (← f)

-- where the bound is enough, a card is read as if there were none
pub card_first : (n : ℕ) (s : List ℕ) (at : ℕ) (sheet : Sheet) (xs : Lent) → length s - at ≤ n
    → part_cards n s at sheet xs ≡ part_card s at sheet xs (part_cards (n - 1) s)
unfolding part_cards
card_first zero s at sheet xs h = rw (le-ltb at (length s) (omega arith))
card_first (suc n) s at sheet xs h = let e : n ≡ suc n - 1 = omega arith in ap (λ (k : ℕ). part_card s at sheet xs (part_cards k s)) e

-- two bounds that are both enough give the same
pub enough : (n m : ℕ) (s : List ℕ) (at : ℕ) (sheet : Sheet) (xs : Lent) → length s - at ≤ n → length s - at ≤ m
    → part_cards n s at sheet xs ≡ part_cards m s at sheet xs
enough zero m s at sheet xs h k =
    card_first zero s at sheet xs h
    ∙ same_card s s at sheet xs (part_cards (0 - 1) s) (part_cards (m - 1) s) refl (λ i. refl) (λ part next i q d. absurd (omega arith))
    ∙ sym (card_first m s at sheet xs k)
enough (suc n) m s at sheet xs h k =
    card_first (suc n) s at sheet xs h
    ∙ same_card s s at sheet xs (part_cards (suc n - 1) s) (part_cards (m - 1) s) refl (λ i. refl)
    (λ part next i q d. let r = part_reach s at part next q in let e : suc n - 1 ≡ n = omega arith in rw e (enough n (m - 1) s next (sheet_then sheet part) (lent_then sheet part xs) (omega arith) (omega arith)))
    ∙ sym (card_first m s at sheet xs k)

-- all the part cards: the first, and then all the others
pub next_card : (s : List ℕ) (at : ℕ) (sheet : Sheet) (xs : Lent) → all_part_cards s at sheet xs ≡ part_card s at sheet xs (all_part_cards s)
next_card s at sheet xs =
    card_first (length s) s at sheet xs (omega arith)
    ∙ same_card s s at sheet xs (part_cards (length s - 1) s) (all_part_cards s) refl (λ i. refl)
    (λ part next i q d. let r = part_reach s at part next q in enough (length s - 1) (length s) s next (sheet_then sheet part) (lent_then sheet part xs) (omega arith) (omega arith))

-- ---- what a turn of the run comes to

module _ (s : List ℕ) (at : ℕ) (sheet : Sheet) (xs : Lent) where
  -- the bytes end
  pub cards_end : length s ≤ at → all_part_cards s at sheet xs ≡ stopped (Ok tt) sheet xs
  cards_end h = next_card s at sheet xs ∙ rw (le-ltb at (length s) h)

  -- the card is refused
  pub card_refused : (e : AeroError) → at < length s → part_at s at ≡ Err e → all_part_cards s at sheet xs ≡ stopped (Err e) sheet xs
  card_refused e h p = next_card s at sheet xs ∙ rw (lt-ltb at (length s) h, p)

  module _ (part : Part) (next : ℕ) (h : at < length s) (p : part_at s at ≡ Ok (part, next)) where
    -- the part is refused
    pub part_refused : (e : AeroError) → decision (insert_last sheet part) sheet (cells_lent xs) ≡ Err e → all_part_cards s at sheet xs ≡ stopped (Err e) sheet xs
    part_refused e d = next_card s at sheet xs ∙ rw (lt-ltb at (length s) h, p, d)

    -- the part is accepted
    pub part_accepted : decision (insert_last sheet part) sheet (cells_lent xs) ≡ Ok tt
        → all_part_cards s at sheet xs ≡ all_part_cards s next (sheet_then sheet part) (lent_then sheet part xs)
    part_accepted d = next_card s at sheet xs ∙ rw (lt-ltb at (length s) h, p, d)

-- ---- a run that stops well

abbrev pub outcome : Ran → Check
outcome ran = ran.run.outcome

-- the bytes end here, or a card is read and its part accepted
pub data Turn (s : List ℕ) (at : ℕ) (sheet : Sheet) (xs : Lent) : Type 0 where
  ended : length s ≤ at → Turn s at sheet xs
  carded : (part : Part) (next : ℕ) → at < length s → part_at s at ≡ Ok (part, next) → decision (insert_last sheet part) sheet (cells_lent xs) ≡ Ok tt → Turn s at sheet xs

pub turn : (s : List ℕ) (at : ℕ) (sheet : Sheet) (xs : Lent) → outcome (all_part_cards s at sheet xs) ≡ Ok tt → Turn s at sheet xs
turn s at sheet xs o = by_end (ltb at (length s)) refl
  where
    decided : (part : Part) (next : ℕ) → at < length s → part_at s at ≡ Ok (part, next) → (d : Check) → decision (insert_last sheet part) sheet (cells_lent xs) ≡ d → Turn s at sheet xs
    decided part next h p (Ok _) d = carded part next h p d
    decided part next h p (Err e) d = never (ap outcome (part_refused s at sheet xs part next h p e d)) o

    read : at < length s → (r : Read Part) → part_at s at ≡ r → Turn s at sheet xs
    read h (Ok (part, next)) p = decided part next h p (decision (insert_last sheet part) sheet (cells_lent xs)) refl
    read h (Err e) p = never (ap outcome (card_refused s at sheet xs e h p)) o

    by_end : (b : Bool) → ltb at (length s) ≡ b → Turn s at sheet xs
    by_end true e = read (ltb-true at (length s) e) (part_at s at) refl
    by_end false e = ended (ltb-false at (length s) e)
