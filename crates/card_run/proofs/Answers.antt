-- What the calls below a run say by their outcome, that an accepted one leaves a sheet that fits its cells, a run's contract once it is known where it stops, and
-- what a stream comes to by its settings card.
use Rattle.std.specs.Prelude.{Ok, Err}
use Rattle.aero_error.specs.Checks.{Check}
use mathlib.Core.Path.{◌≡◌, refl, sym, ap, ◌∙◌, subst}
use mathlib.Core.List.{List, [], ◌∷◌}
use Prim.Native.Nat.{ℕ, ◌+◌, ◌≤◌, ◌<◌, min}
use native.Mathlib.Omega.{arith}
use lib.ListN.{length, take, drop, length-append, length-take, length-drop}
use Rattle.aero_error.specs.declared.AeroError.{AeroError}
use Rattle.aero_error.specs.CheckLaws.{both_passed}
use Rattle.sheet_data.specs.declared.Settings.{Settings}
use Rattle.sheet_data.specs.declared.Part.{Part}
use Rattle.sheet_data.specs.declared.Sheet.{Sheet}
use Rattle.sheet_data.specs.Layout.{most_parts}
use Rattle.sheet_data.specs.Contents.{contents_of, blank, Fits}
use Rattle.sheet_data.specs.Tests.{settings_test}
use Rattle.drag_sheet.specs.Planes.{Lent, cells_lent}
use Rattle.drag_sheet.specs.Calls.{Answer, Call, insert, tries, after, call_test, decision, answered, Called, Opened}
use Rattle.drag_sheet.specs.Writing.{chosen, whole, rewritten}
use Rattle.drag_sheet.proofs.Verdicts.{never}
use Rattle.drag_sheet.proofs.Answers.{settings_facts, call_facts}
use Rattle.cards.specs.Cards.{settings_at}
use Rattle.card_run.specs.declared.Run.{Run}
use Rattle.card_run.specs.Run.{FirstCard, first_read, Ran, stopped_at, first_card, stream_of, last_place, insert_last, sheet_after, lent_after, all_part_cards, Stopped}
use Rattle.card_run.proofs.Stream.{sheet_then, outcome}

-- ---- what a call's contract says, by its outcome: of the sheet given or left, of the cells xs or zs

module _ (d : Check) (given left : Sheet) (xs zs : Lent) (r : Answer) (ys : Lent) (a : r ≡ answered d given left) (l : ys ≡ chosen d xs zs) where
  refused_answer : (e : AeroError) → r.outcome ≡ Err e → (d ≡ Err e) × (r.sheet ≡ given) × (ys ≡ xs)
  refused_answer e o = by_cases d refl a l
    where
      by_cases : (z : Check) → d ≡ z → r ≡ answered z given left → ys ≡ chosen z xs zs → (d ≡ Err e) × (r.sheet ≡ given) × (ys ≡ xs)
      by_cases (Ok _) p a l = never o (ap (λ (x : Answer). x.outcome) a)
      by_cases (Err f) p a l = (p ∙ sym (ap (λ (x : Answer). x.outcome) a) ∙ o, ap (λ (x : Answer). x.sheet) a, l)

  accepted_answer : r.outcome ≡ Ok tt → (d ≡ Ok tt) × (r.sheet ≡ left) × (ys ≡ zs)
  accepted_answer o = by_cases d refl a l
    where
      by_cases : (z : Check) → d ≡ z → r ≡ answered z given left → ys ≡ chosen z xs zs → (d ≡ Ok tt) × (r.sheet ≡ left) × (ys ≡ zs)
      by_cases (Ok _) p a l = (p, ap (λ (x : Answer). x.sheet) a, l)
      by_cases (Err f) p a l = never (ap (λ (x : Answer). x.outcome) a) o

module _ {call : Call} {sheet : Sheet} {xs : Lent} {r : Answer} {ys : Lent} (c : Called call sheet xs r ys) where
  pub refused_call : (e : AeroError) → r.outcome ≡ Err e → (decision call sheet (cells_lent xs) ≡ Err e) × (r.sheet ≡ sheet) × (ys ≡ xs)
  refused_call = refused_answer (decision call sheet (cells_lent xs)) sheet (sheet_after call sheet) xs (lent_after call sheet xs) r ys c.answer c.left

  pub accepted_call : r.outcome ≡ Ok tt → (decision call sheet (cells_lent xs) ≡ Ok tt) × (r.sheet ≡ sheet_after call sheet) × (ys ≡ lent_after call sheet xs)
  accepted_call = accepted_answer (decision call sheet (cells_lent xs)) sheet (sheet_after call sheet) xs (lent_after call sheet xs) r ys c.answer c.left

module _ {s : Settings} {xs : Lent} {r : Answer} {ys : Lent} (c : Opened s xs r ys) where
  pub refused_open : (e : AeroError) → r.outcome ≡ Err e → (settings_test s (cells_lent xs) ≡ Err e) × (r.sheet ≡ blank s) × (ys ≡ xs)
  refused_open = refused_answer (settings_test s (cells_lent xs)) (blank s) (blank s) xs (rewritten whole (contents_of (blank s)) xs) r ys c.answer c.left

  pub accepted_open : r.outcome ≡ Ok tt → (settings_test s (cells_lent xs) ≡ Ok tt) × (r.sheet ≡ blank s) × (ys ≡ rewritten whole (contents_of (blank s)) xs)
  accepted_open = accepted_answer (settings_test s (cells_lent xs)) (blank s) (blank s) xs (rewritten whole (contents_of (blank s)) xs) r ys c.answer c.left

-- ---- an accepted part leaves a sheet within its bounds

-- a part inserted makes one part more, wherever it goes
inserted : (sheet : Sheet) (place : ℕ) (part : Part) → length (after (insert place part) sheet).parts ≡ min sheet.design.count (length sheet.design.parts) + 1
inserted sheet place part =
    let ps = (contents_of sheet).parts in
    let a = length-append (take place ps) (part ∷ drop place ps) in
    let b = length-take place ps in
    let c = length-drop place ps in
    let d = length-take sheet.design.count sheet.design.parts in
    omega (arith, a, b, c, d)

pub one_more : (sheet : Sheet) (part : Part) → length (after (insert_last sheet part) sheet).parts ≡ min sheet.design.count (length sheet.design.parts) + 1
one_more sheet part = inserted sheet (last_place sheet) part

pub record Inserted (sheet : Sheet) (cells : ℕ) : Type 0 where
  pub fits : Fits sheet cells
  pub room : sheet.design.count < most_parts

pub accepted_part : (sheet : Sheet) (cells : ℕ) (part : Part) → decision (insert_last sheet part) sheet cells ≡ Ok tt → Inserted sheet cells
accepted_part sheet cells part e =
    let call = insert_last sheet part in
    let f = call_facts call sheet cells (both_passed (call_test call sheet cells) (tries call (after call sheet)) e).first in
    record { fits = f.fits; room = f.within.1 }

pub fits_after : (sheet : Sheet) (part : Part) (cells : ℕ) → decision (insert_last sheet part) sheet cells ≡ Ok tt → Fits (sheet_then sheet part) cells
fits_after sheet part cells d =
    let f = accepted_part sheet cells part d in
    let m = one_more sheet part in
    record { finishes = f.fits.finishes; columns = f.fits.columns; parts = omega (arith, m, f.room); room = f.fits.room }

-- an opened sheet is within its bounds
pub fits_open : (s : Settings) (cells : ℕ) → settings_test s cells ≡ Ok tt → Fits (blank s) cells
fits_open s cells d = let f = settings_facts s cells d in record { finishes = f.finishes; columns = f.columns; parts = omega arith; room = f.room }

-- ---- a run's contract, once it is known where the run stops

pub stopped_at_lem : (ran : Ran) (card : ℕ) (o : Check) (sheet : Sheet) (ys : Lent) (r : Run) → ran ≡ stopped_at card o sheet ys
    → r ≡ record { outcome = o; card = card; sheet = sheet } → card ≤ most_parts + 1 → (o ≡ Ok tt → Fits sheet (cells_lent ys)) → Stopped ran r ys
stopped_at_lem ran card o sheet ys r e i h k =
    let n : r.card ≡ card = ap (λ (x : Run). x.card) i in
    record {
      answer = i ∙ sym (ap (λ (x : Ran). x.run) e);
      left = sym (ap (λ (x : Ran). x.lent) e);
      card = omega arith;
      fits = λ a. subst (λ (z : Sheet). Fits z (cells_lent ys)) (sym (ap (λ (x : Run). x.sheet) i)) (k (sym (ap (λ (x : Run). x.outcome) i) ∙ a));
    }

-- ---- the settings card is asked of every stream that has a byte

pub first_of_some : (s : List ℕ) → 0 < length s → first_read s ≡ settings_at s 0
first_of_some [] h = absurd (omega arith)
first_of_some (b ∷ s) h = refl

-- ---- a stream whose settings card reads as `card`

module _ (s : List ℕ) (xs : Lent) (card : FirstCard) (i : card ≡ first_card s) where
  pub stream_unread : (e : AeroError) → card.outcome ≡ Err e → stream_of s xs ≡ stopped_at 0 (Err e) (blank card.settings) xs
  unfolding stream_of
  stream_unread e o = rw (← i, o)

  pub stream_unopened : (e : AeroError) → card.outcome ≡ Ok tt → settings_test card.settings (cells_lent xs) ≡ Err e
      → stream_of s xs ≡ stopped_at 0 (Err e) (blank card.settings) xs
  unfolding stream_of
  stream_unopened e o t = rw (← i, o, t)

  pub stream_opened : card.outcome ≡ Ok tt → settings_test card.settings (cells_lent xs) ≡ Ok tt
      → stream_of s xs ≡ all_part_cards s card.next (blank card.settings) (rewritten whole (contents_of (blank card.settings)) xs)
  unfolding stream_of
  stream_opened o t = rw (← i, o, t)

  -- of a stream that is accepted the card was read and its settings passed
  pub stream_passed : outcome (stream_of s xs) ≡ Ok tt → (card.outcome ≡ Ok tt) × (settings_test card.settings (cells_lent xs) ≡ Ok tt)
  stream_passed o = by card.outcome (settings_test card.settings (cells_lent xs)) refl refl
    where
      by : (c d : Check) → card.outcome ≡ c → settings_test card.settings (cells_lent xs) ≡ d → (card.outcome ≡ Ok tt) × (settings_test card.settings (cells_lent xs) ≡ Ok tt)
      by (Err e) d p q = never (ap outcome (stream_unread e p)) o
      by (Ok _) (Err e) p q = never (ap outcome (stream_unopened e p q)) o
      by (Ok _) (Ok _) p q = (p, q)
