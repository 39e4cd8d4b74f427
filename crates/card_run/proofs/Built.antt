-- An accepted stream's cells are one build from nothing of the settings and the parts that its cards say. It is the theorem over lists of calls (`lists_agree`) for
-- the list that a run makes: an open, and for each part card an insert at the end.
use Rattle.std.specs.Prelude.{Ok, Err}
use Rattle.aero_error.specs.Checks.{Check}
use mathlib.Core.Path.{◌≡◌, refl, sym, ap, ◌∙◌, subst}
use mathlib.Core.List.{List, [], ◌∷◌, ◌++◌, append_assoc, append-nil}
use Prim.Native.Nat.{ℕ, zero, suc, ◌+◌, ◌-◌, ◌≤◌}
use native.Mathlib.Omega.{arith}
use lib.ListN.{length, length-append}
use lib.Seq.{take-length, drop-length}
use borrow.Author.Tests.{le-ltb, lt-ltb}
use Rattle.aero_error.specs.Told.{all_told_apart}
use Rattle.sheet_data.specs.declared.Settings.{Settings}
use Rattle.sheet_data.specs.declared.Part.{Part}
use Rattle.sheet_data.specs.declared.Sheet.{Sheet}
use Rattle.sheet_data.specs.Contents.{Contents, contents_of, blank}
use Rattle.sheet_data.specs.Tests.{settings_test}
use Rattle.drag_sheet.specs.Planes.{Lent, cells_lent}
use Rattle.drag_sheet.specs.Calls.{Answer, Call, insert, insert_at, Called, Opened}
use Rattle.drag_sheet.specs.Writing.{whole, rewritten}
use Rattle.drag_sheet.specs.Model.{opened_model, model_decision, moved, model_after, model_decisions}
use Rattle.drag_sheet.specs.Lists.{Sequence, stop, go, Matches}
use Rattle.drag_sheet.proofs.TestsKept.{Tested, tested_open, tested_through}
use Rattle.drag_sheet.proofs.ListsLaw.{lists_agree}
use Rattle.cards.proofs.Arrays.{Long, LongRead, no_settings_long, settings_long}
use Rattle.cards.specs.Fields.{Read}
use Rattle.cards.specs.Cards.{settings_at}
use Rattle.card_run.specs.declared.Run.{Run}
use Rattle.card_run.specs.Run.{FirstCard, card_of, Ran, insert_last, all_part_cards, first_card, stream_of, Stopped}
use Rattle.card_run.specs.Said.{parts_said, said}
use Rattle.card_run.proofs.Stream.{sheet_then, lent_then, part_reach, cards_end, part_accepted, outcome, Turn, ended, carded, turn}
use Rattle.card_run.proofs.Prefix.{Held, one_more_held}
use Rattle.card_run.proofs.Answers.{stream_opened, stream_passed}

-- ---- the calls of a run

-- each part inserted last, the first at the place `count`
abbrev inserts : ℕ → List Part → List Call
inserts count [] = []
inserts count (p ∷ ps) = insert count p ∷ inserts (count + 1) ps

abbrev accepted : List Part → List Check
accepted [] = []
accepted (p ∷ ps) = Ok tt ∷ accepted ps

-- a part inserted at the end stands after the others
at_end : (p : Part) (ps : List Part) → insert_at (length ps) p ps ≡ ps ++ (p ∷ [])
at_end p ps = rw (take-length ps, drop-length ps)

abbrev head_of : List Check → Check
head_of [] = Ok tt
head_of (c ∷ cs) = c

abbrev tail_of : List Check → List Check
tail_of [] = []
tail_of (c ∷ cs) = cs

-- what the model holds once it has accepted them
appended : (cells : ℕ) (ps : List Part) (m : Contents) → model_decisions cells (inserts (length m.parts) ps) m ≡ accepted ps
    → model_after cells (inserts (length m.parts) ps) m ≡ record { settings = m.settings; parts = m.parts ++ ps; nozzle = m.nozzle }
unfolding model_decisions model_after
appended cells [] m e = rw (append-nil m.parts)
appended cells (p ∷ ps) m e =
    let call = insert (length m.parts) p in
    let new : Contents = record { settings = m.settings; parts = m.parts ++ (p ∷ []); nozzle = m.nozzle } in
    let d : model_decision cells call m ≡ Ok tt = ap head_of e in
    let n : length (m.parts ++ (p ∷ [])) ≡ length m.parts + 1 = length-append m.parts (p ∷ []) in
    let w : moved cells call m ≡ new = rw (d, at_end p m.parts) in
    let f : model_decisions cells (inserts (length new.parts) ps) new ≡ accepted ps =
    ap (λ (k : ℕ). model_decisions cells (inserts k ps) new) n ∙ ap (λ (z : Contents). model_decisions cells (inserts (length m.parts + 1) ps) z) (sym w) ∙ ap tail_of e in
    ap (λ (z : Contents). model_after cells (inserts (length m.parts + 1) ps) z) w
    ∙ ap (λ (k : ℕ). model_after cells (inserts k ps) new) (sym n)
    ∙ appended cells ps new f
    ∙ ap (λ (qs : List Part). record { settings = m.settings; parts = qs; nozzle = m.nozzle }) (append_assoc m.parts (p ∷ []) ps)

-- ---- a run that stops well made these calls, and each was accepted

abbrev Ends : Sheet → Lent → Ran → List Part → Type 0
Ends sheet xs ran ps = outcome ran ≡ Ok tt → Sequence sheet xs (inserts sheet.design.count ps) ran.run.sheet ran.lent (accepted ps)

-- one turn, where what follows it is known
module _ (n : ℕ) (s : List ℕ) (at : ℕ) (sheet : Sheet) (xs : Lent) (held : Held sheet)
    (again : (part : Part) (next : ℕ) → at + 1 ≤ next → Ends (sheet_then sheet part) (lent_then sheet part xs) (all_part_cards s next (sheet_then sheet part) (lent_then sheet part xs)) (parts_said n s next)) where
  called : Turn s at sheet xs → Ends sheet xs (all_part_cards s at sheet xs) (parts_said (suc n) s at)
  unfolding parts_said
  called (ended l) o = rw (cards_end s at sheet xs l, le-ltb at (length s) l) stop
  called (carded part next h p d) o =
      let r : Answer = record { outcome = Ok tt; sheet = sheet_then sheet part } in
      let c : Called (insert_last sheet part) sheet xs r (lent_then sheet part xs) = record { answer = rw d; left = rw d } in
      let same = part_accepted s at sheet xs part next h p d in
      let rest = all_part_cards s next (sheet_then sheet part) (lent_then sheet part xs) in
      rw (same, lt-ltb at (length s) h, p)
      (go c (subst (λ (k : ℕ). Sequence (sheet_then sheet part) (lent_then sheet part xs) (inserts k (parts_said n s next)) rest.run.sheet rest.lent (accepted (parts_said n s next)))
      (one_more_held sheet part held).0 (again part next (part_reach s at part next p).0 (ap outcome (sym same) ∙ o))))

sequence : (n : ℕ) (s : List ℕ) (at : ℕ) (sheet : Sheet) (xs : Lent) → Held sheet → length s - at ≤ n → Ends sheet xs (all_part_cards s at sheet xs) (parts_said n s at)
unfolding parts_said
sequence zero s at sheet xs h l o = rw (cards_end s at sheet xs (omega arith)) stop
sequence (suc n) s at sheet xs h l o =
    called n s at sheet xs h (λ part next k. sequence n s next (sheet_then sheet part) (lent_then sheet part xs) (one_more_held sheet part h).1 (omega arith)) (turn s at sheet xs o) o

-- ---- the whole stream

first_arrays : (s : List ℕ) → Long (first_card s).settings
first_arrays [] = (refl, refl, refl)
first_arrays (b ∷ s) = by (settings_at (b ∷ s) 0) (settings_long (b ∷ s) 0)
  where
    by : (r : Read Settings) → LongRead r → Long (card_of r).settings
    by (Ok (settings, next)) h = h
    by (Err e) h = no_settings_long

module _ (s : List ℕ) (xs : Lent) where
  abbrev card : FirstCard
  card = first_card s

  abbrev opened : Ran
  opened = all_part_cards s card.next (blank card.settings) (rewritten whole (contents_of (blank card.settings)) xs)

  -- what the model holds then is what the cards say, and it passes the tests of a sheet given
  built_from : settings_test card.settings (cells_lent xs) ≡ Ok tt → outcome opened ≡ Ok tt → Matches opened.run.sheet opened.lent (said s) × Tested (said s) (cells_lent xs)
  built_from t o =
      let sheet = blank card.settings in
      let ys = rewritten whole (contents_of sheet) xs in
      let ps = parts_said (length s) s card.next in
      let answer : Answer = record { outcome = Ok tt; sheet = sheet } in
      let z : Opened card.settings xs answer ys = record { answer = rw t; left = rw t } in
      let long = first_arrays s in
      let a = (lists_agree card.settings xs answer ys long.1 long.2 z).accepted refl (sequence (length s) s card.next sheet ys (omega arith) (omega arith) o) in
      let d : model_decisions (cells_lent xs) (inserts 0 ps) (opened_model card.settings) ≡ accepted ps = sym (all_told_apart _ _ a.answers) in
      let model = appended (cells_lent xs) ps (opened_model card.settings) d in
      let tested = tested_through (cells_lent xs) (inserts 0 ps) (opened_model card.settings) (tested_open card.settings (cells_lent xs) t) in
      (subst (Matches opened.run.sheet opened.lent) model a.matches, subst (λ (c : Contents). Tested c (cells_lent xs)) model tested)

  both : outcome (stream_of s xs) ≡ Ok tt → Matches (stream_of s xs).run.sheet (stream_of s xs).lent (said s) × Tested (said s) (cells_lent xs)
  both o =
      let q = stream_passed s xs card refl o in
      let e = stream_opened s xs card refl q.0 q.1 in
      rw e (built_from q.1 (ap outcome (sym e) ∙ o))

  -- the settings and the design are what the cards say, and the rows are one build of them
  pub stream_built : outcome (stream_of s xs) ≡ Ok tt → Matches (stream_of s xs).run.sheet (stream_of s xs).lent (said s)
  stream_built o = (both o).0

  -- and they pass the tests of a sheet given
  pub stream_tested : outcome (stream_of s xs) ≡ Ok tt → Tested (said s) (cells_lent xs)
  stream_tested o = (both o).1

-- the same of what `run_stream` answers and leaves
pub run_built : (s : List ℕ) (xs : Lent) (r : Run) (ys : Lent) → Stopped (stream_of s xs) r ys → r.outcome ≡ Ok tt → Matches r.sheet ys (said s)
run_built s xs r ys z o = rw (z.answer, z.left) (stream_built s xs (ap (λ (x : Run). x.outcome) (sym z.answer) ∙ o))
