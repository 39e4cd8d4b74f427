-- The slots of a design as insert and remove leave them: some parts copied one slot up or down.
use Rattle.std.specs.Prelude.{◌≡◌, List, [], ◌∷◌, ◌++◌, ℕ, suc, ◌+◌, ◌-◌, ◌≤◌, ◌<◌, length, get_or, take, drop, set}
use Rattle.std.proofs.Common.{sym, ap, ◌∙◌, append_assoc, add-one, arith, length-take-le, length-append, length-drop, take-append-drop}
use Rattle.std.proofs.lemmas.List.{drop-take}
use lib.Seq.{set_split, take_at, take-add, take-take, drop_at, drop-drop, get_or-append-add, get_or-drop}
use Rattle.sheet_data.specs.declared.Part.{Part}
use Rattle.drag_sheet.specs.Calls.{insert_at, remove_at}

-- ---- how many parts there are then

pub inserted_long : (ps : List Part) (place : ℕ) (p : Part) → place ≤ length ps → length (insert_at place p ps) ≡ length ps + 1
inserted_long ps place p h = rw (length-append (take place ps) (p ∷ drop place ps), length-take-le place ps h, length-drop place ps) (omega arith)

pub removed_long : (ps : List Part) (place : ℕ) → place < length ps → length (remove_at place ps) + 1 ≡ length ps
removed_long ps place h = rw (length-append (take place ps) (drop (place + 1) ps), length-take-le place ps (omega arith), length-drop (place + 1) ps) (omega arith)

-- ---- which part stands where

-- A part put in: before its place the parts stay, at it stands the new one, and from there on each slot has the part that stood one before.
module _ (ps : List Part) (place : ℕ) (p : Part) (h : place ≤ length ps) where
  pub inserted_at : (k : ℕ) (d : Part) → place ≤ k → get_or (insert_at place p ps) (k + 1) d ≡ get_or ps k d
  inserted_at k d l =
      let w : length (take place ps) ≡ place = length-take-le place ps h in
      let e : k + 1 ≡ length (take place ps) + suc (k - place) = omega arith in
      let f : place + (k - place) ≡ k = omega arith in
      rw (e, get_or-append-add (take place ps) (p ∷ drop place ps) (suc (k - place)) d, get_or-drop place ps (k - place) d, f)

  pub inserted_first : (slots : List Part) → length ps < length slots → take (length ps) slots ≡ ps
      → set slots place p ≡ take (place + 1) (insert_at place p ps) ++ drop (place + 1) slots
  inserted_first slots l e =
      let w : length (take place ps) ≡ place = length-take-le place ps h in
      let front : take place slots ≡ take place ps = sym (take-take place (length ps) slots h) ∙ ap (take place) e in
      set_split slots place p (omega arith)
      ∙ rw (take-add place 1 (insert_at place p ps), take_at (take place ps) (p ∷ drop place ps) place w, drop_at (take place ps) (p ∷ drop place ps) place w, add-one place, front, append_assoc)

-- A part taken out: before its place the parts stay, and from there on each slot has the part that stood one after.
module _ (ps : List Part) (place : ℕ) (h : place < length ps) where
  pub removed_at : (k : ℕ) (d : Part) → place ≤ k → get_or (remove_at place ps) k d ≡ get_or ps (k + 1) d
  removed_at k d l =
      let w : length (take place ps) ≡ place = length-take-le place ps (omega arith) in
      let e : k ≡ length (take place ps) + (k - place) = omega arith in
      let f : place + 1 + (k - place) ≡ k + 1 = omega arith in
      ap (λ j. get_or (remove_at place ps) j d) e ∙ rw (get_or-append-add (take place ps) (drop (place + 1) ps) (k - place) d, get_or-drop (place + 1) ps (k - place) d, f)

  pub removed_first : (slots : List Part) → take (length ps) slots ≡ ps → slots ≡ take place (remove_at place ps) ++ drop place slots
  removed_first slots e =
      let front : take place slots ≡ take place ps = sym (take-take place (length ps) slots (omega arith)) ∙ ap (take place) e in
      sym (rw (take_at (take place ps) (drop (place + 1) ps) place (length-take-le place ps (omega arith)), ← front) (take-append-drop place slots))

-- ---- the slots

module _ (slots : List Part) (count place : ℕ) where
  -- the parts from the place on
  rest : place ≤ count → drop place (take count slots) ≡ take (count - place) (drop place slots)
  rest h = let e : count ≡ place + (count - place) = omega arith in ap (λ (n : ℕ). drop place (take n slots)) e ∙ drop-take place (count - place) slots

  -- the part in its slot, and the parts from there on copied one slot up
  pub inserted_slots : (p : Part) → place ≤ count → count < length slots
      → take (place + 1) (set slots place p) ++ (take (count - place) (drop place slots) ++ drop (count + 1 - (place + 1)) (drop (place + 1) (set slots place p)))
      ≡ insert_at place p (take count slots) ++ drop (count + 1) slots
  inserted_slots p h l =
      let S = set slots place p in
      let T = take place slots in
      let X = take (count - place) (drop place slots) in
      let Q = drop (count + 1) slots in
      let ps = take count slots in
      let k = count + 1 - (place + 1) in
      let w : length T ≡ place = length-take-le place slots (omega arith) in
      let put : S ≡ (T ++ p ∷ []) ++ drop (place + 1) slots = set_split slots place p (omega arith) ∙ rw (add-one place, append_assoc) in
      let long : length (T ++ p ∷ []) ≡ place + 1 = rw (length-append T (p ∷ []), w) in
      let last : place + 1 + k ≡ count + 1 = omega arith in
      ap (λ (s : List Part). take (place + 1) s ++ (X ++ drop k (drop (place + 1) s))) put
      ∙ ap (λ (f : List Part). f ++ (X ++ drop k (drop (place + 1) ((T ++ p ∷ []) ++ drop (place + 1) slots)))) (take_at (T ++ p ∷ []) (drop (place + 1) slots) (place + 1) long)
      ∙ ap (λ (r : List Part). (T ++ p ∷ []) ++ (X ++ drop k r)) (drop_at (T ++ p ∷ []) (drop (place + 1) slots) (place + 1) long)
      ∙ ap (λ (r : List Part). (T ++ p ∷ []) ++ (X ++ r)) (drop-drop k (place + 1) slots ∙ ap (λ (n : ℕ). drop n slots) last)
      ∙ append_assoc T (p ∷ []) (X ++ Q)
      ∙ sym (append_assoc T (p ∷ X) Q)
      ∙ ap (λ (r : List Part). (T ++ (p ∷ r)) ++ Q) (sym (rest h))
      ∙ ap (λ (t : List Part). (t ++ (p ∷ drop place ps)) ++ Q) (sym (take-take place count slots h))

  -- the parts after the place copied one slot down
  pub removed_slots : place < count → count ≤ length slots
      → take place slots ++ (take (count - (place + 1)) (drop (place + 1) slots) ++ drop (count - 1 - place) (drop place slots))
      ≡ remove_at place (take count slots) ++ drop (count - 1) slots
  removed_slots h l =
      let T = take place slots in
      let X = take (count - (place + 1)) (drop (place + 1) slots) in
      let Q = drop (count - 1) slots in
      let ps = take count slots in
      let e : count ≡ place + 1 + (count - (place + 1)) = omega arith in
      let after : drop (place + 1) ps ≡ X = ap (λ (n : ℕ). drop (place + 1) (take n slots)) e ∙ drop-take (place + 1) (count - (place + 1)) slots in
      let last : place + (count - 1 - place) ≡ count - 1 = omega arith in
      ap (λ (r : List Part). T ++ (X ++ r)) (drop-drop (count - 1 - place) place slots ∙ ap (λ (n : ℕ). drop n slots) last)
      ∙ sym (append_assoc T X Q)
      ∙ ap (λ (r : List Part). (T ++ r) ++ Q) (sym after)
      ∙ ap (λ (t : List Part). (t ++ drop (place + 1) ps) ++ Q) (sym (take-take place count slots (omega arith)))
