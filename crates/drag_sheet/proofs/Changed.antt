-- The rows of a replaced part written one after the other are the rows that its call names; and the sheets that the calls leave are those with the contents left.
use Rattle.std.specs.Prelude.{Ok}
use Rattle.aero_error.specs.Checks.{◌then◌, Check}
use mathlib.Core.Path.{◌≡◌, refl, sym, ap, ◌∙◌}
use mathlib.Core.Bool.{true, false}
use mathlib.Core.List.{List, [], ◌∷◌, ◌++◌}
use Prim.Native.Nat.{ℕ, ◌+◌, ◌-◌, ◌*◌, ◌≤◌, ◌<◌}
use native.Mathlib.Omega.{arith}
use lib.ListN.{length, take, drop, set, length-set, take-append-drop}
use lib.Seq.{length-take-le, take-set-lt, drop-set-lt}
use lib.Dec.{ltb}
use lib.Ieee.{Float}
use Rattle.sheet_data.specs.declared.Part.{Part}
use Rattle.sheet_data.specs.declared.Design.{Design}
use Rattle.sheet_data.specs.declared.Sheet.{Sheet}
use Rattle.sheet_data.specs.Layout.{most_parts}
use Rattle.sheet_data.specs.Contents.{Contents, contents_of, parts_of}
use Rattle.sheet_data.specs.Rows.{written, rows_written}
use Rattle.sheet_data.specs.RowLaws.{rows_append}
use Rattle.drag_sheet.specs.Planes.{Plane, cell_plane, mark_plane, Lent, cells_lent}
use Rattle.drag_sheet.specs.Build.{row_test, row_of}
use Rattle.drag_sheet.specs.Writing.{chosen, rows, totalled, overwritten}
use Rattle.drag_sheet.specs.Calls.{Answer, Call, replace, insert, remove, insert_at, remove_at, with_nozzle, row_test_where, replaced_rows, nozzle_rows, body_rows, tries, scope, after, call_test, sheet_with, answered, Called}
use Rattle.drag_sheet.specs.Edits.{replaced_in, Changed, NextWritten, NozzlePut}
use Rattle.drag_sheet.proofs.Answers.{called, contents_with, both_chosen}
use Rattle.drag_sheet.proofs.Slots.{inserted_long, removed_long}

module _ {A : Type 0} (P : Plane A) (c : Contents) (xs : List A) (place : ℕ) where
  abbrev C : ℕ
  C = c.settings.count

  pub next_steps : (own row a b d : List A) (i j : ℕ) → i ≡ place * c.settings.count → j ≡ (place + 1) * c.settings.count → row ≡ row_of P c (place + 1)
      → a ≡ written i own xs → b ≡ written j row a → d ≡ totalled P c.settings.finishes c.settings.count (rows_written c.settings.count (row_of P c) (body_rows c.settings.finishes) b)
      → d ≡ overwritten P (rows (body_rows c.settings.finishes ++ (place + 1) ∷ [])) c (written (place * c.settings.count) own xs)
  unfolding overwritten rows_written
  next_steps own row a b d i j p q e k l m = m ∙ rw (l, k, p, q, e, rows_append C (row_of P c) (body_rows c.settings.finishes) ((place + 1) ∷ []) (written (place * C) own xs))

  pub own_steps : (row a d : List A) (i : ℕ) → i ≡ place * c.settings.count → row ≡ row_of P c place → a ≡ written i row xs
      → d ≡ totalled P c.settings.finishes c.settings.count (rows_written c.settings.count (row_of P c) (body_rows c.settings.finishes) a) → d ≡ overwritten P (rows (body_rows c.settings.finishes ++ place ∷ [])) c xs
  unfolding overwritten rows_written
  own_steps row a d i p e k m = m ∙ rw (k, p, e, rows_append C (row_of P c) (body_rows c.settings.finishes) (place ∷ []) xs)

  pub pair_rows : (own : List A) → own ≡ row_of P c place
      → overwritten P (rows (body_rows c.settings.finishes ++ (place + 1) ∷ [])) c (written (place * c.settings.count) own xs) ≡ overwritten P (rows (body_rows c.settings.finishes ++ (place + 1) ∷ place ∷ [])) c xs
  unfolding overwritten rows_written
  pair_rows own e = rw (e, rows_append C (row_of P c) (body_rows c.settings.finishes) ((place + 1) ∷ []) (written (place * C) (row_of P c place) xs), rows_append C (row_of P c) (body_rows c.settings.finishes) ((place + 1) ∷ place ∷ []) xs)

-- the contract of the rows that change, where the part's own row is built and a part follows, and where none does
module _ {A : Type 0} (P : Plane A) (sheet : Sheet) (place : ℕ) (ok : row_test (contents_of sheet) place ≡ Ok tt) (count : length (parts_of sheet.design) ≡ sheet.design.count) where
  pub two_changed : ltb (place + 1) sheet.design.count ≡ true → {own xs ys : List A} {r : Check} → own ≡ row_of P (contents_of sheet) place → NextWritten P sheet place own xs r ys → Changed P sheet place xs r ys
  two_changed more {own} {xs} e w = record { verdict = w.verdict ∙ rw (ok, count, more); cells = w.cells ∙ rw (ok, count, more, pair_rows P (contents_of sheet) xs place own e) }

  pub one_changed : ltb (place + 1) sheet.design.count ≡ false → {xs ys : List A} → ys ≡ overwritten P (rows (body_rows sheet.settings.finishes ++ place ∷ [])) (contents_of sheet) xs → Changed P sheet place xs (Ok tt) ys
  one_changed last h = record { verdict = rw (ok, count, last); cells = h ∙ rw (ok, count, last) }

-- ---- the sheets that are left

module _ (sheet : Sheet) (slots : length sheet.design.parts ≡ most_parts) (few : sheet.design.count ≤ most_parts) where
  abbrev d : Design
  d = sheet.design

  pub parts_long : length (parts_of sheet.design) ≡ sheet.design.count
  parts_long = length-take-le d.count d.parts (omega arith)

  pub inserted_sheet : (place : ℕ) (p : Part) (new : List Part) → place ≤ sheet.design.count
      → new ≡ insert_at place p (take sheet.design.count sheet.design.parts) ++ drop (sheet.design.count + 1) sheet.design.parts
      → record { settings = sheet.settings; design = record { count = sheet.design.count + 1; parts = new }; nozzle_diameter = sheet.nozzle_diameter } ≡ sheet_with (after (insert place p) sheet) sheet
  inserted_sheet place p new h e =
      let n : length (insert_at place p (parts_of d)) ≡ d.count + 1 = inserted_long (parts_of d) place p (omega (arith, parts_long)) ∙ ap (λ k. k + 1) parts_long in
      rw (e, n)

  pub removed_sheet : (place : ℕ) (new : List Part) → place < sheet.design.count
      → new ≡ remove_at place (take sheet.design.count sheet.design.parts) ++ drop (sheet.design.count - 1) sheet.design.parts
      → record { settings = sheet.settings; design = record { count = sheet.design.count - 1; parts = new }; nozzle_diameter = sheet.nozzle_diameter } ≡ sheet_with (after (remove place) sheet) sheet
  removed_sheet place new h e =
      let n : length (remove_at place (parts_of d)) ≡ d.count - 1 = omega (arith, removed_long (parts_of d) place (omega (arith, parts_long)), parts_long) in
      rw (e, n)

  -- the parts that count and the slots after them
  split : d.parts ≡ parts_of d ++ drop d.count d.parts
  split = sym (take-append-drop d.count d.parts)

  pub replaced_sheet : (place : ℕ) (p : Part) → place < sheet.design.count
      → record { settings = sheet.settings; design = replaced_in sheet.design place p; nozzle_diameter = sheet.nozzle_diameter } ≡ sheet_with (after (replace place p) sheet) sheet
  replaced_sheet place p h =
      let n : length (set (parts_of d) place p) ≡ d.count = length-set (parts_of d) place p ∙ parts_long in
      let new : set d.parts place p ≡ set (parts_of d) place p ++ drop d.count d.parts =
      sym (take-append-drop d.count (set d.parts place p)) ∙ rw (take-set-lt d.count d.parts place p h, drop-set-lt d.count d.parts place p h) in
      rw (n, new)

  pub nozzle_sheet : (n : Float) → record { settings = sheet.settings; design = sheet.design; nozzle_diameter = n } ≡ sheet_with (with_nozzle n (contents_of sheet)) sheet
  nozzle_sheet n = rw parts_long (ap (λ ps. record { settings = sheet.settings; design = record { count = d.count; parts = ps }; nozzle_diameter = n }) split)

-- ---- a replaced part's rows written: the contract

-- what a plane's part of it says of the call
module _ (sheet left : Sheet) (place : ℕ) (p : Part) (n : left ≡ sheet_with (after (replace place p) sheet) sheet) where
  changed_contents : contents_of left ≡ after (replace place p) sheet
  changed_contents = ap contents_of n ∙ contents_with (after (replace place p) sheet) sheet

  pub changed_verdict : {A : Type 0} {P : Plane A} {xs ys : List A} {test : Check} → Changed P left place xs test ys → test ≡ tries (replace place p) (after (replace place p) sheet)
  unfolding tries
  changed_verdict f = f.verdict ∙ ap (λ (x : Contents). row_test x place then row_test_where x (place + 1)) changed_contents

  pub changed_cells : {A : Type 0} {P : Plane A} {xs ys : List A} {test : Check} → Changed P left place xs test ys
      → ys ≡ chosen (tries (replace place p) (after (replace place p) sheet)) xs (overwritten P (scope (replace place p) (after (replace place p) sheet)) (after (replace place p) sheet) xs)
  unfolding tries
  changed_cells {P = P} {xs = xs} f =
      let new = after (replace place p) sheet in
      let k : left.design.count ≡ length new.parts = ap (λ (s : Sheet). s.design.count) n in
      f.cells
      ∙ ap (λ (x : Contents). chosen (row_test x place then row_test_where x (place + 1)) xs (overwritten P (rows (body_rows x.settings.finishes ++ replaced_rows place left.design.count)) x xs)) changed_contents
      ∙ ap (λ (m : ℕ). chosen (row_test new place then row_test_where new (place + 1)) xs (overwritten P (rows (body_rows new.settings.finishes ++ replaced_rows place m)) new xs)) k

pub called_changed : (sheet left : Sheet) (place : ℕ) (p : Part) (xs : Lent) (test : Check) (r : Answer) (ys : Lent) → call_test (replace place p) sheet (cells_lent xs) ≡ Ok tt
    → left ≡ sheet_with (after (replace place p) sheet) sheet → Changed cell_plane left place xs.cells test ys.cells → Changed mark_plane left place xs.marks test ys.marks → r ≡ answered test sheet left → Called (replace place p) sheet xs r ys
called_changed sheet left place p xs test r ys ok n f g a =
    let t = changed_verdict sheet left place p n f in
    called (replace place p) sheet xs r ys test left ok t n a (both_chosen _ xs ys _ _ (changed_cells sheet left place p n f) (changed_cells sheet left place p n g) ∙ rw t)

-- ---- a nozzle diameter put: the contract

pub called_nozzle : (call : Call) (n : Float) (sheet left : Sheet) (xs ys : Lent) → call_test call sheet (cells_lent xs) ≡ Ok tt → tries call (after call sheet) ≡ Ok tt
    → after call sheet ≡ with_nozzle n (contents_of sheet) → scope call (after call sheet) ≡ rows (nozzle_rows sheet.settings.finishes) → NozzlePut n sheet xs left ys → Called call sheet xs (record { outcome = Ok tt; sheet = left }) ys
called_nozzle call n sheet left xs ys passed none new only f =
    called call sheet xs _ ys (Ok tt) left passed (sym none) (f.sheet_left ∙ ap (λ (c : Contents). sheet_with c sheet) (sym new)) refl (f.both ∙ rw (only, new))
