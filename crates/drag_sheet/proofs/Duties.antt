-- What each call owes: the cells outside its scope are the same in the build of what stood and of what stands then (a part's row depends on that part and on the
-- d before it, a column stands by itself), and the rows that it tries decide where the rows of what stood could be built. Then the one law over calls (`call_holds`):
-- what a call writes over cells that hold the build of what stood leaves cells that hold the build of what stands then.
use Rattle.std.specs.Prelude.{Ok}
use mathlib.Core.Path.{◌≡◌, refl, sym, ap, ◌∙◌}
use mathlib.Core.Logic.{dite, ◌≢◌}
use mathlib.Core.List.{List, [], ◌∷◌, ◌++◌}
use Prim.Native.Nat.{ℕ, zero, suc, ◌+◌, ◌≤◌, ◌<◌}
use native.Mathlib.Decide.{dec_lt}
use native.Mathlib.Omega.{arith}
use lib.ListN.{length, set, length-set}
use lib.Seq.{get_or-set_other}
use lib.Ieee.{Float}
use borrow.Author.Tests.{lt-ltb, le-ltb}
use Rattle.aero_error.specs.Checks.{◌then◌, up_to}
use Rattle.aero_error.specs.CheckLaws.{both_passed, then_passed, up_each, up_only, up_two, up_same}
use Rattle.sheet_data.specs.declared.Part.{Part}
use Rattle.sheet_data.specs.Layout.{most_parts, friction_row, base_row, total_row}
use Rattle.sheet_data.specs.Contents.{Contents, fore_at, mach_at, reynolds_at}
use Rattle.sheet_data.specs.Tables.{tab_same}
use Rattle.sheet_data.specs.Rows.{from, Unnamed, Below}
use Rattle.sheet_data.specs.RowLaws.{before_all, below_append, unnamed_append}
use Rattle.drag_sheet.specs.Formulas.{cell_from, ready_test, made_test, friction_cell, base_cell}
use Rattle.drag_sheet.specs.Planes.{Plane}
use Rattle.drag_sheet.specs.Build.{Kind, part, friction, base, total, kind_at, prepared_at, part_cell, kind_cell, row_test, trial, cell_at, row_of}
use Rattle.drag_sheet.specs.Writing.{rows, overwritten}
use Rattle.drag_sheet.specs.Calls.{Call, replace, insert, remove, set_column, ignite, burnout, with_nozzle, applied, tries, column_trial, replaced_rows, nozzle_rows, body_rows, scope}
use Rattle.drag_sheet.proofs.RowKinds.{kind_part, same_trial, above_base}
use Rattle.drag_sheet.proofs.Columns.{same_mach, same_reynolds}
use Rattle.drag_sheet.proofs.Overwritten.{Holds, Inside, rows_hold, column_holds, whole_holds}
use Rattle.drag_sheet.proofs.Laying.{body_below, body_outside}
use Rattle.drag_sheet.proofs.Answers.{Bounds}

-- ---- replace

named_append : (ns ms : List ℕ) (r : ℕ) → Unnamed ns r → Unnamed ms r → Unnamed (ns ++ ms) r
named_append [] ms r u v = v
named_append (n ∷ ns) ms r u v = (u.0, named_append ns ms r u.1 v)

module _ (c : Contents) (place : ℕ) (p : Part) where
  -- a part's row that is not its own isn't named, and the one after it only where a part stands there
  pub body_not_part : (r : ℕ) → r < most_parts → r ≢ place → (r ≡ place + 1 → length (set c.parts place p) ≤ place + 1) → Unnamed (body_rows c.settings.finishes ++ replaced_rows place (length (set c.parts place p))) r
  unfolding body_rows
  body_not_part r h a b = (
    (λ e. omega arith),
    named_append (from (friction_row 0) c.settings.finishes) (replaced_rows place (length (set c.parts place p))) r (before_all (friction_row 0) c.settings.finishes r h)
        (dite (dec_lt (place + 1) (length (set c.parts place p)))
        (λ l. rw (lt-ltb (place + 1) (length (set c.parts place p)) l) ((λ e. omega (arith, b e)), (a, tt)))
        (λ l. rw (le-ltb (place + 1) (length (set c.parts place p)) (omega arith)) (a, tt))),
  )

module _ (c : Contents) (place : ℕ) (p : Part) (inside : place < length c.parts) where
  abbrev new : Contents
  new = applied (replace place p) c

  same_fore : (r : ℕ) → r ≢ place + 1 → fore_at (set c.parts place p) r ≡ fore_at c.parts r
  unfolding fore_at
  same_fore zero u = refl
  same_fore (suc r) u = ap (λ (q : Part). q.aft_diameter) (get_or-set_other c.parts place r p _ (λ e. u (omega arith)))

  same_prepared : (r : ℕ) → r ≢ place → r ≢ place + 1 → prepared_at new r ≡ prepared_at c r
  same_prepared r a b = rw (same_fore r b, get_or-set_other c.parts place r p _ a)

  -- a row that isn't replaced and has a part isn't the next one
  unnamed_part : (r : ℕ) → r < length c.parts → Unnamed (replaced_rows place (length c.parts)) r → (r ≢ place) × (r ≢ place + 1)
  unnamed_part r h u =
      dite (dec_lt (place + 1) (length c.parts))
      (λ l. let v : Unnamed ((place + 1) ∷ place ∷ []) r = rw (lt-ltb (place + 1) (length c.parts) l) at u in (v.1.0, v.0))
      (λ l. let v : Unnamed (place ∷ []) r = rw (le-ltb (place + 1) (length c.parts) (omega arith)) at u in (v.0, λ e. omega arith))

  same_row : {A : Type 0} (P : Plane A) (r : ℕ) → r < total_row c.settings.finishes 0 → Unnamed (body_rows c.settings.finishes ++ replaced_rows place (length c.parts)) r → row_of P c r ≡ row_of P new r
  unfolding kind_cell part_cell
  same_row P r h u =
      let v = unnamed_append (body_rows c.settings.finishes) (replaced_rows place (length c.parts)) r u in
      let few = body_outside c.settings.finishes r h v.0 in
      tab_same c.settings.count _ _ (λ k m. rw (kind_part c.settings.finishes r few, length-set c.parts place p)
      (dite (dec_lt r (length c.parts))
      (λ l. let w = unnamed_part r l v.1 in rw (same_prepared r w.0 w.1))
      (λ l. rw (le-ltb r (length c.parts) (omega arith)))))

  replace_below : length c.parts ≤ most_parts → Below (total_row c.settings.finishes 0) (body_rows c.settings.finishes ++ replaced_rows place (length c.parts))
  replace_below few = below_append (total_row c.settings.finishes 0) (body_rows c.settings.finishes) (replaced_rows place (length c.parts)) (body_below c.settings.finishes)
      (dite (dec_lt (place + 1) (length c.parts))
      (λ l. rw (lt-ltb (place + 1) (length c.parts) l) (omega arith, (omega arith, tt)))
      (λ l. rw (le-ltb (place + 1) (length c.parts) (omega arith)) (omega arith, tt)))

  replace_tries : trial c ≡ Ok tt → tries (replace place p) new ≡ trial new
  unfolding tries trial row_test
  replace_tries ok =
      let n = length c.parts in
      let long : length (set c.parts place p) ≡ n = length-set c.parts place p in
      let others : (i : ℕ) → i < n → i ≢ place → i ≢ place + 1 → row_test new i ≡ Ok tt = λ i l a b. same_test i a b ∙ up_each (row_test c) n ok i l in
      dite (dec_lt (place + 1) n)
      (λ l. rw (long, lt-ltb (place + 1) n l) (sym (up_two (row_test new) place n l others)))
      (λ l. rw (long, le-ltb (place + 1) n (omega arith), then_passed (row_test new place)) (sym (up_only (row_test new) place n inside (λ i m a. others i m a (λ e. omega arith)))))
    where
      same_test : (i : ℕ) → i ≢ place → i ≢ place + 1 → row_test new i ≡ row_test c i
      same_test i a b = ap (λ q. ready_test q then up_to c.settings.count (λ k. made_test (cell_from q (mach_at c.settings k)))) (same_prepared i a b)

-- ---- set column

module _ (c : Contents) (k : ℕ) (M R : Float) where
  abbrev put : Contents
  put = applied (set_column k M R) c

  other_kind : {A : Type 0} (P : Plane A) (kind : Kind) (N S : Float) → kind_cell P c kind N S ≡ kind_cell P put kind N S
  unfolding kind_cell part_cell friction_cell base_cell
  other_kind P (part i) N S = refl
  other_kind P (friction j) N S = refl
  other_kind P base N S = refl
  other_kind P (total j) N S = refl

  other_column : {A : Type 0} (P : Plane A) (r i : ℕ) → i ≢ k → cell_at P c r i ≡ cell_at P put r i
  other_column P r i u = rw (same_mach c.settings k M R i u, same_reynolds c.settings k M R i u) (other_kind P (kind_at c.settings.finishes r) (mach_at c.settings i) (reynolds_at c.settings i))

  column_tries : k < c.settings.count → trial c ≡ Ok tt → tries (set_column k M R) put ≡ trial put
  unfolding tries trial row_test column_trial
  column_tries h ok = up_same _ _ (length c.parts) (λ i l.
      let b = both_passed (ready_test (prepared_at c i)) _ (up_each _ (length c.parts) ok i l) in
      ap (λ t. ready_test (prepared_at c i) then t) (sym (up_only _ k c.settings.count h (λ j m u. rw (same_mach c.settings k M R j u) (up_each _ c.settings.count b.second j m)))))

-- ---- ignite and burnout

nozzle_below : (F : ℕ) → Below (total_row F 0) (nozzle_rows F)
nozzle_below F = (omega arith, tt)

module _ (n : Float) (c : Contents) where
  -- no part's row depends on the nozzle diameter
  nozzle_tries : trial c ≡ Ok tt → Ok tt ≡ trial (with_nozzle n c)
  nozzle_tries ok = sym (same_trial n c ∙ ok)

  nozzle_holds : {A : Type 0} (P : Plane A) (xs : List A) → Holds P c xs → Holds P (with_nozzle n c) (overwritten P (rows (nozzle_rows c.settings.finishes)) (with_nozzle n c) xs)
  nozzle_holds P xs h = rows_hold P (with_nozzle n c) xs h.room (nozzle_rows c.settings.finishes) (nozzle_below c.settings.finishes) (λ r l u. let k : r ≢ base_row c.settings.finishes = u.0 in h.rows r (omega arith) ∙ sym (above_base n c P r (omega arith)))

-- ---- every call

-- the rows that a call tries decide, where the rows of what stood could be built
pub narrow : (call : Call) (c : Contents) → Bounds call c.settings (length c.parts) → trial c ≡ Ok tt → tries call (applied call c) ≡ trial (applied call c)
unfolding tries
narrow (replace place p) c b ok = replace_tries c place p b ok
narrow (insert place p) c b ok = refl
narrow (remove place) c b ok = refl
narrow (set_column k M R) c b ok = column_tries c k M R b ok
narrow (ignite n) c b ok = nozzle_tries n c ok
narrow burnout c b ok = nozzle_tries _ c ok

pub scope_inside : (call : Call) (c : Contents) → Bounds call c.settings (length c.parts) → length c.parts ≤ most_parts → Inside (scope call (applied call c)) c.settings.finishes c.settings.count
scope_inside (replace place p) c b few = rw (length-set c.parts place p) (replace_below c place p b few)
scope_inside (insert place p) c b few = tt
scope_inside (remove place) c b few = tt
scope_inside (set_column k M R) c b few = b
scope_inside (ignite n) c b few = nozzle_below c.settings.finishes
scope_inside burnout c b few = nozzle_below c.settings.finishes

-- THE LAW over calls, for either plane
pub call_holds : {A : Type 0} (P : Plane A) (call : Call) (c : Contents) (xs : List A) → Bounds call c.settings (length c.parts) → length c.parts ≤ most_parts → Holds P c xs
    → Holds P (applied call c) (overwritten P (scope call (applied call c)) (applied call c) xs)
call_holds P (replace place p) c xs b few h =
    rw (length-set c.parts place p)
    (rows_hold P (applied (replace place p) c) xs h.room _ (replace_below c place p b few) (λ r l u. h.rows r (omega arith) ∙ same_row c place p b P r l u))
call_holds P (insert place p) c xs b few h = whole_holds P (applied (insert place p) c) xs h.room
call_holds P (remove place) c xs b few h = whole_holds P (applied (remove place) c) xs h.room
call_holds P (set_column k M R) c xs b few h = column_holds P (applied (set_column k M R) c) xs h.room k c refl refl h (other_column c k M R P)
call_holds P (ignite n) c xs b few h = nozzle_holds n c P xs h
call_holds P burnout c xs b few h = nozzle_holds _ c P xs h
