-- From what a call's functions say to what its contract says: what passed tests show, a refused call, all rows written, the rows of a replaced part written.
use Rattle.std.specs.Prelude.{Ok, Err}
use Rattle.aero_error.specs.Checks.{unless, Check}
use mathlib.Core.Path.{◌≡◌, refl, ap, ◌∙◌}
use Prim.Native.Nat.{ℕ, ◌≤◌, ◌<◌}
use native.Mathlib.Omega.{arith}
use lib.ListN.{length, drop}
use lib.Seq.{take_at}
use lib.Dec.{ltb, leb}
use borrow.Author.Tests.{ltb-false, leb-false}
use Rattle.aero_error.specs.declared.AeroError.{AeroError}
use Rattle.aero_error.specs.declared.Rule.TheVariants.{TooManyColumns, DesignFull, NoSuchPlace}
use Rattle.aero_error.specs.CheckLaws.{both_passed, unless_passed, up_none}
use Rattle.drag.specs.Friction.{flow_checked}
use Rattle.sheet_data.specs.declared.Settings.{Settings}
use Rattle.sheet_data.specs.declared.Sheet.{Sheet}
use Rattle.sheet_data.specs.Layout.{most_parts, most_columns, most_finishes, needed}
use Rattle.sheet_data.specs.Contents.{Contents, contents_of, blank, Fits}
use Rattle.sheet_data.proofs.Held.{held_finishes, held_cells}
use Rattle.sheet_data.specs.Tests.{body_test, settings_test, nozzle_test, part_test, sheet_test}
use Rattle.drag_sheet.specs.Calls.{Answer, Call, replace, insert, remove, set_column, ignite, burnout, applied, arguments_test, tries, scope, after, call_test, sheet_with, left_by, answered, Called, Opened}
use Rattle.drag_sheet.specs.Planes.{cell_plane, mark_plane, Lent, cells_lent}
use Rattle.drag_sheet.specs.Build.{trial}
use Rattle.drag_sheet.specs.Writing.{chosen, Scope, whole, overwritten, rewritten, AllWritten}

-- ---- what passed tests show

pub record SettingsFacts (s : Settings) (cells : ℕ) : Type 0 where
  pub finishes : s.finishes ≤ most_finishes
  pub columns : s.count ≤ most_columns
  pub room : needed s.finishes s.count ≤ cells

pub settings_facts : (s : Settings) (cells : ℕ) → settings_test s cells ≡ Ok tt → SettingsFacts s cells
unfolding settings_test
settings_facts s cells e =
    let a = both_passed (unless (ltb most_columns s.count) TooManyColumns) _ e in
    let b = both_passed (body_test s) _ a.second in
    record {
      finishes = (held_finishes s b.first).1;
      columns = ltb-false most_columns s.count (unless_passed _ TooManyColumns a.first);
      room = held_cells s cells e;
    }

pub sheet_fits : (sheet : Sheet) (cells : ℕ) → sheet_test (contents_of sheet) cells sheet.design.count ≡ Ok tt → Fits sheet cells
unfolding sheet_test
sheet_fits sheet cells e =
    let a = both_passed (settings_test sheet.settings cells) _ e in
    let f = settings_facts sheet.settings cells a.first in
    let n = both_passed (nozzle_test sheet.nozzle_diameter) _ a.second in
    let b = both_passed (unless (ltb most_parts sheet.design.count) DesignFull) _ n.second in
    record { finishes = f.finishes; columns = f.columns; parts = ltb-false most_parts sheet.design.count (unless_passed _ DesignFull b.first); room = f.room }

-- what a call's arguments are where its own tests passed
abbrev pub Bounds : Call → Settings → ℕ → Type 0
Bounds (replace place p) s count = place < count
Bounds (insert place p) s count = (place ≤ count) × (count < most_parts)
Bounds (remove place) s count = place < count
Bounds (set_column k M R) s count = k < s.count
Bounds (ignite n) s count = Unit {0}
Bounds burnout s count = Unit {0}

pub bounds : (call : Call) (s : Settings) (count : ℕ) → arguments_test call s count ≡ Ok tt → Bounds call s count
bounds (replace place p) s count e = leb-false count place (unless_passed _ _ (both_passed (unless (leb count place) _) (part_test p) e).first)
bounds (insert place p) s count e =
    let a = both_passed (unless (ltb count place) NoSuchPlace) _ e in
    let b = both_passed (unless (leb most_parts count) DesignFull) (part_test p) a.second in
    (ltb-false count place (unless_passed _ NoSuchPlace a.first), leb-false most_parts count (unless_passed _ DesignFull b.first))
bounds (remove place) s count e = leb-false count place (unless_passed _ NoSuchPlace e)
bounds (set_column k M R) s count e = leb-false s.count k (unless_passed _ NoSuchPlace (both_passed (unless (leb s.count k) NoSuchPlace) (flow_checked M R) e).first)
bounds (ignite n) s count e = tt
bounds burnout s count e = tt

-- what a passed call's tests have shown
pub record Facts (call : Call) (sheet : Sheet) (cells : ℕ) : Type 0 where
  pub fits : Fits sheet cells
  pub arguments : arguments_test call sheet.settings sheet.design.count ≡ Ok tt
  pub within : Bounds call sheet.settings sheet.design.count

pub call_facts : (call : Call) (sheet : Sheet) (cells : ℕ) → call_test call sheet cells ≡ Ok tt → Facts call sheet cells
call_facts call sheet cells e =
    let a = both_passed (sheet_test (contents_of sheet) cells sheet.design.count) _ e in
    record { fits = sheet_fits sheet cells a.first; arguments = a.second; within = bounds call sheet.settings sheet.design.count a.second }

-- no call changes how many finishes and columns there are
pub record SameLayout (c left : Contents) : Type 0 where
  pub finishes : left.settings.finishes ≡ c.settings.finishes
  pub columns : left.settings.count ≡ c.settings.count

pub same_layout : (call : Call) (c : Contents) → SameLayout c (applied call c)
same_layout (replace place p) c = record { finishes = refl; columns = refl }
same_layout (insert place p) c = record { finishes = refl; columns = refl }
same_layout (remove place) c = record { finishes = refl; columns = refl }
same_layout (set_column k M R) c = record { finishes = refl; columns = refl }
same_layout (ignite n) c = record { finishes = refl; columns = refl }
same_layout burnout c = record { finishes = refl; columns = refl }

-- so the sheet that is left fits, where it has few parts
pub fits_left : (call : Call) {sheet left : Sheet} {cells : ℕ} → Facts call sheet cells → left ≡ left_by call sheet → left.design.count ≤ most_parts → Fits left cells
fits_left call {sheet} f e few =
    let same = same_layout call (contents_of sheet) in
    let F = ap (λ (s : Sheet). s.settings.finishes) e ∙ same.finishes in
    let C = ap (λ (s : Sheet). s.settings.count) e ∙ same.columns in
    record { finishes = rw F f.fits.finishes; columns = rw C f.fits.columns; parts = few; room = rw (F, C) f.fits.room }

-- ---- the two planes

-- a sheet that fits what is lent fits either buffer
pub fits_cells : {sheet : Sheet} (xs : Lent) → Fits sheet (cells_lent xs) → Fits sheet (length xs.cells)
fits_cells xs f = record { finishes = f.finishes; columns = f.columns; parts = f.parts; room = omega (arith, f.room) }

pub fits_marks : {sheet : Sheet} (xs : Lent) → Fits sheet (cells_lent xs) → Fits sheet (length xs.marks)
fits_marks xs f = record { finishes = f.finishes; columns = f.columns; parts = f.parts; room = omega (arith, f.room) }

-- both buffers as a test leaves them
pub both_chosen : (d : Check) (xs ys : Lent) (scope : Scope) (c : Contents) → ys.cells ≡ chosen d xs.cells (overwritten cell_plane scope c xs.cells) → ys.marks ≡ chosen d xs.marks (overwritten mark_plane scope c xs.marks)
    → ys ≡ chosen d xs (rewritten scope c xs)
both_chosen (Ok _) xs ys scope c f g = λ i. record { cells = f i; marks = g i }
both_chosen (Err e) xs ys scope c f g = λ i. record { cells = f i; marks = g i }

-- ---- the contract

pub called : (call : Call) (sheet : Sheet) (xs : Lent) (r : Answer) (ys : Lent) (test : Check) (new : Sheet) → call_test call sheet (cells_lent xs) ≡ Ok tt → test ≡ tries call (after call sheet)
    → new ≡ sheet_with (after call sheet) sheet → r ≡ answered test sheet new → ys ≡ chosen test xs (rewritten (scope call (after call sheet)) (after call sheet) xs) → Called call sheet xs r ys
called call sheet xs r ys test new p t n a l = record { answer = a ∙ rw (n, p, t); left = l ∙ rw (p, t) }

-- the sheet that is left has the contents that are left
pub contents_with : (c : Contents) (sheet : Sheet) → contents_of (sheet_with c sheet) ≡ c
contents_with c sheet = ap (λ ps. record { settings = c.settings; parts = ps; nozzle = c.nozzle }) (take_at c.parts (drop (length c.parts) sheet.design.parts) (length c.parts) refl)

-- all rows written, or the refusal of one handed on
module _ (call : Call) (sheet left : Sheet) (xs : Lent) (r : Check) (ys : Lent) (p : call_test call sheet (cells_lent xs) ≡ Ok tt) (n : left ≡ sheet_with (after call sheet) sheet)
    (t : trial (after call sheet) ≡ tries call (after call sheet)) (w : scope call (after call sheet) ≡ whole)
    (f : AllWritten cell_plane (contents_of left) xs.cells r ys.cells) (g : AllWritten mark_plane (contents_of left) xs.marks r ys.marks) where
  same_contents : contents_of left ≡ after call sheet
  same_contents = ap contents_of n ∙ contents_with (after call sheet) sheet

  whole_called : (a : Answer) → a ≡ answered r sheet left → Called call sheet xs a ys
  whole_called a e = called call sheet xs a ys r left p (f.verdict ∙ rw same_contents t) n e (both_chosen _ xs ys _ _ f.left g.left ∙ rw (f.verdict, same_contents, w))

  pub whole_refused : (s : Check) (e : AeroError) → r ≡ Err e → s ≡ Err e → Called call sheet xs (record { outcome = s; sheet = sheet }) ys
  whole_refused s e h k = whole_called _ (rw (h, k))

  pub whole_accepted : r ≡ Ok tt → Called call sheet xs (record { outcome = Ok tt; sheet = left }) ys
  whole_accepted h = whole_called _ (rw h)

-- with no parts nothing is tried
pub blank_tried : (s : Settings) → trial (contents_of (blank s)) ≡ Ok tt
unfolding trial
blank_tried s = up_none _

pub opened_whole : (s : Settings) (xs : Lent) (r : Check) (ys : Lent) → settings_test s (cells_lent xs) ≡ Ok tt → AllWritten cell_plane (contents_of (blank s)) xs.cells r ys.cells → AllWritten mark_plane (contents_of (blank s)) xs.marks r ys.marks
    → Opened s xs (record { outcome = r; sheet = blank s }) ys
opened_whole s xs r ys p f g = record { answer = rw (f.verdict, blank_tried s, p); left = both_chosen _ xs ys _ _ f.left g.left ∙ rw (blank_tried s, p) }
