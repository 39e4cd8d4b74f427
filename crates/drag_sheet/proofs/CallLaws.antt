-- Any call on any sheet, cells and marks: accepted, with what it leaves, or refused, with what was given. Nothing past the rows is written, replacing a part writes no row
-- but its own, the next part's where there is one, friction, base and total, set column no column but its own, and ignite and burnout no row but base and total.
use Rattle.std.specs.Prelude.{Ok, Err}
use Rattle.aero_error.specs.Checks.{Check}
use mathlib.Core.Path.{◌≡◌, refl, sym, ap, ◌∙◌, subst}
use mathlib.Core.Logic.{dite, ◌≢◌}
use mathlib.Core.List.{List}
use Prim.Native.Nat.{ℕ, ◌+◌, ◌-◌, ◌≤◌, ◌<◌}
use native.Mathlib.Decide.{dec_lt, ℕ_discrete}
use native.Mathlib.Omega.{arith}
use lib.ListN.{length, get_or, set, length-set, length-take}
use Rattle.std.proofs.lemmas.List.{get_or-set_other}
use lib.Seq.{length-take-le}
use lib.Ieee.{Float, nan}
use Rattle.aero_error.specs.declared.AeroError.{AeroError}
use Rattle.aero_error.specs.CheckLaws.{both_passed}
use Rattle.sheet_data.specs.declared.Part.{Part}
use Rattle.sheet_data.specs.declared.Sheet.{Sheet}
use Rattle.sheet_data.specs.Layout.{most_parts, friction_row, base_row, total_row, all_rows, needed}
use Rattle.sheet_data.specs.Contents.{Contents, contents_of, parts_of}
use Rattle.sheet_data.specs.Rows.{Unnamed, row_at}
use Rattle.drag_sheet.specs.Calls.{Answer, Call, replace, insert, remove, set_column, ignite, burnout, applied, nozzle_rows, scope, tries, after, call_test, decision, sheet_with, Called}
use Rattle.drag_sheet.specs.Planes.{Plane, cell_plane, mark_plane, Lent, cells_lent}
use Rattle.drag_sheet.specs.Writing.{Scope, rows, column, overwritten, rewritten}
use Rattle.drag_sheet.specs.Lists.{Arrays, PastRows}
use Rattle.drag_sheet.proofs.Verdicts.{never}
use Rattle.drag_sheet.proofs.Slots.{inserted_long, removed_long}
use Rattle.drag_sheet.proofs.Overwritten.{Inside, Keeps, keeps, other_rows, column_reads}
use Rattle.drag_sheet.proofs.Answers.{fits_cells, fits_marks, Facts, call_facts, Bounds, same_layout}
use Rattle.drag_sheet.proofs.Duties.{scope_inside, body_not_part}

-- accepted, with the buffers as the call leaves them; or refused, with the sheet and the buffers that were given
pub data Ended (call : Call) (sheet : Sheet) (xs : Lent) (r : Answer) (ys : Lent) : Type 0 where
  accepted : decision call sheet (cells_lent xs) ≡ Ok tt → r ≡ record { outcome = Ok tt; sheet = sheet_with (after call sheet) sheet } → ys ≡ rewritten (scope call (after call sheet)) (after call sheet) xs
      → Ended call sheet xs r ys
  refusal : (e : AeroError) → decision call sheet (cells_lent xs) ≡ Err e → r ≡ record { outcome = Err e; sheet = sheet } → ys ≡ xs → Ended call sheet xs r ys

pub ended : (call : Call) (sheet : Sheet) (xs : Lent) (r : Answer) (ys : Lent) → Called call sheet xs r ys → Ended call sheet xs r ys
ended call sheet xs r ys c = by (decision call sheet (cells_lent xs)) refl
  where
    by : (d : Check) → decision call sheet (cells_lent xs) ≡ d → Ended call sheet xs r ys
    by (Ok _) p = accepted p (c.answer ∙ rw p) (c.left ∙ rw p)
    by (Err e) p = refusal e p (c.answer ∙ rw p) (c.left ∙ rw p)

-- "a refused edit hands back the design and every lent cell unaltered"; "and a refusal alters none" of the marks
pub refused_unaltered : (call : Call) (sheet : Sheet) (xs : Lent) (r : Answer) (ys : Lent) (e : AeroError) → Called call sheet xs r ys → r.outcome ≡ Err e → (r.sheet ≡ sheet) × (ys ≡ xs)
refused_unaltered call sheet xs r ys e c o = by (ended call sheet xs r ys c)
  where
    by : Ended call sheet xs r ys → (r.sheet ≡ sheet) × (ys ≡ xs)
    by (accepted p a l) = never o (ap (λ (x : Answer). x.outcome) a)
    by (refusal x p a l) = (ap (λ (x : Answer). x.sheet) a, l)

-- the parts that a call leaves are no more than there are slots
pub parts_few : (call : Call) (c : Contents) → Bounds call c.settings (length c.parts) → length c.parts ≤ most_parts → length (applied call c).parts ≤ most_parts
parts_few (replace place p) c b few = rw (length-set c.parts place p) few
parts_few (insert place p) c b few = omega (arith, inserted_long c.parts place p b.0, b.1)
parts_few (remove place) c b few = omega (arith, removed_long c.parts place b)
parts_few (set_column k M R) c b few = few
parts_few (ignite n) c b few = few
parts_few burnout c b few = few

-- ---- what an accepted call has shown

pub record Accepted (call : Call) (sheet : Sheet) (xs : Lent) : Type 0 where
  pub facts : Facts call sheet (cells_lent xs)
  pub tried : tries call (after call sheet) ≡ Ok tt
  pub long : length (parts_of sheet.design) ≡ sheet.design.count
  pub within : Bounds call sheet.settings (length (parts_of sheet.design))
  pub few : length (parts_of sheet.design) ≤ most_parts

pub shown : (call : Call) (sheet : Sheet) (xs : Lent) → length sheet.design.parts ≡ most_parts → decision call sheet (cells_lent xs) ≡ Ok tt → Accepted call sheet xs
shown call sheet xs slots p =
    let b = both_passed (call_test call sheet (cells_lent xs)) (tries call (after call sheet)) p in
    let f = call_facts call sheet (cells_lent xs) b.first in
    let n : length (parts_of sheet.design) ≡ sheet.design.count = length-take-le sheet.design.count sheet.design.parts (omega (arith, f.fits.parts)) in
    record {
      facts = f;
      tried = b.second;
      long = n;
      within = subst (Bounds call sheet.settings) (sym n) f.within;
      few = omega (arith, f.fits.parts);
    }

-- of a plane an accepted call keeps the number of cells and what lies past the rows
pub left : {A : Type 0} (P : Plane A) (call : Call) (sheet : Sheet) (xs : Lent) (ps : List A) → Accepted call sheet xs → needed sheet.settings.finishes sheet.settings.count ≤ length ps
    → Keeps sheet.settings.finishes sheet.settings.count ps (overwritten P (scope call (after call sheet)) (after call sheet) ps)
left P call sheet xs ps a room =
    let w = same_layout call (contents_of sheet) in
    let new = after call sheet in
    let k = keeps P new ps (rw (w.finishes, w.columns) room) (scope call new) (rw (w.finishes, w.columns) (scope_inside call (contents_of sheet) a.within a.few)) in
    rw (w.finishes, w.columns) at k

-- a row of F finishes that is none of the friction, base and total rows
pub record NotBody (F row : ℕ) : Type 0 where
  pub friction : (j : ℕ) → j < F → row ≢ friction_row j
  pub base : row ≢ base_row F
  pub total : (j : ℕ) → j < F → row ≢ total_row F j

-- is a part's
not_body : (F row : ℕ) → row < all_rows F → NotBody F row → row < most_parts
not_body F row h n =
    dite (dec_lt row most_parts) (λ l. l) (λ l.
    dite (dec_lt row (base_row F))
    (λ m. absurd (n.friction (row - most_parts) (omega arith) (omega arith)))
    (λ m. dite (ℕ_discrete row (base_row F))
    (λ q. absurd (n.base q))
    (λ q. absurd (n.total (row - total_row F 0) (omega arith) (omega arith)))))

-- a row that a plane has before (xs) and after (ys)
abbrev pub RowKept : {A : Type 0} → Sheet → ℕ → List A → List A → Type 0
RowKept sheet row xs ys = row_at sheet.settings.count ys row ≡ row_at sheet.settings.count xs row

-- and a cell, or a mark, of such a row; d is what a read past the end would give
abbrev pub CellKept : {A : Type 0} → Sheet → ℕ → ℕ → A → List A → List A → Type 0
CellKept sheet row i d xs ys = get_or (row_at sheet.settings.count ys row) i d ≡ get_or (row_at sheet.settings.count xs row) i d

module _ (sheet : Sheet) (arrays : Arrays sheet) (xs : Lent) (r : Answer) (ys : Lent) where
  -- room in either plane
  cells_room : {call : Call} → Accepted call sheet xs → needed sheet.settings.finishes sheet.settings.count ≤ length xs.cells
  cells_room a = (fits_cells xs a.facts.fits).room

  marks_room : {call : Call} → Accepted call sheet xs → needed sheet.settings.finishes sheet.settings.count ≤ length xs.marks
  marks_room a = (fits_marks xs a.facts.fits).room

  -- "Cells past 19 × C are never written"; of F finishes these are the cells past (17 + 2 × F) × C, and the marks past as many
  pub past_kept : (call : Call) → Called call sheet xs r ys → PastRows sheet.settings xs ys
  past_kept call c = by (ended call sheet xs r ys c)
    where
      by : Ended call sheet xs r ys → PastRows sheet.settings xs ys
      by (refusal e p a l) = rw l record { cells = refl; marks = refl }
      by (accepted p a l) =
          let s = shown call sheet xs arrays.slots p in
          rw l record { cells = (left cell_plane call sheet xs xs.cells s (cells_room s)).past; marks = (left mark_plane call sheet xs xs.marks s (marks_room s)).past }

  -- of a call that writes rows and then the totals, a row that it doesn't name stays
  plane_kept : {A : Type 0} (P : Plane A) (ps : List A) (call : Call) (named : List ℕ) → scope call (after call sheet) ≡ rows named → Accepted call sheet xs
      → needed sheet.settings.finishes sheet.settings.count ≤ length ps → (row : ℕ) → row < total_row sheet.settings.finishes 0 → Unnamed named row
      → RowKept sheet row ps (overwritten P (scope call (after call sheet)) (after call sheet) ps)
  plane_kept P ps call named e s room row h u =
      let new = after call sheet in
      let w = same_layout call (contents_of sheet) in
      let below = subst (λ (z : Scope). Inside z sheet.settings.finishes sheet.settings.count) e (scope_inside call (contents_of sheet) s.within s.few) in
      rw e (subst (λ n. row_at n (overwritten P (rows named) new ps) row ≡ row_at n ps row) w.columns
      (other_rows P new ps (rw (w.finishes, w.columns) room) named (rw w.finishes below) row (rw w.finishes h) u))

  unnamed_kept : (call : Call) (named : List ℕ) → scope call (after call sheet) ≡ rows named → Called call sheet xs r ys → (row : ℕ) → row < total_row sheet.settings.finishes 0 → Unnamed named row
      → RowKept sheet row xs.cells ys.cells × RowKept sheet row xs.marks ys.marks
  unnamed_kept call named e c row h u = by (ended call sheet xs r ys c)
    where
      by : Ended call sheet xs r ys → RowKept sheet row xs.cells ys.cells × RowKept sheet row xs.marks ys.marks
      by (refusal x q a l) = rw l (refl, refl)
      by (accepted q a l) =
          let s = shown call sheet xs arrays.slots q in
          rw l (plane_kept cell_plane xs.cells call named e s (cells_room s) row h u, plane_kept mark_plane xs.marks call named e s (marks_room s) row h u)

  -- "Replacing a part changes no cells but its own row, the next part's, and the friction, base and total rows": with no part after it the row there stays too
  pub other_rows_kept : (place : ℕ) (p : Part) → Called (replace place p) sheet xs r ys → (row : ℕ) → row < all_rows sheet.settings.finishes → NotBody sheet.settings.finishes row → row ≢ place → (row ≡ place + 1 → sheet.design.count ≤ place + 1)
      → RowKept sheet row xs.cells ys.cells × RowKept sheet row xs.marks ys.marks
  other_rows_kept place p c row h part i j =
      let few = not_body sheet.settings.finishes row h part in
      let none : row ≡ place + 1 → length (set (parts_of sheet.design) place p) ≤ place + 1 = λ e. omega (arith, j e, length-set (parts_of sheet.design) place p, taken_few) in
      unnamed_kept (replace place p) _ refl c row (omega arith) (body_not_part (contents_of sheet) place p row few i none)
    where
      taken_few : length (parts_of sheet.design) ≤ sheet.design.count
      taken_few = rw (length-take sheet.design.count sheet.design.parts) (omega arith)

  -- set column writes its column alone: of every row the others stay
  column_kept : {A : Type 0} (P : Plane A) (ps : List A) (k : ℕ) (M R : Float) → needed sheet.settings.finishes sheet.settings.count ≤ length ps → (row i : ℕ) (d : A) → row < all_rows sheet.settings.finishes → i ≢ k
      → CellKept sheet row i d ps (overwritten P (column k) (after (set_column k M R) sheet) ps)
  column_kept P ps k M R room row i d h u = rw (column_reads P (after (set_column k M R) sheet) ps room k row h) (get_or-set_other (row_at sheet.settings.count ps row) k i _ d u)

  pub other_columns_kept : (k : ℕ) (M R : Float) → Called (set_column k M R) sheet xs r ys → (row i : ℕ) → row < all_rows sheet.settings.finishes → i ≢ k
      → CellKept sheet row i nan xs.cells ys.cells × CellKept sheet row i 0 xs.marks ys.marks
  other_columns_kept k M R c row i h u = by (ended (set_column k M R) sheet xs r ys c)
    where
      by : Ended (set_column k M R) sheet xs r ys → CellKept sheet row i nan xs.cells ys.cells × CellKept sheet row i 0 xs.marks ys.marks
      by (refusal x q a l) = rw l (refl, refl)
      by (accepted q a l) =
          let s = shown (set_column k M R) sheet xs arrays.slots q in
          rw l (column_kept cell_plane xs.cells k M R (cells_room s) row i nan h u, column_kept mark_plane xs.marks k M R (marks_room s) row i 0 h u)

  -- ignite and burnout "write the base and total rows": no part row and no friction row is changed
  pub ignite_rows_kept : (n : Float) → Called (ignite n) sheet xs r ys → (row : ℕ) → row < base_row sheet.settings.finishes → RowKept sheet row xs.cells ys.cells × RowKept sheet row xs.marks ys.marks
  ignite_rows_kept n c row h = unnamed_kept (ignite n) (nozzle_rows sheet.settings.finishes) refl c row (omega arith) ((λ e. omega arith), tt)

  pub burnout_rows_kept : Called burnout sheet xs r ys → (row : ℕ) → row < base_row sheet.settings.finishes → RowKept sheet row xs.cells ys.cells × RowKept sheet row xs.marks ys.marks
  burnout_rows_kept c row h = unnamed_kept burnout (nozzle_rows sheet.settings.finishes) refl c row (omega arith) ((λ e. omega arith), tt)
