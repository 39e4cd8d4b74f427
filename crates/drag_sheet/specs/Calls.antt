-- The calls on a sheet (docs/REFERENCE.md, Calls). A call is what it leaves, what it tests and what it writes: `applied`, `arguments_test`, `tries` and `scope`
-- say these of each call, and all else is said once for every call.
use Rattle.std.specs.Prelude.{◌≡◌, cond, List, [], ◌∷◌, ◌++◌, ℕ, ◌+◌, length, take, drop, set, ltb, leb, Float, Ok, Err}
use Rattle.aero_error.specs.Checks.{◌then◌, unless, up_to, Check}
use Rattle.elementary.specs.Constants.{0·0}
use Rattle.aero_error.specs.declared.Rule.TheVariants.{NoSuchPlace, DesignFull}
use Rattle.drag.specs.Friction.{flow_checked}
use Rattle.sheet_data.specs.declared.Settings.{Settings}
use Rattle.sheet_data.specs.declared.Part.{Part}
use Rattle.sheet_data.specs.declared.Sheet.{Sheet}
use Rattle.sheet_data.specs.Layout.{most_parts, friction_row, base_row}
use Rattle.sheet_data.specs.Contents.{Contents, contents_of, blank, mach_at}
use Rattle.sheet_data.specs.Tests.{part_test, nozzle_test, settings_test, sheet_test}
use Rattle.sheet_data.specs.Rows.{from}
use Rattle.drag_sheet.specs.Formulas.{cell_from, ready_test, made_test}
use Rattle.drag_sheet.specs.Build.{prepared_at, row_test, trial}
use Rattle.drag_sheet.specs.Planes.{Lent, cells_lent}
use Rattle.drag_sheet.specs.Writing.{chosen, Scope, rows, column, whole, rewritten}

-- what is asked of a sheet
pub data Call : Type 0 where
  replace : ℕ → Part → Call
  insert : ℕ → Part → Call
  remove : ℕ → Call
  set_column : ℕ → Float → Float → Call
  ignite : Float → Call
  burnout : Call

-- ---- what a call leaves

-- "the parts from that place on move up one"
abbrev pub insert_at : ℕ → Part → List Part → List Part
insert_at place p ps = take place ps ++ (p ∷ drop place ps)

-- "those after it move down one"
abbrev pub remove_at : ℕ → List Part → List Part
remove_at place ps = take place ps ++ drop (place + 1) ps

-- "Set column puts the new M and R at its column"
abbrev pub with_column : Settings → ℕ → Float → Float → Settings
with_column s k M R = record {
  reference_diameter = s.reference_diameter;
  finishes = s.finishes;
  roughnesses = s.roughnesses;
  body_fineness = s.body_fineness;
  count = s.count;
  machs = set s.machs k M;
  reynolds = set s.reynolds k R;
}

-- "An ignite call gives n, a burnout call puts it back to 0"
abbrev pub with_nozzle : Float → Contents → Contents
with_nozzle n c = record { settings = c.settings; parts = c.parts; nozzle = n }

-- the contents as a call leaves them
abbrev pub applied : Call → Contents → Contents
applied (replace place p) c = record { settings = c.settings; parts = set c.parts place p; nozzle = c.nozzle }
applied (insert place p) c = record { settings = c.settings; parts = insert_at place p c.parts; nozzle = c.nozzle }
applied (remove place) c = record { settings = c.settings; parts = remove_at place c.parts; nozzle = c.nozzle }
applied (set_column k M R) c = record { settings = with_column c.settings k M R; parts = c.parts; nozzle = c.nozzle }
applied (ignite n) c = with_nozzle n c
applied burnout c = with_nozzle 0·0 c

-- ---- what a call tests

-- "Edits then: 8, 9, 11 for L, d, w"; "Set column: 8, 1 for M, then R"; "ignite's own last". The count is that of the sheet given
abbrev pub arguments_test : Call → Settings → ℕ → Check
arguments_test (replace place p) s count = unless (leb count place) NoSuchPlace then part_test p
arguments_test (insert place p) s count = unless (ltb count place) NoSuchPlace then unless (leb most_parts count) DesignFull then part_test p
arguments_test (remove place) s count = unless (leb count place) NoSuchPlace
arguments_test (set_column k M R) s count = unless (leb s.count k) NoSuchPlace then flow_checked M R
arguments_test (ignite n) s count = nozzle_test n
arguments_test burnout s count = Ok tt

-- the row at a place, where there is a part
abbrev pub row_test_where : Contents → ℕ → Check
row_test_where c i = cond (ltb i (length c.parts)) (row_test c i) (Ok tt)

-- every row at one column
unfoldable pub column_trial : ℕ → Contents → Check
column_trial k c = up_to (length c.parts) (λ i. ready_test (prepared_at c i) then made_test (cell_from (prepared_at c i) (mach_at c.settings k)))

-- the rows that a call tries on the contents as it would leave them: "the lowest place of a row to be written that can't be built". Replace tries its own row
-- and the next part's, set column its column, ignite and burnout none
unfoldable pub tries : Call → Contents → Check
tries (replace place p) c = row_test c place then row_test_where c (place + 1)
tries (insert place p) c = trial c
tries (remove place) c = trial c
tries (set_column k M R) c = column_trial k c
tries (ignite n) c = Ok tt
tries burnout c = Ok tt

-- ---- what a call writes

-- "replace only the rows named in demand 3": its own, the next part's, friction, base and total
abbrev pub replaced_rows : ℕ → ℕ → List ℕ
replaced_rows place count = cond (ltb (place + 1) count) ((place + 1) ∷ place ∷ []) (place ∷ [])

-- "Both .. write the base and total rows"
abbrev pub nozzle_rows : ℕ → List ℕ
nozzle_rows F = base_row F ∷ []

unfoldable pub body_rows : ℕ → List ℕ
body_rows F = nozzle_rows F ++ from (friction_row 0) F

abbrev pub scope : Call → Contents → Scope
scope (replace place p) c = rows (body_rows c.settings.finishes ++ replaced_rows place (length c.parts))
scope (insert place p) c = whole
scope (remove place) c = whole
scope (set_column k M R) c = column k
scope (ignite n) c = rows (nozzle_rows c.settings.finishes)
scope burnout c = rows (nozzle_rows c.settings.finishes)

-- ---- every call

abbrev pub after : Call → Sheet → Contents
after call sheet = applied call (contents_of sheet)

-- the tests of the sheet given and of a call's arguments, before any row is tried, with the number of cells lent
abbrev pub call_test : Call → Sheet → ℕ → Check
call_test call sheet cells =
    sheet_test (contents_of sheet) cells sheet.design.count
    then arguments_test call sheet.settings sheet.design.count

abbrev pub decision : Call → Sheet → ℕ → Check
decision call sheet cells = call_test call sheet cells then tries call (after call sheet)

-- the sheet with these contents; the slots of the design past its parts stay
abbrev pub sheet_with : Contents → Sheet → Sheet
sheet_with c sheet = record {
  settings = c.settings;
  design = record { count = length c.parts; parts = c.parts ++ drop (length c.parts) sheet.design.parts };
  nozzle_diameter = c.nozzle;
}

-- the sheet as a call leaves it
abbrev pub left_by : Call → Sheet → Sheet
left_by call sheet = sheet_with (after call sheet) sheet

-- a call's answer: what it came to, and the sheet that it leaves
pub record Answer : Type 0 where
  pub outcome : Check
  pub sheet : Sheet

-- accepted, with the sheet as the call leaves it; or refused, with the sheet that was given
abbrev pub answered : Check → Sheet → Sheet → Answer
answered (Ok tt) given left = record { outcome = Ok tt; sheet = left }
answered (Err e) given left = record { outcome = Err e; sheet = given }

-- what each call's contract says: of its answer r, and of the lent buffers before (xs) and after (ys)
pub record Called (call : Call) (sheet : Sheet) (xs : Lent) (r : Answer) (ys : Lent) : Type 0 where
  pub answer : r ≡ answered (decision call sheet (cells_lent xs)) sheet (sheet_with (after call sheet) sheet)
  pub left : ys ≡ chosen (decision call sheet (cells_lent xs)) xs (rewritten (scope call (after call sheet)) (after call sheet) xs)

-- what open's contract says. With no parts nothing can fail to be built
pub record Opened (s : Settings) (xs : Lent) (r : Answer) (ys : Lent) : Type 0 where
  pub answer : r ≡ answered (settings_test s (cells_lent xs)) (blank s) (blank s)
  pub left : ys ≡ chosen (settings_test s (cells_lent xs)) xs (rewritten whole (contents_of (blank s)) xs)
