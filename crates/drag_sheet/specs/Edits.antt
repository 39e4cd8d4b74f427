-- What the functions under the calls say: a design with a part put anew, settings with one column alone, a replaced part's rows written, a nozzle diameter put.
use Rattle.aero_error.specs.Checks.{◌then◌, Check}
use Rattle.std.specs.Prelude.{◌≡◌, List, [], ◌∷◌, ◌++◌, ℕ, ◌+◌, ◌*◌, ◌≤◌, ◌<◌, set, replicate, Float}
use Rattle.sheet_data.specs.declared.Settings.{Settings}
use Rattle.sheet_data.specs.declared.Part.{Part}
use Rattle.sheet_data.specs.declared.Design.{Design}
use Rattle.sheet_data.specs.declared.Sheet.{Sheet}
use Rattle.sheet_data.specs.Layout.{most_parts, most_columns, most_finishes, needed}
use Rattle.sheet_data.specs.Contents.{Contents, contents_of}
use Rattle.sheet_data.specs.Rows.{written}
use Rattle.drag_sheet.specs.Calls.{with_nozzle, sheet_with, row_test_where, nozzle_rows, body_rows, replaced_rows}
use Rattle.drag_sheet.specs.Planes.{Plane, Lent}
use Rattle.drag_sheet.specs.Build.{row_test, cell_at}
use Rattle.drag_sheet.specs.Writing.{chosen, rows, overwritten, rewritten}

abbrev pub replaced_in : Design → ℕ → Part → Design
replaced_in d place p = record { count = d.count; parts = set d.parts place p }

-- a sheet of one column
abbrev pub one_column : Settings → Float → Float → Settings
one_column s M R = record {
  reference_diameter = s.reference_diameter;
  finishes = s.finishes;
  roughnesses = s.roughnesses;
  body_fineness = s.body_fineness;
  count = 1;
  machs = replicate most_columns M;
  reynolds = replicate most_columns R;
}

-- a row of a sheet asked for, into so many cells
pub record RowAsked (sheet : Sheet) (place width : ℕ) : Type 0 where
  pub columns : sheet.settings.count ≤ most_columns
  pub parts : sheet.design.count ≤ most_parts
  pub inside : place < sheet.design.count
  pub wide : width ≡ sheet.settings.count

-- a column of a sheet asked for, into so many cells, in which nothing is written yet
pub record ColumnAsked {A : Type 0} (sheet : Sheet) (column : ℕ) (none : A) (xs : List A) : Type 0 where
  pub finishes : sheet.settings.finishes ≤ most_finishes
  pub columns : sheet.settings.count ≤ most_columns
  pub parts : sheet.design.count ≤ most_parts
  pub inside : column < sheet.settings.count
  pub empty : xs ≡ replicate (needed sheet.settings.finishes 1) none

module _ {A : Type 0} (P : Plane A) where
  -- the cell of each row in one column
  abbrev pub cell_of_column : Contents → ℕ → ℕ → A
  cell_of_column c k r = cell_at P c r k

  -- the rows that change with the part at a place
  pub record Changed (sheet : Sheet) (place : ℕ) (xs : List A) (r : Check) (ys : List A) : Type 0 where
    pub verdict : r ≡ (row_test (contents_of sheet) place then row_test_where (contents_of sheet) (place + 1))
    pub cells : ys ≡ chosen (row_test (contents_of sheet) place then row_test_where (contents_of sheet) (place + 1)) xs (overwritten P (rows (body_rows sheet.settings.finishes ++ replaced_rows place sheet.design.count)) (contents_of sheet) xs)

  -- the same once its own row is built and a part follows
  pub record NextWritten (sheet : Sheet) (place : ℕ) (own xs : List A) (r : Check) (ys : List A) : Type 0 where
    pub verdict : r ≡ row_test (contents_of sheet) (place + 1)
    pub cells : ys ≡ chosen (row_test (contents_of sheet) (place + 1)) xs (overwritten P (rows (body_rows sheet.settings.finishes ++ (place + 1) ∷ [])) (contents_of sheet) (written (place * sheet.settings.count) own xs))

-- a nozzle diameter put, with its rows: the sheet before and after, and the lent buffers before (xs) and after (ys)
pub record NozzlePut (n : Float) (sheet : Sheet) (xs : Lent) (left : Sheet) (ys : Lent) : Type 0 where
  pub sheet_left : left ≡ sheet_with (with_nozzle n (contents_of sheet)) sheet
  pub both : ys ≡ rewritten (rows (nozzle_rows sheet.settings.finishes)) (with_nozzle n (contents_of sheet)) xs
