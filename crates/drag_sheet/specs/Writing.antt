-- What is written over the lent buffers, from the contents as a call leaves them: some rows and then the totals, one column, or all; of one plane, and of both.
use Rattle.std.specs.Prelude.{◌≡◌, List, ℕ, ◌-◌, ◌<◌, length, get_or, set, Float, Ok, Err}
use Rattle.aero_error.specs.Checks.{Check}
use Rattle.sheet_data.specs.Layout.{most_parts, friction_row, base_row, total_row, all_rows}
use Rattle.sheet_data.specs.Contents.{Contents}
use Rattle.sheet_data.specs.Tables.{tab}
use Rattle.sheet_data.specs.Rows.{from, row_at, written, rows_written}
use Rattle.drag_sheet.specs.Formulas.{sum_to, any_to}
use Rattle.drag_sheet.specs.Planes.{Plane, cell_plane, mark_plane, Lent}
use Rattle.drag_sheet.specs.Build.{cell_at, row_of, trial, build}

abbrev pub chosen : {A : Type 0} → Check → A → A → A
chosen (Ok _) given left = left
chosen (Err e) given left = given

-- what a function that fills lent cells says: its answer is the test's, and where that passed the cells are these. Of cells that were refused it says nothing
pub record Filled {A : Type 0} (test : Check) (cells : List A) (r : Check) (out : List A) : Type 0 where
  pub verdict : r ≡ test
  pub made : test ≡ Ok tt → out ≡ cells

-- cells made anew, each from itself and what stands at its place in a list
pub record EachMade {A B : Type 0} (made : A → B → A → Type 0) (list : List B) (old new : List A) : Type 0 where
  pub long : length new ≡ length old
  pub at : (d : A) (e : B) (k : ℕ) → k < length old → made (get_or old k d) (get_or list k e) (get_or new k d)

-- which cells a call writes. Rows are named the last first; the totals, which follow them, are not named
pub data Scope : Type 0 where
  rows : List ℕ → Scope
  column : ℕ → Scope
  whole : Scope

-- a cell for each row, put into column k; `d` is what a read past the end would give
abbrev pub column_put : {A : Type 0} → A → ℕ → ℕ → ℕ → List A → List A → List A
column_put d k F C values xs = rows_written C (λ r. set (row_at C xs r) k (get_or values r d)) (from 0 (all_rows F)) xs

module _ {A : Type 0} (P : Plane A) where
  -- what is there of row r and column k
  abbrev pub there : ℕ → List A → ℕ → ℕ → A
  there C xs r k = get_or (row_at C xs r) k P.past

  -- "Sums read the cells there": the total row of finish j
  abbrev pub total_there : ℕ → ℕ → List A → ℕ → List A
  total_there F C xs j = tab C (λ k. P.of_total (λ i. there C xs i k) (there C xs (friction_row j) k) (there C xs (base_row F) k))

  unfoldable pub totalled : ℕ → ℕ → List A → List A
  totalled F C xs = rows_written C (λ r. total_there F C xs (r - total_row F 0)) (from (total_row F 0) F) xs

  unfoldable pub overwritten : Scope → Contents → List A → List A
  overwritten (rows named) c xs = totalled c.settings.finishes c.settings.count (rows_written c.settings.count (row_of P c) named xs)
  overwritten (column k) c xs = column_put P.past k c.settings.finishes c.settings.count (tab (all_rows c.settings.finishes) (λ r. cell_at P c r k)) xs
  overwritten whole c xs = written 0 (build P c) xs

  -- what a function that writes all rows of a build, or none, says: of its answer, and of the cells before (xs) and after (ys)
  pub record AllWritten (c : Contents) (xs : List A) (r : Check) (ys : List A) : Type 0 where
    pub verdict : r ≡ trial c
    pub left : ys ≡ chosen (trial c) xs (overwritten whole c xs)

-- the part rows that are there, added up; and whether any of them is marked, column by column
abbrev pub parts_there : ℕ → List Float → List Float
parts_there C xs = tab C (λ k. sum_to most_parts (λ i. there cell_plane C xs i k))

abbrev pub marks_there : ℕ → List ℕ → List ℕ
marks_there C xs = tab C (λ k. any_to most_parts (λ i. there mark_plane C xs i k))

-- both planes written: "each written only when its cell is"
abbrev pub rewritten : Scope → Contents → Lent → Lent
rewritten scope c xs = record { cells = overwritten cell_plane scope c xs.cells; marks = overwritten mark_plane scope c xs.marks }
