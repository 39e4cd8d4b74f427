-- A whole sheet built from nothing (docs/REFERENCE.md, Rows): each cell and each mark by its row's kind and its column, from the contents alone; and the trial of its
-- rows, "at each place by column from 0", which says whether it can be built.
use Rattle.aero_error.specs.Checks.{◌then◌, up_to, Check}
use Rattle.std.specs.Prelude.{cond, List, ℕ, ◌-◌, length, ltb, eqb, Float}
use Rattle.sheet_data.specs.declared.Settings.{Settings}
use Rattle.sheet_data.specs.Layout.{most_parts, friction_row, base_row, total_row, all_rows}
use Rattle.sheet_data.specs.Contents.{Contents, part_at, fore_at, mach_at, reynolds_at}
use Rattle.sheet_data.specs.Tables.{tab}
use Rattle.sheet_data.specs.Rows.{laid}
use Rattle.drag_sheet.specs.Formulas.{Prepared, prepared_of, cell_from, ready_test, made_test, friction_cell, base_cell}
use Rattle.drag_sheet.specs.Planes.{Plane}

-- ---- part rows

-- what the row at a place is made from
abbrev pub prepared_at : Contents → ℕ → Prepared
prepared_at c i = prepared_of c.settings.reference_diameter (fore_at c.parts i) (part_at c.parts i)

-- a row tried, by column from 0
abbrev pub row_test_from : Prepared → Settings → Check
row_test_from p s = ready_test p then up_to s.count (λ k. made_test (cell_from p (mach_at s k)))

unfoldable pub row_test : Contents → ℕ → Check
row_test c i = row_test_from (prepared_at c i) c.settings

-- "Rows are tried .., at each place by column from 0"
unfoldable pub trial : Contents → Check
trial c = up_to (length c.parts) (row_test c)

-- ---- all rows

-- what a row is: of a part, the friction of a finish, the base, or the total of a finish
pub data Kind : Type 0 where
  part : ℕ → Kind
  friction : ℕ → Kind
  base : Kind
  total : ℕ → Kind

-- the kind of row r among those of F finishes
abbrev pub kind_at : ℕ → ℕ → Kind
kind_at F r =
    cond (ltb r most_parts) (part r)
    (cond (ltb r (base_row F)) (friction (r - friction_row 0))
    (cond (eqb r (base_row F)) base (total (r - total_row F 0))))

module _ {A : Type 0} (P : Plane A) where
  -- a part's row
  abbrev pub row_from : Prepared → Settings → List A
  row_from p s = tab s.count (λ k. P.of_part p (mach_at s k))

  -- "or no part"
  unfoldable pub part_cell : Contents → ℕ → Float → A
  part_cell c i M = cond (ltb i (length c.parts)) (P.of_part (prepared_at c i) M) P.none

  -- by a row's kind, at a Mach and a Reynolds number
  unfoldable pub kind_cell : Contents → Kind → Float → Float → A
  kind_cell c (part i) M R = part_cell c i M
  kind_cell c (friction j) M R = P.of_body (friction_cell c j M R)
  kind_cell c base M R = P.of_body (base_cell c M)
  kind_cell c (total j) M R = P.of_total (λ i. part_cell c i M) (P.of_body (friction_cell c j M R)) (P.of_body (base_cell c M))

  -- of row r and column k
  abbrev pub cell_at : Contents → ℕ → ℕ → A
  cell_at c r k = kind_cell c (kind_at c.settings.finishes r) (mach_at c.settings k) (reynolds_at c.settings k)

  abbrev pub row_of : Contents → ℕ → List A
  row_of c r = tab c.settings.count (cell_at c r)

  unfoldable pub build : Contents → List A
  build c = laid (all_rows c.settings.finishes) (row_of c)
