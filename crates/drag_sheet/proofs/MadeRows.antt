-- The rows as the functions make them: a part's, the friction rows, the base row, and the totals written one after the other.
use Rattle.aero_error.specs.Checks.{Check}
use mathlib.Core.Path.{◌≡◌, sym, ap, ◌∙◌}
use mathlib.Core.List.{List}
use Prim.Native.Nat.{ℕ, ◌+◌, ◌-◌, ◌*◌, ◌≤◌, ◌<◌}
use native.Mathlib.Omega.{arith}
use lib.ListN.{length, get_or}
use lib.Seq.{length-take-le}
use lib.Ieee.{Float, nan}
use Rattle.sheet_data.specs.declared.Part.{Part}
use Rattle.sheet_data.specs.declared.Sheet.{Sheet}
use Rattle.sheet_data.specs.Layout.{most_parts, friction_row, base_row, total_row, all_rows, needed}
use Rattle.sheet_data.specs.Contents.{Contents, contents_of, parts_of, part_at, part_taken, fore_at, mach_at, reynolds_at}
use Rattle.sheet_data.specs.Tables.{tab, tab_long, tab_same}
use Rattle.sheet_data.specs.Rows.{from, row_at, written}
use Rattle.sheet_data.specs.RowLaws.{from_below, before_all, wrote, RowsDone, rows_next}
use Rattle.drag_sheet.specs.Formulas.{prepared_of, base_area, base_cell}
use Rattle.drag_sheet.specs.Body.{base_over, friction_row_cells}
use Rattle.drag_sheet.specs.Planes.{Plane, cell_plane}
use Rattle.drag_sheet.specs.Build.{kind_cell, prepared_at, row_test_from, row_from, row_test, row_of}
use Rattle.drag_sheet.specs.Writing.{parts_there, Filled, there, total_there}
use Rattle.drag_sheet.specs.Edits.{RowAsked}
use Rattle.drag_sheet.proofs.Verdicts.{filled_same}
use Rattle.drag_sheet.specs.Formulas.{sum_same}
use Rattle.drag_sheet.proofs.RowKinds.{kind_friction, kind_base, part_row, fore_taken}

-- what was prepared for a place of a sheet is what its contents have there
pub row_made : {A : Type 0} (P : Plane A) (sheet : Sheet) (place : ℕ) (f : Float) (p : Part) → length sheet.design.parts ≡ most_parts → {width : ℕ} → RowAsked sheet place width
    → f ≡ fore_at sheet.design.parts place → p ≡ part_at sheet.design.parts place → {r : Check} {out : List A}
    → Filled (row_test_from (prepared_of sheet.settings.reference_diameter f p) sheet.settings) (row_from P (prepared_of sheet.settings.reference_diameter f p) sheet.settings) r out
    → Filled (row_test (contents_of sheet) place) (row_of P (contents_of sheet) place) r out
unfolding row_test
row_made P sheet place f p l a e q h =
    let d = sheet.design in
    let n : length (parts_of d) ≡ d.count = length-take-le d.count d.parts (omega (arith, a.parts)) in
    let same : prepared_of sheet.settings.reference_diameter f p ≡ prepared_at (contents_of sheet) place =
    rw (e, q, fore_taken d.count place d.parts (omega (arith, a.inside)), part_taken d.count place d.parts a.inside) in
    filled_same (rw same) (rw same (part_row P (contents_of sheet) place (omega (arith, a.parts, a.inside)) (omega (arith, a.inside)))) h

-- ---- the rows of the whole body, as the functions fill them

module _ (c : Contents) where
  pub friction_made : (j : ℕ) → j < c.settings.finishes → friction_row_cells c j ≡ row_of cell_plane c (friction_row j)
  unfolding kind_cell
  friction_made j h = tab_same c.settings.count _ _ (λ k l. sym (ap (λ z. kind_cell cell_plane c z (mach_at c.settings k) (reynolds_at c.settings k)) (kind_friction c.settings.finishes j h)))

  pub base_made : tab c.settings.count (λ k. base_over (base_area c) (mach_at c.settings k)) ≡ row_of cell_plane c (base_row c.settings.finishes)
  unfolding kind_cell base_cell
  base_made = tab_same c.settings.count _ _ (λ k l. sym (ap (λ z. kind_cell cell_plane c z (mach_at c.settings k) (reynolds_at c.settings k)) (kind_base c.settings.finishes)))

-- ---- totals

-- sums of the part rows are of these alone
pub parts_same : (C : ℕ) (xs ys : List Float) → ((r : ℕ) → r < most_parts → row_at C xs r ≡ row_at C ys r) → parts_there C xs ≡ parts_there C ys
parts_same C xs ys same = tab_same C _ _ (λ k l. sum_same most_parts _ _ (λ i u. ap (λ row. get_or row k nan) (same i u)))

-- a total adds only rows that stand above the totals
total_same : (F C j : ℕ) (xs ys : List Float) → j < F → ((r : ℕ) → r < total_row F 0 → row_at C xs r ≡ row_at C ys r) → total_there cell_plane F C xs j ≡ total_there cell_plane F C ys j
total_same F C j xs ys h same =
    tab_same C _ _ (λ k l.
    rw (sum_same most_parts (λ i. there cell_plane C xs i k) (λ i. there cell_plane C ys i k) (λ i u. ap (λ row. get_or row k nan) (same i (omega arith))), same (friction_row j) (omega arith), same (base_row F) (omega arith)))

-- the total rows written so far
abbrev pub TotalsDone : ℕ → ℕ → List Float → List Float → ℕ → Type 0
TotalsDone F C xs₀ xs j = RowsDone C (λ r. total_there cell_plane F C xs₀ (r - total_row F 0)) (total_row F 0) F xs₀ xs j

-- the rows above the totals are as they were
pub above_kept : (F C j : ℕ) (xs₀ xs : List Float) → TotalsDone F C xs₀ xs j → needed F C ≤ length xs₀ → j ≤ F → (r : ℕ) → r < total_row F 0 → row_at C xs r ≡ row_at C xs₀ r
above_kept F C j xs₀ xs d fits h r u =
    let T = total_row F 0 in
    let w = wrote C (all_rows F) (λ r. total_there cell_plane F C xs₀ (r - T)) (from T j) xs₀ (λ r u. tab_long C _) fits (from_below T j (all_rows F) (omega arith)) in
    ap (λ (zs : List Float). row_at C zs r) d.done ∙ w.kept r (before_all T j r u)

-- a total of the cells as they are by then is one of the cells as they were
pub total_next : (F C j : ℕ) (xs₀ xs ys : List Float) → TotalsDone F C xs₀ xs j → needed F C ≤ length xs₀ → j < F → length ys ≡ length xs
    → ys ≡ written (total_row F j * C) (total_there cell_plane F C xs j) xs → TotalsDone F C xs₀ ys (j + 1)
total_next F C j xs₀ xs ys d fits h l e =
    let T = total_row F 0 in
    let same = total_same F C j xs xs₀ h (above_kept F C j xs₀ xs d fits (omega arith)) in
    let p : T + j ≡ total_row F j = omega arith in
    let q : T + j - T ≡ j = omega arith in
    rows_next d ys h l (e ∙ rw (q, p, same))
