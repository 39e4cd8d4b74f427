-- The functions that fill a row are lent the columns that count: a row over them is the row of the settings.
use Rattle.std.specs.Prelude.{Ok}
use Rattle.aero_error.specs.Checks.{up_to, Check}
use mathlib.Core.Path.{◌≡◌, ap, ◌∙◌}
use mathlib.Core.List.{List}
use Prim.Native.Nat.{ℕ, ◌≤◌}
use lib.ListN.{length, take, get_or, replicate}
use Rattle.std.proofs.lemmas.List.{take-replicate}
use Rattle.sheet_data.specs.Layout.{most_columns}
use lib.Seq.{length-take-le, get_or-take}
use lib.Ieee.{Float, nan}
use Rattle.aero_error.specs.CheckLaws.{up_same}
use Rattle.sheet_data.specs.declared.Settings.{Settings}
use Rattle.sheet_data.specs.Contents.{mach_at}
use Rattle.sheet_data.specs.Tables.{tab, tab_same}
use Rattle.drag_sheet.specs.declared.part.Row.{Row}
use Rattle.drag_sheet.specs.Formulas.{cell_of, made_test}
use Rattle.drag_sheet.specs.Planes.{Plane}
use Rattle.drag_sheet.specs.Build.{row_test_from, row_from}
use Rattle.drag_sheet.specs.Writing.{Filled}
use Rattle.drag_sheet.proofs.Verdicts.{filled_same}

-- so many of what a row is filled or added up from
pub zero_row : {A : Type 0} (n : ℕ) (v : A) → n ≤ most_columns → take n (replicate most_columns v) ≡ replicate n v
zero_row n v h = take-replicate n most_columns v h

-- a part's row in a plane, filled by what the row holds at each Mach number
pub taken_row : {A : Type 0} (P : Plane A) (at : Float → A) (row : Row) (s : Settings) → s.count ≤ length s.machs → ((M : Float) → at M ≡ P.of_part (Ok row) M) → {r : Check} {out : List A}
    → Filled (up_to (length (take s.count s.machs)) (λ k. made_test (cell_of row (get_or (take s.count s.machs) k nan)))) (tab (length (take s.count s.machs)) (λ k. at (get_or (take s.count s.machs) k nan))) r out
    → Filled (row_test_from (Ok row) s) (row_from P (Ok row) s) r out
taken_row P at row s h same f =
    let n = length-take-le s.count s.machs h in
    filled_same
    (rw n (up_same _ _ s.count (λ i l. ap (λ M. made_test (cell_of row M)) (get_or-take s.count s.machs i nan l))))
    (rw n (tab_same s.count _ _ (λ i l. ap at (get_or-take s.count s.machs i nan l) ∙ same (mach_at s i))))
    f

pub taken_cells : (f : Float → Float) (s : Settings) → tab s.count (λ k. f (get_or (take s.count s.machs) k nan)) ≡ tab s.count (λ k. f (mach_at s k))
taken_cells f s = tab_same s.count _ _ (λ i l. ap f (get_or-take s.count s.machs i nan l))
