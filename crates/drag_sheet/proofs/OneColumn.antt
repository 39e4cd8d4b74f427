-- A column by itself: the rows tried and the cells of a sheet with that column alone are those of the column in the sheet.
use mathlib.Core.Path.{◌≡◌, refl, ap, ◌∙◌}
use mathlib.Core.List.{List}
use Prim.Native.Nat.{ℕ, zero, suc, ◌<◌}
use lib.ListN.{length}
use lib.Ieee.{Float}
use Rattle.aero_error.specs.Checks.{◌then◌}
use Rattle.aero_error.specs.CheckLaws.{up_one, up_same}
use Rattle.sheet_data.specs.declared.Settings.{Settings}
use Rattle.sheet_data.specs.declared.Part.{Part}
use Rattle.sheet_data.specs.Layout.{all_rows}
use Rattle.sheet_data.specs.Contents.{Contents}
use Rattle.sheet_data.specs.Tables.{tab}
use Rattle.sheet_data.specs.Rows.{laid}
use Rattle.drag_sheet.specs.Formulas.{ready_test, friction_cell, base_cell}
use Rattle.drag_sheet.specs.Planes.{Plane}
use Rattle.drag_sheet.specs.Build.{Kind, part, friction, base, total, kind_at, prepared_at, part_cell, kind_cell, row_test, trial, cell_at, build}
use Rattle.drag_sheet.specs.Calls.{with_column, column_trial}
use Rattle.drag_sheet.specs.Edits.{one_column}
use Rattle.drag_sheet.proofs.Columns.{new_mach, new_reynolds}

module _ (s : Settings) (ps : List Part) (n : Float) (k : ℕ) (M R : Float) (machs : k < length s.machs) (reynolds : k < length s.reynolds) where
  -- the sheet with that column alone, and the sheet with that column put anew
  abbrev lone : Contents
  lone = record { settings = one_column s M R; parts = ps; nozzle = n }

  abbrev put : Contents
  put = record { settings = with_column s k M R; parts = ps; nozzle = n }

  pub column_tried : trial (record { settings = one_column s M R; parts = ps; nozzle = n }) ≡ column_trial k (record { settings = with_column s k M R; parts = ps; nozzle = n })
  unfolding trial row_test column_trial
  column_tried = up_same _ _ (length ps) (λ i l. ap (λ t. ready_test (prepared_at lone i) then t) (up_one _ ∙ rw (new_mach s k M R machs)))

  one_each : {A : Type 0} (n : ℕ) (f : ℕ → ℕ → A) (g : ℕ → A) → ((r : ℕ) → f r 0 ≡ g r) → laid n (λ r. tab 1 (f r)) ≡ tab n g
  unfolding laid tab
  one_each zero f g h = refl
  one_each (suc n) f g h = rw (h 0, one_each n (λ r. f (suc r)) (λ r. g (suc r)) (λ r. h (suc r)))

  module _ {A : Type 0} (P : Plane A) where
    -- a cell depends on the settings only where they are the same
    same_kind : (kind : Kind) → kind_cell P lone kind M R ≡ kind_cell P put kind M R
    unfolding kind_cell part_cell friction_cell base_cell
    same_kind (part i) = refl
    same_kind (friction j) = refl
    same_kind base = refl
    same_kind (total j) = refl

    pub column_built : build P (record { settings = one_column s M R; parts = ps; nozzle = n }) ≡ tab (all_rows s.finishes) (λ r. cell_at P (record { settings = with_column s k M R; parts = ps; nozzle = n }) r k)
    unfolding build
    column_built = one_each (all_rows s.finishes) (cell_at P lone) (λ r. cell_at P put r k) (λ r. same_kind (kind_at s.finishes r) ∙ rw (new_mach s k M R machs, new_reynolds s k M R reynolds))
