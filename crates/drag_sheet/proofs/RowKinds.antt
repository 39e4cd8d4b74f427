-- Which row stands where, and what its cells are.
use mathlib.Core.Path.{◌≡◌, refl, sym, ap, ◌∙◌, subst}
use mathlib.Core.Logic.{dite}
use mathlib.Core.List.{List}
use Prim.Native.Nat.{ℕ, zero, suc, ◌-◌, ◌≤◌, ◌<◌}
use native.Mathlib.Decide.{dec_lt}
use native.Mathlib.Omega.{arith}
use lib.ListN.{length, take, replicate}
use lib.Ieee.{Float}
use borrow.Author.Tests.{lt-ltb, le-ltb, eq-eqb, ne_eqb}
use Rattle.sheet_data.specs.Layout.{most_parts, friction_row, base_row, total_row}
use Rattle.sheet_data.specs.declared.Part.{Part}
use Rattle.sheet_data.specs.Contents.{Contents, fore_at, part_taken}
use Rattle.sheet_data.specs.Tables.{tab_long, tab_same, tab_constant}
use Rattle.drag_sheet.specs.Formulas.{friction_cell}
use Rattle.drag_sheet.specs.Planes.{Plane}
use Rattle.drag_sheet.specs.Build.{part, friction, base, total, kind_at, prepared_at, part_cell, kind_cell, row_from, row_test, trial, row_of}
use Rattle.drag_sheet.specs.Calls.{with_nozzle}

pub kind_part : (F r : ℕ) → r < most_parts → kind_at F r ≡ part r
kind_part F r h = rw (lt-ltb r most_parts h)

pub kind_friction : (F j : ℕ) → j < F → kind_at F (friction_row j) ≡ friction j
kind_friction F j h =
    let e : friction_row j - friction_row 0 ≡ j = omega arith in
    rw (le-ltb (friction_row j) most_parts (omega arith), lt-ltb (friction_row j) (base_row F) (omega arith), e)

pub kind_base : (F : ℕ) → kind_at F (base_row F) ≡ base
kind_base F = rw (le-ltb (base_row F) most_parts (omega arith), le-ltb (base_row F) (base_row F) (omega arith), eq-eqb (base_row F) (base_row F) refl)

pub kind_total : (F r : ℕ) → total_row F 0 ≤ r → kind_at F r ≡ total (r - total_row F 0)
kind_total F r h = rw (le-ltb r most_parts (omega arith), le-ltb r (base_row F) (omega arith), ne_eqb r (base_row F) (λ e. omega arith))

module _ {A : Type 0} (P : Plane A) where
  pub row_wide : (c : Contents) (r : ℕ) → length (row_of P c r) ≡ c.settings.count
  row_wide c r = tab_long c.settings.count _

  -- the row of a part
  pub part_row : (c : Contents) (i : ℕ) → i < most_parts → i < length c.parts → row_from P (prepared_at c i) c.settings ≡ row_of P c i
  unfolding kind_cell part_cell
  part_row c i h l = tab_same c.settings.count _ _ (λ k m. sym (rw (kind_part c.settings.finishes i h, lt-ltb i (length c.parts) l)))

  -- a row without a part
  pub no_part : (c : Contents) (i : ℕ) → i < most_parts → length c.parts ≤ i → replicate c.settings.count P.none ≡ row_of P c i
  unfolding kind_cell part_cell
  no_part c i h l = tab_constant c.settings.count P.none ∙ tab_same c.settings.count _ _ (λ k m. sym (rw (kind_part c.settings.finishes i h, le-ltb i (length c.parts) l)))

-- ---- what doesn't depend on the nozzle diameter: the trial of the rows, the part rows and the friction rows

module _ (n : Float) (c : Contents) where
  pub same_trial : trial (with_nozzle n c) ≡ trial c
  unfolding trial row_test
  same_trial = refl

  -- a row that stands above the base row
  pub above_base : {A : Type 0} (P : Plane A) (r : ℕ) → r < base_row c.settings.finishes → row_of P (with_nozzle n c) r ≡ row_of P c r
  unfolding kind_cell part_cell friction_cell
  above_base P r h =
      let j = r - friction_row 0 in
      dite (dec_lt r most_parts)
      (λ l. tab_same c.settings.count _ _ (λ k m. rw (kind_part c.settings.finishes r l)))
      (λ l. let e : friction_row j ≡ r = omega arith in subst (λ q. row_of P (with_nozzle n c) q ≡ row_of P c q) e (tab_same c.settings.count _ _ (λ k m. rw (kind_friction c.settings.finishes j (omega arith)))))

-- the fore diameter of a place of the design, looked up among the parts that count
pub fore_taken : (n i : ℕ) (ps : List Part) → i ≤ n → fore_at ps i ≡ fore_at (take n ps) i
unfolding fore_at
fore_taken n zero ps h = refl
fore_taken n (suc i) ps h = ap (λ (p : Part). p.aft_diameter) (sym (part_taken n i ps (omega arith)))
