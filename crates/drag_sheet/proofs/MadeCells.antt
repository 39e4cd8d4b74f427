-- A part's cell made with its mark, or refused: from what its curve answers to what it answers (`widening_made`, `widening_refused`), and from that to what holds of the cell by
-- itself and of its mark (`made_cell`, `refused_cell`).
use Rattle.std.specs.Prelude.{Ok, Err, Result}
use Rattle.aero_error.specs.Checks.{◌for_value◌, Check, Coefficient}
use mathlib.Core.Path.{◌≡◌, refl, sym, ap, ◌∙◌}
use mathlib.Core.Bool.{Bool, true, false, cond}
use mir.Val.{bool_byte}
use lib.Ieee.{Float}
use Rattle.elementary.specs.Arithmetic.{◌⊗◌}
use Rattle.aero_error.specs.declared.AeroError.{AeroError}
use Rattle.nose_drag.specs.declared.curve.PressureDrag.{PressureDrag}
use Rattle.nose_drag.specs.declared.curve.PressureDragCurve.{PressureDragCurve}
use Rattle.nose_drag.specs.Curves.{coefficient_of}
use Rattle.nose_drag.specs.Beyond.{curve_beyond, Drag, drag_of}
use Rattle.drag_sheet.specs.declared.part.MarkedCell.{MarkedCell}
use Rattle.drag_sheet.specs.declared.part.Row.{Row}
use Rattle.drag_sheet.specs.declared.part.Row.TheVariants.{Widening}
use Rattle.drag_sheet.proofs.Verdicts.{never}
use Rattle.drag_sheet.specs.Formulas.{cell_of, mark_of, marked_cell, value_of, made_test}

-- a mark's byte
pub byte_of : (b : Bool) → bool_byte b ≡ cond b 1 0
byte_of true = refl
byte_of false = refl

-- ---- from the curve's answer

module _ (curve : PressureDragCurve) (area M : Float) where
  abbrev answered : Coefficient → Drag
  answered c = c for_value λ v. Ok (record { value = v; beyond = curve_beyond curve M })

  abbrev scaled : Coefficient → Result MarkedCell AeroError
  scaled c = (c for_value λ v. Ok (v ⊗ area)) for_value λ v. Ok (record { value = v; mark = cond (curve_beyond curve M) 1 0 })

  pub widening_made : {drag : PressureDrag} → drag_of curve M ≡ Ok drag → marked_cell (Widening curve area) M ≡ Ok (record { value = drag.value ⊗ area; mark = cond drag.beyond 1 0 })
  unfolding drag_of marked_cell cell_of mark_of
  widening_made {drag} e = by (coefficient_of curve M) e
    where
      inner : Drag → PressureDrag
      inner (Ok d) = d
      inner (Err r) = drag

      by : (c : Coefficient) → answered c ≡ Ok drag → scaled c ≡ Ok (record { value = drag.value ⊗ area; mark = cond drag.beyond 1 0 })
      by (Ok v) e = ap (λ (d : PressureDrag). Ok (record { value = d.value ⊗ area; mark = cond d.beyond 1 0 })) (ap inner e)
      by (Err r) e = never refl e

  pub widening_refused : {e : AeroError} → drag_of curve M ≡ Err e → marked_cell (Widening curve area) M ≡ Err e
  unfolding drag_of marked_cell cell_of mark_of
  widening_refused {e} h = by (coefficient_of curve M) h
    where
      handed : Drag → Result MarkedCell AeroError
      handed (Ok d) = Ok (record { value = d.value; mark = 0 })
      handed (Err r) = Err r

      by : (c : Coefficient) → answered c ≡ Err e → scaled c ≡ Err e
      by (Ok v) h = never h refl
      by (Err r) h = ap handed h

-- ---- to the cell by itself

pub record MadeCell (row : Row) (M : Float) (cell : MarkedCell) : Type 0 where
  pub value : cell.value ≡ value_of (cell_of row M)
  pub mark : cell.mark ≡ mark_of row M
  pub test : made_test (cell_of row M) ≡ Ok tt

module _ (row : Row) (M : Float) where
  abbrev with_mark : Coefficient → Result MarkedCell AeroError
  with_mark c = c for_value λ v. Ok (record { value = v; mark = mark_of row M })

  pub made_cell : {cell : MarkedCell} → marked_cell row M ≡ Ok cell → MadeCell row M cell
  unfolding marked_cell
  made_cell {cell} e = by (cell_of row M) refl e
    where
      inner : Result MarkedCell AeroError → MarkedCell
      inner (Ok c) = c
      inner (Err r) = cell

      by : (c : Coefficient) → cell_of row M ≡ c → with_mark c ≡ Ok cell → MadeCell row M cell
      by (Ok v) q e =
          let same : record { value = v; mark = mark_of row M } ≡ cell = ap inner e in
          record { value = sym (ap (λ (x : MarkedCell). x.value) same) ∙ sym (ap value_of q); mark = sym (ap (λ (x : MarkedCell). x.mark) same); test = ap made_test q }
      by (Err r) q e = never refl e

  pub refused_cell : {e : AeroError} → marked_cell row M ≡ Err e → made_test (cell_of row M) ≡ Err e
  unfolding marked_cell
  refused_cell {e} h = by (cell_of row M) refl h
    where
      test_in : Result MarkedCell AeroError → Check
      test_in (Ok c) = Ok tt
      test_in (Err r) = Err r

      by : (c : Coefficient) → cell_of row M ≡ c → with_mark c ≡ Err e → made_test (cell_of row M) ≡ Err e
      by (Ok v) q h = never h refl
      by (Err r) q h = ap made_test q ∙ ap test_in h
