-- What a curve refuses: at a Mach number that passed its test nothing, and when it is made only with refusals 1, 2 and 3.
use Rattle.std.specs.Prelude.{◌≡◌, refl, ◌⊎◌, Bool, true, false, cond, ◌&&◌, Float, Ok, Err}
use Rattle.nose_drag.specs.Curves.{curve_at, coefficient_of, step_curve, ogive, power, parabolic, haack, shaped, build, new_curve, Curve}
use Rattle.std.proofs.Common.{subst, inl, inr}
use Rattle.std.specs.Float.Ieee.Scale.{finite}
use Rattle.elementary.specs.Arithmetic.{◌⊗◌, ◌⊘◌, ◌≺◌, ◌≼◌, ◌≈◌}
use Rattle.elementary.specs.Steps.{SIN}
use Rattle.elementary.specs.Tests.{between}
use Rattle.elementary.specs.Constants.{0·0, 0·8, 1·0}
use Rattle.aero_error.specs.declared.AeroError.{AeroError}
use Rattle.aero_error.specs.declared.AeroError.TheVariants.{Domain, Broken}
use Rattle.aero_error.specs.declared.Rule.TheVariants.{OgiveRadiusRatio, HaackAboveThird}
use Rattle.aero_error.specs.declared.Quantity.{Quantity}
use Rattle.aero_error.specs.Checks.{required, dimension, ◌and_then◌, ◌for_value◌}
use Rattle.drag.specs.Constants.{π/2}
use Rattle.drag.specs.Friction.{mach_checked}
use Rattle.drag.specs.Pressure.{joint_pressure_drag_coefficient}
use Rattle.shapes.specs.declared.NoseShape.{NoseShape}
use Rattle.shapes.specs.declared.NoseShape.TheVariants.{Conical, Ogive, Elliptical, PowerSeries, ParabolicSeries, Haack}
use Rattle.nose_drag.specs.declared.curve.PressureDragCurve.{PressureDragCurve}
use Rattle.nose_drag.specs.Constants.{one_third}
use Rattle.nose_drag.specs.Methods.{ogive_pressure_drag_factor}

-- every curve has a value at every Mach number of a sheet
pub curve_answered : (curve : PressureDragCurve) (M : Float) → mach_checked M ≡ Ok tt → coefficient_of curve M ≡ Ok (curve_at curve M).value
unfolding coefficient_of
curve_answered curve M h = rw h

-- ---- a curve that isn't made

-- 1, 2 or 3
abbrev pub CurveRefusal : AeroError → Type 0
CurveRefusal (Domain what value) = Unit {0}
CurveRefusal (Broken rule) = (rule ≡ OgiveRadiusRatio) ⊎ (rule ≡ HaackAboveThird)

abbrev Fair : Curve → Type 0
Fair (Ok curve) = Unit {0}
Fair (Err e) = CurveRefusal e

fair_after : (ok : Bool) (what : Quantity) (x : Float) (next : Curve) → Fair next → Fair (required ok what x and_then next)
fair_after true what x next h = h
fair_after false what x next h = tt

fair_value : (ok : Bool) (what : Quantity) (x v : Float) (next : Float → Curve) → Fair (next v) → Fair ((required ok what x and_then Ok v) for_value next)
fair_value true what x v next h = h
fair_value false what x v next h = tt

fair_cond : (b : Bool) (one other : Curve) → Fair one → Fair other → Fair (cond b one other)
fair_cond true one other h k = h
fair_cond false one other h k = k

fair_built : (curve : Curve) (g : PressureDragCurve → PressureDragCurve) → Fair curve → Fair (curve for_value λ c. Ok (g c))
fair_built (Ok c) g h = tt
fair_built (Err e) g h = h

fair_shape : (shape : NoseShape) (f rest : Float) → Fair (shaped shape f rest)
unfolding ogive power parabolic haack ogive_pressure_drag_factor
fair_shape Conical f rest = tt
fair_shape (Ogive ratio) f rest = fair_cond (finite ratio && 1·0 ≼ ratio) _ _ (fair_value (between 0·0 (1·0 ⊘ ratio) 1·0) _ _ _ _ tt) (inl refl)
fair_shape Elliptical f rest = tt
fair_shape (PowerSeries n) f rest = fair_after (between 0·0 n 1·0) _ _ _ tt
fair_shape (ParabolicSeries k) f rest = fair_after (between 0·0 k 1·0) _ _ _ tt
fair_shape (Haack c) f rest = fair_cond (one_third ≺ c) _ _ (inr refl) (fair_after (between 0·0 c one_third) _ _ _ tt)

fair_joint : (φ : Float) (next : Float → Curve) → ((rest : Float) → Fair (next rest)) → Fair (joint_pressure_drag_coefficient φ for_value next)
unfolding joint_pressure_drag_coefficient
fair_joint φ next h = fair_value (between 0·0 φ π/2) _ φ (0·8 ⊗ SIN φ ⊗ SIN φ) next (h _)

pub curve_refusals : (shape : NoseShape) (f φ : Float) (e : AeroError) → new_curve shape f φ ≡ Err e → CurveRefusal e
unfolding new_curve build
curve_refusals shape f φ e h =
    subst Fair h
    (fair_built (build shape f φ) _
    (fair_after (dimension f true) _ f _ (fair_joint φ _ (λ rest. fair_cond (f ≈ 0·0) (Ok step_curve) (shaped shape f rest) tt (fair_shape shape f rest)))))
