-- A curve's coefficient at a Mach number, and the curve of each shape (nose_drag.rs, `PressureDragCurve`). f is the fineness ratio, φ the joint angle.
use Rattle.aero_error.specs.Checks.{required, dimension, ◌and_then◌, ◌for_value◌, Coefficient}
use Rattle.std.specs.Prelude.{Result, Ok, Err, Some, None, Bool, true, false, cond, ◌&&◌, ◌||◌, Float}
use Rattle.std.proofs.Math.Option.{Option, none, some}
use Rattle.std.specs.Float.Ieee.{ne}
use Rattle.std.specs.Float.Ieee.Scale.{finite}
use Rattle.elementary.specs.Arithmetic.{◌⊕◌, ◌⊖◌, ◌⊗◌, ◌⊘◌, ◌≺◌, ◌≼◌, ◌≈◌}
use Rattle.elementary.specs.Steps.{LN}
use Rattle.elementary.specs.Tests.{between}
use Rattle.elementary.specs.Constants.{ln_2, 0·0, 0·5, 1·0}
use Rattle.aero_error.specs.declared.AeroError.{AeroError}
use Rattle.aero_error.specs.declared.AeroError.TheVariants.{Broken}
use Rattle.aero_error.specs.declared.Rule.TheVariants.{OgiveRadiusRatio, HaackAboveThird}
use Rattle.aero_error.specs.declared.Quantity.{Quantity}
use Rattle.aero_error.specs.declared.Quantity.TheVariants.{Fineness, PowerExponent, ParabolicParameter, HaackParameter}
use Rattle.aero_error.specs.Told.{Told, told_of}
use Rattle.drag.specs.Constants.{0·25, 3·0}
use Rattle.stoney.specs.Lookup.{subsonic_mach_limit}
use Rattle.drag.specs.Friction.{mach_checked}
use Rattle.drag.specs.Pressure.{joint_pressure_drag_coefficient}
use Rattle.shapes.specs.declared.NoseShape.{NoseShape}
use Rattle.shapes.specs.declared.NoseShape.TheVariants.{Conical, Ogive, Elliptical, PowerSeries, ParabolicSeries, Haack}
use Rattle.stoney.specs.declared.StoneyNose.TheVariants.{PowerQuarter, PowerHalf, PowerThreeQuarters, ParabolaHalf, ParabolaThreeQuarters, Parabola, LvHaack, VonKarman}
use Rattle.stoney.specs.declared.ValueAndSlope.{ValueAndSlope}
use Rattle.nose_drag.specs.declared.curve.Reference.{Reference}
use Rattle.nose_drag.specs.declared.curve.Transonic.{Transonic}
use Rattle.nose_drag.specs.declared.curve.PressureDragCurve.{PressureDragCurve}
use Rattle.nose_drag.specs.declared.builder.Bracket.{Bracket}
use Rattle.nose_drag.specs.Constants.{0·75, cone_3_rest, one_third}
use Rattle.nose_drag.specs.Forms.{sin_half_angle}
use Rattle.nose_drag.specs.Below.{rest_with, fit_with, fitted}
use Rattle.nose_drag.specs.Methods.{ogive_pressure_drag_factor, fineness_exponent, method_at}

-- the builder's answer
abbrev pub Curve : Type 0
Curve = Result PressureDragCurve AeroError

-- ---- a curve at a Mach number

abbrev pub curve_at : PressureDragCurve → Float → ValueAndSlope
curve_at curve M = fitted curve.rest curve.fit curve.mach_low (method_at curve.transonic) M

unfoldable pub coefficient_of : PressureDragCurve → Float → Coefficient
coefficient_of curve M = mach_checked M and_then Ok (curve_at curve M).value

-- ---- making a curve

-- from the value at rest, the method and M_L, with eq. 3.87's fit to the method at M_L
unfoldable pub from_transonic : Float → Transonic → Float → PressureDragCurve
from_transonic rest transonic ML =
    let low = method_at transonic ML in
    record {
      shape = None;
      fineness_ratio = 0·0;
      rest = rest_with rest low ML;
      mach_low = ML;
      fit = fit_with rest low ML;
      transonic = transonic;
    }

-- a flat face: the blunt cylinder at every Mach number
unfoldable pub step_curve : PressureDragCurve
step_curve = from_transonic 0·0 Transonic.Blunt 0·0

-- from fineness 1 the closed form; below it eq. B.9's form between the flat face and the whole curve at fineness 1
unfoldable pub cone_curve : Float → Float → Float → PressureDragCurve
cone_curve rest f factor =
    cond (1·0 ≼ f)
    (from_transonic rest (Transonic.Cone (sin_half_angle f) factor) 1·0)
    (from_transonic rest (Transonic.Scaled Reference.Blunt (Reference.Cone 1·0 factor rest) 1·0 (LN (f ⊕ 1·0) ⊘ ln_2)) 0·0)

unfoldable pub interpolated : Float → Float → Reference → Reference → Float → PressureDragCurve
interpolated rest f lower upper weight = from_transonic rest (Transonic.Scaled lower upper weight (fineness_exponent f)) subsonic_mach_limit

-- ---- which references a parameter lies between

-- the 3:1 cone, at rest 0.8 sin² ε with tan ε = 1/6
abbrev pub cone_3 : Reference
cone_3 = Reference.Cone 3·0 1·0 cone_3_rest

abbrev pub bracket : Reference → Reference → Float → Float → Bracket
bracket lower upper low high = record { lower = lower; upper = upper; low = low; high = high }

-- a power series x^n: the blunt cylinder at 0, Stoney's x^1/4, x^1/2 and x^3/4, the 3:1 cone at 1
unfoldable pub power_bracket : Float → Bracket
power_bracket n =
    cond (n ≺ 0·25)
    (bracket Reference.Blunt (Reference.Stoney PowerQuarter) 0·0 0·25)
    (cond (n ≺ 0·5)
    (bracket (Reference.Stoney PowerQuarter) (Reference.Stoney PowerHalf) 0·25 0·5)
    (cond (n ≺ 0·75)
    (bracket (Reference.Stoney PowerHalf) (Reference.Stoney PowerThreeQuarters) 0·5 0·75)
    (bracket (Reference.Stoney PowerThreeQuarters) cone_3 0·75 1·0)))

-- a parabolic series: the 3:1 cone at 0, Stoney's 1/2, 3/4 and full parabolas
unfoldable pub parabolic_bracket : Float → Bracket
parabolic_bracket k =
    cond (k ≺ 0·5)
    (bracket cone_3 (Reference.Stoney ParabolaHalf) 0·0 0·5)
    (cond (k ≺ 0·75)
    (bracket (Reference.Stoney ParabolaHalf) (Reference.Stoney ParabolaThreeQuarters) 0·5 0·75)
    (bracket (Reference.Stoney ParabolaThreeQuarters) (Reference.Stoney Parabola) 0·75 1·0))

-- how far the parameter lies from the lower to the upper one
unfoldable pub weight_of : Bracket → Float → Float
weight_of b parameter = (parameter ⊖ b.low) ⊘ (b.high ⊖ b.low)

unfoldable pub between_references : Float → Float → Bracket → Float → PressureDragCurve
between_references rest f b parameter = interpolated rest f b.lower b.upper (weight_of b parameter)

-- ---- the builder

-- "Ogive radius ratio NaN, infinite or below 1 is refusal 2."
unfoldable pub ogive : Float → Float → Float → Curve
ogive rest f radius-ratio =
    cond (finite radius-ratio && 1·0 ≼ radius-ratio)
    (ogive_pressure_drag_factor (1·0 ⊘ radius-ratio) for_value λ factor. Ok (cone_curve rest f factor))
    (Err (Broken OgiveRadiusRatio))

-- between the references around a parameter from 0 to 1
abbrev pub series : Float → Float → Bracket → Quantity → Float → Curve
series rest f b what parameter = required (between 0·0 parameter 1·0) what parameter and_then Ok (between_references rest f b parameter)

unfoldable pub power : Float → Float → Float → Curve
power rest f n = series rest f (power_bracket n) PowerExponent n

unfoldable pub parabolic : Float → Float → Float → Curve
parabolic rest f k = series rest f (parabolic_bracket k) ParabolicParameter k

-- "A Haack parameter above 1/3, +infinity too, is refusal 3; negative or NaN is refusal 1."
unfoldable pub haack : Float → Float → Float → Curve
haack rest f c =
    cond (one_third ≺ c)
    (Err (Broken HaackAboveThird))
    (required (between 0·0 c one_third) HaackParameter c and_then
    Ok (interpolated rest f (Reference.Stoney VonKarman) (Reference.Stoney LvHaack) (3·0 ⊗ c)))

abbrev pub shaped : NoseShape → Float → Float → Curve
shaped Conical f rest = Ok (cone_curve rest f 1·0)
shaped (Ogive radius-ratio) f rest = ogive rest f radius-ratio
shaped Elliptical f rest = Ok (from_transonic rest (Transonic.Ellipsoid f rest) 0·0)
shaped (PowerSeries n) f rest = power rest f n
shaped (ParabolicSeries k) f rest = parabolic rest f k
shaped (Haack c) f rest = haack rest f c

-- "`new` checks fineness, then joint angle; fineness 0 then gives the step whatever the shape parameter is."
unfoldable pub build : NoseShape → Float → Float → Curve
build shape f φ =
    required (dimension f true) Fineness f and_then
    joint_pressure_drag_coefficient φ for_value λ rest.
    cond (f ≈ 0·0) (Ok step_curve) (shaped shape f rest)

-- a shape that has a length is recorded with its fineness ratio
unfoldable pub recorded : NoseShape → Float → PressureDragCurve → PressureDragCurve
recorded shape f curve =
    cond (0·0 ≺ f)
    (record { shape = Some shape; fineness_ratio = f; rest = curve.rest; mach_low = curve.mach_low; fit = curve.fit; transonic = curve.transonic })
    curve

unfoldable pub new_curve : NoseShape → Float → Float → Curve
new_curve shape f φ = build shape f φ for_value λ curve. Ok (recorded shape f curve)

-- what the builder's answer tells: nothing where the curve is built
abbrev pub told_of_curve : Curve → Option Told
told_of_curve (Ok curve) = none
told_of_curve (Err e) = some (told_of e)

-- ---- whether a shape takes any of the closed-form cone; a NaN parameter counts
abbrev pub takes_cone_formula : NoseShape → Bool
takes_cone_formula Conical = true
takes_cone_formula (Ogive radius-ratio) = true
takes_cone_formula Elliptical = false
takes_cone_formula (PowerSeries n) = ne n n || 0·75 ≺ n
takes_cone_formula (ParabolicSeries k) = ne k k || k ≺ 0·5
takes_cone_formula (Haack c) = false
