-- The values of docs/REFERENCE.md, Values, that are shown by a theorem, the starred ones: each row is a definition's answer and the answer that is given there,
-- and one theorem computes them all. A layer above adds its rows to `starred`.
use Rattle.std.specs.Prelude.{ℕ, ◌≡◌, refl, false, List, [], ◌∷◌, ◌++◌, map, Float, Ok, Err}
use Rattle.aero_error.specs.Checks.{dimension, Coefficient}
use Rattle.nose_drag.specs.Curves.{coefficient_of, step_curve, from_transonic, new_curve, build, recorded, Curve}
use Rattle.std.specs.Float.{binary64, nan, inf}
use Rattle.std.specs.Float.Ieee.{add, sub, mul, div, sum, round, neg, lt, le, eq, of_bits, of_int, is_nan}
use Rattle.elementary.specs.Arithmetic.{whole, bits}
use Rattle.elementary.specs.Steps.{LN, POW, pow_steps, ln_steps, ln_sum}
use Rattle.elementary.specs.Split.{split_of}
use Rattle.elementary.specs.Tests.{between}
use Rattle.aero_error.specs.Refusals.{number_of, code_of}
use Rattle.elementary.specs.Constants.{0·0, 0·5, 0·8, 1·0}
use Rattle.drag.specs.Constants.{0·0148, 0·12, 0·25, 0·85, 3·0}
use Rattle.drag.specs.Friction.{mach_checked, turbulent_friction, critical_reynolds, incompressible, compressible, friction_on, skin_friction_coefficient}
use Rattle.drag.specs.Pressure.{base_drag, base_drag_coefficient, boattail_share, boattail_factor, stagnation_ratio, joint_pressure_drag_coefficient}
use Rattle.shapes.specs.declared.NoseShape.TheVariants.{PowerSeries}
use Rattle.stoney.specs.declared.StoneyNose.TheVariants.{Ellipsoid}
use Rattle.stoney.specs.Points.{points}
use Rattle.stoney.specs.Lookup.{value_and_slope, lookup, walk, before, line}
use Rattle.nose_drag.specs.declared.curve.PressureDragCurve.{PressureDragCurve}
use Rattle.nose_drag.specs.Forms.{blunt, stagnation_drag_slope}
use Rattle.nose_drag.specs.Below.{fitted, fit_with, rest_with, fit_of, quadratic_at}
use Rattle.nose_drag.specs.Methods.{fineness_scaled_pressure_drag}

-- an answer as it is written there: a value, a curve, or a refusal's number and its code
pub data Answer : Type 0 where
  value : Float → Answer
  curve : PressureDragCurve → Answer
  refusal : ℕ → ℕ → Answer

abbrev pub answer : Coefficient → Answer
answer (Ok x) = value x
answer (Err e) = refusal (number_of e) (code_of e)

abbrev pub built : Curve → Answer
built (Ok c) = curve c
built (Err e) = refusal (number_of e) (code_of e)

abbrev pub Row : Type 0
Row = Answer × Answer

-- the binary64 number nearest a decimal
abbrev pub decimal : ℕ → ℕ → Float
decimal n d = round binary64 false n d

abbrev pub defined : Row → Answer
defined row = row.0

abbrev pub given : Row → Answer
given row = row.1

-- what drag.rs answers
abbrev pub drag_values : List Row
drag_values =
    -- base at 0 and at 1
    (answer (base_drag_coefficient (whole 0)), value 0·12)
    ∷ (answer (base_drag_coefficient (whole 1)), value 0·25)
    -- boattail (length, fore, aft)
    ∷ (answer (boattail_factor (whole 1) (whole 2) (whole 1)), value (whole 1))
    ∷ (answer (boattail_factor (whole 2) (whole 2) (whole 1)), value 0·5)
    ∷ (answer (boattail_factor (whole 3) (whole 2) (whole 1)), value (whole 0))
    -- skin friction of Reynolds number, roughness, Mach
    ∷ (answer (skin_friction_coefficient (whole 9999) nan (whole 0)), value 0·0148)
    ∷ (answer (skin_friction_coefficient (whole 10000) nan (whole 0)), refusal 1 18)
    ∷ []

drag_hold : map defined drag_values ≡ map given drag_values
unfolding add sub mul div sum round neg lt le eq of_bits of_int dimension mach_checked turbulent_friction critical_reynolds incompressible compressible friction_on skin_friction_coefficient base_drag base_drag_coefficient boattail_share boattail_factor
drag_hold = refl

-- the ellipsoid's table at 0.8, 1.2 and 5
abbrev pub table_values : List Row
table_values =
    (value (value_and_slope Ellipsoid 0·8).value, value 0·0)
    ∷ (value (value_and_slope Ellipsoid (bits 0x3ff3_3333_3333_3333)).value, value (bits 0x3fbc_6a7e_f9db_22d1))
    ∷ (value (value_and_slope Ellipsoid (bits 0x4014_0000_0000_0000)).value, value (bits 0x3fc4_3958_1062_4dd3))
    ∷ []

table_hold : map defined table_values ≡ map given table_values
unfolding value_and_slope lookup walk before line points of_bits round sum neg add sub mul div lt eq le
table_hold = refl

-- those numbers are 1.2, 5, 0.111 and 0.158
pub table_decimals : (decimal 12 10 ∷ decimal 5 1 ∷ decimal 111 1000 ∷ decimal 158 1000 ∷ []) ≡ (bits 0x3ff3_3333_3333_3333 ∷ bits 0x4014_0000_0000_0000 ∷ bits 0x3fbc_6a7e_f9db_22d1 ∷ bits 0x3fc4_3958_1062_4dd3 ∷ [])
unfolding of_bits round
table_decimals = refl

-- the step at Mach 0; fineness -0, angle 0 and a power exponent NaN give the step
abbrev pub step_values : List Row
step_values =
    (answer (coefficient_of step_curve 0·0), value 0·85)
    ∷ (built (new_curve (PowerSeries nan) (neg 0·0) 0·0), curve step_curve)
    ∷ []

step_hold : map defined step_values ≡ map given step_values
unfolding add sub mul div sum round neg lt le eq of_bits dimension mach_checked stagnation_ratio joint_pressure_drag_coefficient coefficient_of step_curve from_transonic fitted fit_with rest_with fit_of quadratic_at blunt stagnation_drag_slope new_curve build recorded between
step_hold = refl

-- scaling with c3 = 0 and c0 = 1 at fineness 0 and 3; and the critical Reynolds number of roughness 0
abbrev pub scaling_values : List Row
scaling_values =
    (answer (fineness_scaled_pressure_drag 0·0 1·0 0·0), value 1·0)
    ∷ (answer (fineness_scaled_pressure_drag 0·0 1·0 3·0), value 0·0)
    ∷ (answer (critical_reynolds 0·0), value (inf false))
    ∷ []

scaling_hold : map defined scaling_values ≡ map given scaling_values
unfolding add sub mul div sum round neg lt le eq of_bits of_int dimension POW pow_steps LN ln_steps ln_sum split_of fineness_scaled_pressure_drag critical_reynolds is_nan
scaling_hold = refl

abbrev pub starred : List Row
starred = drag_values ++ table_values ++ step_values ++ scaling_values

together : {a b c d : List Answer} → a ≡ b → c ≡ d → (a ++ c) ≡ (b ++ d)
together e h = rw (e, h)

pub starred_hold : map defined starred ≡ map given starred
starred_hold = together (together (together drag_hold table_hold) step_hold) scaling_hold
