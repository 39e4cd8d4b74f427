-- What `new_curve` makes of a shape that lies between two references, whatever its fineness ratio and its joint angle: a curve that from Mach 0.8 on is those two
-- references, interpolated by the weight of the upper one and scaled by eq. B.9. `midway` names both references and the weight in the middle of every gap.
use Rattle.std.specs.Prelude.{◌≡◌, refl, Bool, true, false, cond, [], ◌∷◌, map, ℕ, Float, Ok, Err}
use Rattle.aero_error.specs.Checks.{required, dimension, Check, Coefficient, ◌and_then◌, ◌for_value◌}
use Rattle.nose_drag.specs.Curves.{cone_3, coefficient_of, from_transonic, interpolated, step_curve, power_bracket, parabolic_bracket, weight_of, between_references, power, parabolic, haack, shaped, build, recorded, new_curve, Curve}
use Rattle.std.proofs.Common.{sym, ◌∙◌, arith}
use Rattle.std.proofs.Math.Path.{ap}
use Rattle.std.proofs.Math.Option.{Option, none, some}
use Rattle.std.specs.Float.Ieee.{of_bits, round, sum, neg, add, sub, mul, div, lt, le, eq}
use Rattle.elementary.specs.Arithmetic.{◌⊗◌, ◌≺◌, ◌≼◌, ◌≈◌, bits}
use Rattle.elementary.specs.Tests.{between}
use Rattle.elementary.specs.Constants.{0·0, 0·5, 0·8, 1·0}
use Rattle.aero_error.specs.declared.AeroError.{AeroError}
use Rattle.aero_error.specs.declared.AeroError.TheVariants.{Broken}
use Rattle.aero_error.specs.declared.Rule.TheVariants.{HaackAboveThird}
use Rattle.aero_error.specs.declared.Quantity.TheVariants.{Fineness, PowerExponent, ParabolicParameter, HaackParameter}
use Rattle.drag.specs.Constants.{0·25, 3·0}
use Rattle.drag.specs.Friction.{mach_checked}
use Rattle.drag.specs.Pressure.{joint_pressure_drag_coefficient}
use Rattle.shapes.specs.declared.NoseShape.{NoseShape}
use Rattle.shapes.specs.declared.NoseShape.TheVariants.{PowerSeries, ParabolicSeries, Haack}
use Rattle.stoney.specs.declared.StoneyNose.{StoneyNose}
use Rattle.stoney.specs.declared.StoneyNose.TheVariants.{PowerQuarter, PowerHalf, PowerThreeQuarters, ParabolaHalf, ParabolaThreeQuarters, Parabola, LvHaack, VonKarman}
use Rattle.stoney.specs.Lookup.{value_and_slope}
use Rattle.nose_drag.specs.declared.curve.Reference.{Reference}
use Rattle.nose_drag.specs.declared.curve.Transonic.{Transonic}
use Rattle.nose_drag.specs.declared.curve.PressureDragCurve.{PressureDragCurve}
use Rattle.nose_drag.specs.Constants.{0·75, one_third}
use Rattle.nose_drag.specs.Forms.{blunt}
use Rattle.nose_drag.specs.Below.{fitted}
use Rattle.nose_drag.specs.Weights.{0·625}
use Rattle.nose_drag.specs.Methods.{reference_at, scaled, fineness_scaled, fineness_exponent}

-- ---- the middle of every gap

-- the two references of a curve, and the weight of the upper one
abbrev method_references : Transonic → Option (Reference × Reference × Float)
method_references Transonic.Blunt = none
method_references (Transonic.Cone s factor) = none
method_references (Transonic.Scaled lower upper weight exponent) = some (lower, upper, weight)
method_references (Transonic.Ellipsoid f rest) = none

abbrev references : Curve → Option (Reference × Reference × Float)
references (Ok curve) = method_references curve.transonic
references (Err e) = none

-- 1/8, 3/8 and 7/8; 5/8 is among the weights
abbrev 0·125 : Float
0·125 = bits 0x3fc0000000000000

abbrev 0·375 : Float
0·375 = bits 0x3fd8000000000000

abbrev 0·875 : Float
0·875 = bits 0x3fec000000000000

-- midway in each gap, of a nose of fineness 3 with a smooth joint: the lower reference, the upper one, and one half
pub midway :
    map (λ shape. references (new_curve shape 3·0 0·0))
    (PowerSeries 0·125 ∷ PowerSeries 0·375 ∷ PowerSeries 0·625 ∷ PowerSeries 0·875 ∷
    ParabolicSeries 0·25 ∷ ParabolicSeries 0·625 ∷ ParabolicSeries 0·875 ∷
    Haack (one_third ⊗ 0·5) ∷ [])
    ≡
    some (Reference.Blunt, Reference.Stoney PowerQuarter, 0·5) ∷
    some (Reference.Stoney PowerQuarter, Reference.Stoney PowerHalf, 0·5) ∷
    some (Reference.Stoney PowerHalf, Reference.Stoney PowerThreeQuarters, 0·5) ∷
    some (Reference.Stoney PowerThreeQuarters, cone_3, 0·5) ∷
    some (cone_3, Reference.Stoney ParabolaHalf, 0·5) ∷
    some (Reference.Stoney ParabolaHalf, Reference.Stoney ParabolaThreeQuarters, 0·5) ∷
    some (Reference.Stoney ParabolaThreeQuarters, Reference.Stoney Parabola, 0·5) ∷
    some (Reference.Stoney VonKarman, Reference.Stoney LvHaack, 0·5) ∷ []
unfolding new_curve build recorded power parabolic haack power_bracket parabolic_bracket between_references weight_of interpolated from_transonic dimension between
    joint_pressure_drag_coefficient of_bits round sub add sum neg mul div lt le eq
midway = refl

-- ---- any fineness ratio and joint angle

-- a shape lies between two references: its curve of any length is interpolated between them
pub record Between (shape : NoseShape) (lower upper : Reference) (weight : Float) : Type 0 where
  pub curve : (f rest : Float) (curve : PressureDragCurve) → shaped shape f rest ≡ Ok curve → curve ≡ interpolated rest f lower upper weight

abbrev pub built : Curve → PressureDragCurve
built (Ok curve) = curve
built (Err e) = step_curve

pub none_built : {A : Type 0} {r : AeroError} {curve : PressureDragCurve} → Err r ≡ Ok curve → A
none_built e = let z : ◌≡◌ {A = ℕ} 0 1 = cc in absurd (omega arith)

-- a built curve is the step where there is no length, else the shape's own; recorded
pub record Made (shape : NoseShape) (f : Float) (curve : PressureDragCurve) : Type 0 where
  pub rest : Float
  pub inner : PressureDragCurve
  pub own : cond (f ≈ 0·0) (Ok step_curve) (shaped shape f rest) ≡ Ok inner
  pub same : curve ≡ recorded shape f inner

pub made : (shape : NoseShape) (f φ : Float) (curve : PressureDragCurve) → new_curve shape f φ ≡ Ok curve → Made shape f curve
unfolding new_curve build
made shape f φ curve e = first (required (dimension f true) Fineness f) (joint_pressure_drag_coefficient φ) e
  where
    record_it : PressureDragCurve → Curve
    record_it inner = Ok (recorded shape f inner)

    after_joint : Float → Curve
    after_joint rest = cond (f ≈ 0·0) (Ok step_curve) (shaped shape f rest)

    taken : (rest : Float) (c : Curve) → after_joint rest ≡ c → (c for_value record_it) ≡ Ok curve → Made shape f curve
    taken rest (Ok inner) own e = record { rest = rest; inner = inner; own = own; same = ap built (sym e) }
    taken rest (Err r) own e = none_built e

    first : (c : Check) (j : Coefficient) → ((c and_then (j for_value after_joint)) for_value record_it) ≡ Ok curve → Made shape f curve
    first (Err r) j e = none_built e
    first (Ok _) (Err r) e = none_built e
    first (Ok _) (Ok rest) e = taken rest (after_joint rest) refl e

pub own_shape : {shape : NoseShape} {f : Float} {curve : PressureDragCurve} (m : Made shape f curve) → (f ≈ 0·0) ≡ false → shaped shape f m.rest ≡ Ok m.inner
own_shape m n = rw n at m.own

-- what a record adds moves neither M_L nor the method
pub record Same (a b : PressureDragCurve) : Type 0 where
  pub method : a.transonic ≡ b.transonic
  pub low : a.mach_low ≡ b.mach_low

record_method : (shape : NoseShape) (f : Float) (inner : PressureDragCurve) → Same (recorded shape f inner) inner
unfolding recorded
record_method shape f inner = by (0·0 ≺ f) _ (record { method = refl; low = refl })
  where
    by : (t : Bool) (c : PressureDragCurve) → Same c inner → Same (cond t c inner) inner
    by true c s = s
    by false c s = record { method = refl; low = refl }

pub made_same : {shape : NoseShape} {f : Float} {curve : PressureDragCurve} (m : Made shape f curve) → Same curve m.inner
made_same {shape} {f} m =
    let kept = record_method shape f m.inner in
    record { method = ap (λ (c : PressureDragCurve). c.transonic) m.same ∙ kept.method; low = ap (λ (c : PressureDragCurve). c.mach_low) m.same ∙ kept.low }

module _ {shape : NoseShape} {lower upper : Reference} {weight : Float} (b : Between shape lower upper weight) (f φ : Float) (curve : PressureDragCurve)
    (e : new_curve shape f φ ≡ Ok curve) (n : (f ≈ 0·0) ≡ false) where
  -- the method of the curve that `new_curve` makes
  pub between_method : curve.transonic ≡ Transonic.Scaled lower upper weight (fineness_exponent f)
  unfolding interpolated from_transonic
  between_method =
      let m = made shape f φ curve e in
      (made_same m).method ∙ ap (λ (c : PressureDragCurve). c.transonic) (b.curve f m.rest m.inner (own_shape m n))

  -- it begins at Mach 0.8
  pub between_low : curve.mach_low ≡ 0·8
  unfolding interpolated from_transonic
  between_low =
      let m = made shape f φ curve e in
      (made_same m).low ∙ ap (λ (c : PressureDragCurve). c.mach_low) (b.curve f m.rest m.inner (own_shape m n))

  -- and from there on it is the coefficient
  pub between_coefficient : (M : Float) → mach_checked M ≡ Ok tt → (M ≺ 0·8) ≡ false
      → coefficient_of curve M ≡ Ok (scaled (reference_at lower M) (reference_at upper M) weight (fineness_exponent f) M).value
  unfolding coefficient_of fitted
  between_coefficient M ok above = rw (ok, between_low, above, between_method)

-- ---- the three series, whatever the parameter

once_passed : (check : Check) (made curve : PressureDragCurve) → (check and_then Ok made) ≡ Ok curve → curve ≡ made
once_passed (Ok _) made curve e = ap built (sym e)
once_passed (Err r) made curve e = none_built e

pub power_between : (n : Float) → Between (PowerSeries n) (power_bracket n).lower (power_bracket n).upper (weight_of (power_bracket n) n)
unfolding power between_references
power_between n = record { curve = λ f rest curve e. once_passed (required (between 0·0 n 1·0) PowerExponent n) (between_references rest f (power_bracket n) n) curve e }

pub parabolic_between : (k : Float) → Between (ParabolicSeries k) (parabolic_bracket k).lower (parabolic_bracket k).upper (weight_of (parabolic_bracket k) k)
unfolding parabolic between_references
parabolic_between k = record { curve = λ f rest curve e. once_passed (required (between 0·0 k 1·0) ParabolicParameter k) (between_references rest f (parabolic_bracket k) k) curve e }

pub haack_between : (c : Float) → Between (Haack c) (Reference.Stoney VonKarman) (Reference.Stoney LvHaack) (3·0 ⊗ c)
unfolding haack
haack_between c = record { curve = λ f rest curve e. by (one_third ≺ c) f rest curve e }
  where
    own : Float → Float → PressureDragCurve
    own rest f = interpolated rest f (Reference.Stoney VonKarman) (Reference.Stoney LvHaack) (3·0 ⊗ c)

    by : (t : Bool) (f rest : Float) (curve : PressureDragCurve)
        → cond t (Err (Broken HaackAboveThird)) (required (between 0·0 c one_third) HaackParameter c and_then Ok (own rest f)) ≡ Ok curve → curve ≡ own rest f
    by true f rest curve e = none_built e
    by false f rest curve e = once_passed (required (between 0·0 c one_third) HaackParameter c) (own rest f) curve e

-- ---- where Stoney measured a nose

-- the shapes that he measured and that begin a gap: a power series at 1/4, 1/2 and 3/4, a parabolic one at 1/2 and 3/4, Haack's at 0
pub data Measured : NoseShape → StoneyNose → Type 0 where
  power_at_1/4 : Measured (PowerSeries 0·25) PowerQuarter
  power_at_1/2 : Measured (PowerSeries 0·5) PowerHalf
  power_at_3/4 : Measured (PowerSeries 0·75) PowerThreeQuarters
  parabolic_at_1/2 : Measured (ParabolicSeries 0·5) ParabolaHalf
  parabolic_at_3/4 : Measured (ParabolicSeries 0·75) ParabolaThreeQuarters
  haack_at_0 : Measured (Haack 0·0) VonKarman

-- the number that the nose's own table gives at M under eq. B.9's scaling
abbrev pub own_number : StoneyNose → Float → Float → Float
own_number nose f M =
    let c3 = (value_and_slope nose M).value in
    cond (c3 ≼ 0·0) 0·0 (fineness_scaled c3 (blunt M).value (fineness_exponent f))
