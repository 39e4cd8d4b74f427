-- References and methods, without a depth: the cone's whole curve first, then references, then the transonic methods that ask them.
use Rattle.std.specs.Prelude.{true, false, cond, ◌&&◌, Float, Ok}
use Rattle.aero_error.specs.Checks.{required, dimension, ◌then◌, ◌and_then◌, Coefficient}
use Rattle.elementary.specs.Arithmetic.{◌⊕◌, ◌⊖◌, ◌⊗◌, ◌⊘◌, ◌≺◌, ◌≼◌}
use Rattle.elementary.specs.Steps.{LN, POW}
use Rattle.elementary.specs.Tests.{between, max_of}
use Rattle.aero_error.specs.declared.Quantity.TheVariants.{Fineness, EllipsoidFineness, EllipsoidMach, OgiveKappa, FinenessThreeDrag, BluntDrag}
use Rattle.elementary.specs.Constants.{0·0, 0·5, 1·0}
use Rattle.stoney.specs.declared.StoneyNose.TheVariants
use Rattle.stoney.specs.declared.ValueAndSlope.{ValueAndSlope}
use Rattle.stoney.specs.Points.{first_mach}
use Rattle.stoney.specs.Lookup.{subsonic_mach_limit, value_and_slope}
use Rattle.nose_drag.specs.declared.curve.Reference.{Reference}
use Rattle.nose_drag.specs.declared.curve.Transonic.{Transonic}
use Rattle.nose_drag.specs.Constants.{0·72, 0·82, ln_4, hemisphere_fineness, round_head_fineness, hemisphere_drag, round_head_drag}
use Rattle.nose_drag.specs.Forms.{blunt, sin_half_angle, cone_method}
use Rattle.nose_drag.specs.Below.{rest_with, fit_with, fitted}

-- eq. B.8, for κ from 0, a cone, to 1, a tangent ogive
unfoldable pub ogive_pressure_drag_factor : Float → Coefficient
ogive_pressure_drag_factor κ =
    let d = κ ⊖ 0·5 in
    required (between 0·0 κ 1·0) OgiveKappa κ and_then
    Ok (0·72 ⊗ d ⊗ d ⊕ 0·82)

-- eq. B.9 with its exponent: from the drag c3 measured at fineness 3 and the blunt cylinder's c0
abbrev pub fineness_scaled : Float → Float → Float → Float
fineness_scaled c3 c0 exponent = c0 ⊗ POW (c3 ⊘ c0) exponent

-- its exponent for the fineness ratio f: the logarithm of f + 1 to base 4
abbrev pub fineness_exponent : Float → Float
fineness_exponent f = LN (f ⊕ 1·0) ⊘ ln_4

unfoldable pub fineness_scaled_pressure_drag : Float → Float → Float → Coefficient
fineness_scaled_pressure_drag c3 c0 f =
    (required (dimension c3 true) FinenessThreeDrag c3
    then required (dimension c0 false) BluntDrag c0
    then required (dimension f true) Fineness f)
    and_then Ok (fineness_scaled c3 c0 (fineness_exponent f))

-- ---- references

-- the whole curve of a cone of fineness f times a factor: eq. 3.87 from `rest` below Mach 1, eq. B.4 to B.6 from there on
unfoldable pub whole_cone : Float → Float → Float → Float → ValueAndSlope
whole_cone f factor rest M =
    let method = cone_method (sin_half_angle f) factor in
    let low = method 1·0 in
    fitted (rest_with rest low 1·0) (fit_with rest low 1·0) 1·0 method M

abbrev pub reference_at : Reference → Float → ValueAndSlope
reference_at Reference.Blunt M = blunt M
reference_at (Reference.Cone f factor rest) M = whole_cone f factor rest M
reference_at (Reference.Stoney nose) M = value_and_slope nose M

-- ---- methods

-- from lo on, by the weight of hi
abbrev pub mixed : Float → Float → Float → Float
mixed lo hi weight = lo ⊕ weight ⊗ (hi ⊖ lo)

-- the two references' values lo and hi at M, interpolated by the weight of the upper one and scaled by eq. B.9; no drag where nothing is left to scale
unfoldable pub scaled : ValueAndSlope → ValueAndSlope → Float → Float → Float → ValueAndSlope
scaled lo hi weight exponent M =
    let c3 = mixed lo.value hi.value weight in
    let c3-slope = mixed lo.slope hi.slope weight in
    let c0 = blunt M in
    let c = fineness_scaled c3 c0.value exponent in
    cond (c3 ≼ 0·0)
    (record { value = 0·0; slope = 0·0 })
    (record { value = c; slope = c ⊗ ((1·0 ⊖ exponent) ⊗ c0.slope ⊘ c0.value ⊕ exponent ⊗ c3-slope ⊘ c3) })

-- an ellipsoid below Mach 0.8 (Hoerner 1965 p. 3-12): from the hemisphere on the straight line to the round head, held at 0; blunter, eq. B.9's form
-- between the flat face and the hemisphere
unfoldable pub ellipsoid_low_speed : Float → Float → ValueAndSlope
ellipsoid_low_speed f M =
    let along = (f ⊖ hemisphere_fineness) ⊘ (round_head_fineness ⊖ hemisphere_fineness) in
    let c0 = blunt M in
    let exponent = LN (f ⊕ 1·0) ⊘ LN (1·0 ⊕ hemisphere_fineness) in
    let c = fineness_scaled hemisphere_drag c0.value exponent in
    cond (hemisphere_fineness ≼ f)
    (record { value = max_of (hemisphere_drag ⊕ along ⊗ (round_head_drag ⊖ hemisphere_drag)) 0·0; slope = 0·0 })
    (record { value = c; slope = c ⊗ (1·0 ⊖ exponent) ⊗ c0.slope ⊘ c0.value })

-- but at least eq. 3.86's value at rest
unfoldable pub ellipsoid_at_least_rest : Float → Float → Float → ValueAndSlope
ellipsoid_at_least_rest f rest M =
    let low = ellipsoid_low_speed f M in
    cond (low.value ≺ rest) (record { value = rest; slope = 0·0 }) low

-- Stoney's ellipsoid scaled by eq. B.9
unfoldable pub ellipsoid_measured : Float → Float → ValueAndSlope
ellipsoid_measured f M =
    let stoney = reference_at (Reference.Stoney TheVariants.Ellipsoid) M in
    scaled stoney stoney 0·0 (fineness_exponent f) M

-- between Mach 0.8 and Stoney's first point a straight line
unfoldable pub ellipsoid : Float → Float → Float → ValueAndSlope
ellipsoid f rest M =
    let first = first_mach TheVariants.Ellipsoid in
    let low = ellipsoid_at_least_rest f rest subsonic_mach_limit in
    let high = ellipsoid_measured f first in
    let slope = (high.value ⊖ low.value) ⊘ (first ⊖ subsonic_mach_limit) in
    cond (M ≺ subsonic_mach_limit)
    (ellipsoid_at_least_rest f rest M)
    (cond (first ≼ M)
    (ellipsoid_measured f M)
    (record { value = low.value ⊕ slope ⊗ (M ⊖ subsonic_mach_limit); slope = slope }))

unfoldable pub ellipsoid_subsonic_pressure_drag : Float → Float → Coefficient
ellipsoid_subsonic_pressure_drag f M =
    (required (dimension f false) EllipsoidFineness f
    then required (0·0 ≼ M && M ≺ subsonic_mach_limit) EllipsoidMach M)
    and_then Ok (ellipsoid_low_speed f M).value

abbrev pub method_at : Transonic → Float → ValueAndSlope
method_at Transonic.Blunt M = blunt M
method_at (Transonic.Cone s factor) M = cone_method s factor M
method_at (Transonic.Scaled lower upper weight exponent) M = scaled (reference_at lower M) (reference_at upper M) weight exponent M
method_at (Transonic.Ellipsoid f rest) M = ellipsoid f rest M
