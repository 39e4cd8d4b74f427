-- Below a method's lower bound M_L: eq. 3.87, fitted to the method's value and slope at M_L.
use Rattle.std.specs.Prelude.{false, cond, ◌&&◌, Float, Ok}
use Rattle.aero_error.specs.Checks.{required, dimension, ◌then◌, ◌and_then◌, Check, Coefficient}
use Rattle.std.specs.Float.Ieee.Scale.{finite}
use Rattle.elementary.specs.Arithmetic.{◌⊕◌, ◌⊖◌, ◌⊗◌, ◌⊘◌, ◌≺◌, ◌≈◌}
use Rattle.elementary.specs.Steps.{POW}
use Rattle.elementary.specs.Tests.{between}
use Rattle.elementary.specs.Constants.{2·0, 0·0, 1·0}
use Rattle.aero_error.specs.declared.Quantity.TheVariants.{TransonicLowerBound, DragAtRest, DragAtLowerBound, SlopeAtLowerBound, MachBelowLowerBound}
use Rattle.stoney.specs.declared.ValueAndSlope.{ValueAndSlope}
use Rattle.nose_drag.specs.declared.fit.Fit.{Fit}
use Rattle.nose_drag.specs.declared.fit.Fit.TheVariants.{Power, Quadratic}

-- b = C_T'(M_L) M_L/Δ. The power where the drag rises and b is above 1, else the quadratic.
unfoldable pub fit_of : Float → Float → Float → Fit
fit_of Δ slope ML =
    let b = slope ⊗ ML ⊘ Δ in
    cond (0·0 ≺ Δ && 1·0 ≺ b) (Power Δ b) (Quadratic Δ)

-- eq. 3.87's a M^b, as Δ (M/M_L)^b, and its slope
unfoldable pub power_at : Float → Float → Float → Float → ValueAndSlope
power_at Δ b M ML =
    let power = Δ ⊗ POW (M ⊘ ML) b in
    cond (M ≈ 0·0) (record { value = 0·0; slope = 0·0 }) (record { value = power; slope = b ⊗ power ⊘ M })

unfoldable pub quadratic_at : Float → Float → Float → ValueAndSlope
quadratic_at Δ M ML = let t = M ⊘ ML in record { value = Δ ⊗ t ⊗ t; slope = 2·0 ⊗ Δ ⊗ t ⊘ ML }

abbrev pub fit_at : Fit → Float → Float → ValueAndSlope
fit_at (Power Δ b) M ML = power_at Δ b M ML
fit_at (Quadratic Δ) M ML = quadratic_at Δ M ML

-- "With M_L 0 the method covers every Mach number, and the value at rest is its own." `low` is the method at M_L.
unfoldable pub rest_with : Float → ValueAndSlope → Float → Float
rest_with rest low ML = cond (ML ≈ 0·0) low.value rest

unfoldable pub fit_with : Float → ValueAndSlope → Float → Fit
fit_with rest low ML = fit_of (low.value ⊖ rest_with rest low ML) low.slope ML

-- the value at rest and the fit above it below M_L, the method from M_L on
unfoldable pub fitted : Float → Fit → Float → (Float → ValueAndSlope) → Float → ValueAndSlope
fitted rest fit ML method M =
    let rise = fit_at fit M ML in
    cond (M ≺ ML) (record { value = rest ⊕ rise.value; slope = rise.slope }) (method M)

-- eq. 3.87's numbers, in the Rust's order of tests
unfoldable pub below_checked : Float → Float → Float → Float → Float → Check
below_checked c-rest c-low slope-low ML M =
    required (dimension ML false) TransonicLowerBound ML
    then required (finite c-rest) DragAtRest c-rest
    then required (finite c-low) DragAtLowerBound c-low
    then required (finite slope-low) SlopeAtLowerBound slope-low
    then required (between 0·0 M ML) MachBelowLowerBound M

unfoldable pub subsonic_pressure_drag_coefficient : Float → Float → Float → Float → Float → Coefficient
subsonic_pressure_drag_coefficient c-rest c-low slope-low ML M =
    below_checked c-rest c-low slope-low ML M and_then
    Ok (c-rest ⊕ (fit_at (fit_of (c-low ⊖ c-rest) slope-low ML) M ML).value)
