-- Stagnation pressure, base drag, joint drag and the boattail rule (Niskanen 2009, eq. 3.86 to 3.94 and appendix B), as drag.rs computes them.
use Rattle.std.specs.Prelude.{true, cond, ◌&&◌, Float, Ok}
use Rattle.std.specs.Float.Ieee.Scale.{finite}
use Rattle.elementary.specs.Arithmetic.{◌⊕◌, ◌⊖◌, ◌⊗◌, ◌⊘◌, ◌≺◌, ◌≼◌}
use Rattle.elementary.specs.Steps.{SIN}
use Rattle.elementary.specs.Tests.{between}
use Rattle.aero_error.specs.declared.Quantity.TheVariants.{JointAngle, BoattailLength, BoattailAft, BoattailFore}
use Rattle.aero_error.specs.Checks.{Coefficient, required, dimension, ◌then◌, ◌and_then◌, ◌for_value◌}
use Rattle.elementary.specs.Constants.{0·0, 0·5, 0·8, 1·0}
use Rattle.drag.specs.Constants.{3·0, 40·0, 0·035, 0·12, 0·13, 0·166, 0·25, 0·76, 0·85, 1·84, π/2}
use Rattle.drag.specs.Friction.{mach_checked}

-- eq. B.1 at a Mach number already checked
unfoldable pub stagnation_ratio : Float → Float
stagnation_ratio M =
    let m2 = M ⊗ M in
    let i2 = 1·0 ⊘ m2 in
    cond (M ≺ 1·0)
    (1·0 ⊕ 0·25 ⊗ m2 ⊕ m2 ⊗ m2 ⊘ 40·0)
    (1·84 ⊖ 0·76 ⊗ i2 ⊕ 0·166 ⊗ i2 ⊗ i2 ⊕ 0·035 ⊗ i2 ⊗ i2 ⊗ i2)

unfoldable pub stagnation_pressure_ratio : Float → Coefficient
stagnation_pressure_ratio M = mach_checked M and_then Ok (stagnation_ratio M)

-- eq. B.2
unfoldable pub stagnation_drag_coefficient : Float → Coefficient
stagnation_drag_coefficient M = stagnation_pressure_ratio M for_value λ ratio. Ok (0·85 ⊗ ratio)

-- eq. 3.94, and at a Mach number already checked
unfoldable pub base_drag : Float → Float
base_drag M = cond (M ≺ 1·0) (0·12 ⊕ 0·13 ⊗ M ⊗ M) (0·25 ⊘ M)

unfoldable pub base_drag_coefficient : Float → Coefficient
base_drag_coefficient M = mach_checked M and_then Ok (base_drag M)

-- eq. 3.86, with φ the joint angle
unfoldable pub joint_pressure_drag_coefficient : Float → Coefficient
joint_pressure_drag_coefficient φ =
    required (between 0·0 φ π/2) JointAngle φ and_then
    Ok (0·8 ⊗ SIN φ ⊗ SIN φ)

-- eq. 3.88: the share of base drag by the length ratio γ
unfoldable pub boattail_share : Float → Float
boattail_share γ = cond (γ ≼ 1·0) 1·0 (cond (γ ≺ 3·0) (0·5 ⊗ (3·0 ⊖ γ)) 0·0)

-- of the length l, the fore diameter d₁ and the aft diameter d₂, in the Rust's order of tests
unfoldable pub boattail_factor : Float → Float → Float → Coefficient
boattail_factor l d₁ d₂ =
    (required (dimension l true) BoattailLength l
    then required (dimension d₂ true) BoattailAft d₂
    then required (finite d₁ && d₂ ≺ d₁) BoattailFore d₁)
    and_then Ok (boattail_share (l ⊘ (d₁ ⊖ d₂)))
