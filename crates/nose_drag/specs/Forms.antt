-- The closed forms of Niskanen's appendix B from Mach 1 up: the blunt cylinder and the cone, each as a value and its slope in Mach.
-- M is the Mach number, s the sine of a cone's half-angle ε, f the fineness ratio. One rounding an operation, in the Rust's order.
use Rattle.std.specs.Prelude.{cond, Float}
use Rattle.std.specs.Float.Ieee.{neg}
use Rattle.elementary.specs.Arithmetic.{◌⊕◌, ◌⊖◌, ◌⊗◌, ◌⊘◌, ◌≺◌, ◌≼◌}
use Rattle.elementary.specs.Steps.{SQRT}
use Rattle.elementary.specs.Constants.{2·0, 0·5, 1·0}
use Rattle.drag.specs.Constants.{0·1, 0·85, 3·0}
use Rattle.drag.specs.Pressure.{stagnation_ratio}
use Rattle.stoney.specs.declared.ValueAndSlope.{ValueAndSlope}
use Rattle.nose_drag.specs.Constants.{0·21, 0·664, 1·52, 2·1, 4·0, 6·0, GAMMA, cone_supersonic_mach}

-- eq. B.1 and B.2 differentiated
unfoldable pub stagnation_drag_slope : Float → Float
stagnation_drag_slope M =
    let i = 1·0 ⊘ M in
    let i3 = i ⊗ i ⊗ i in
    cond (M ≺ 1·0)
    (0·85 ⊗ (0·5 ⊗ M ⊕ 0·1 ⊗ M ⊗ M ⊗ M))
    (0·85 ⊗ (1·52 ⊗ i3 ⊖ 0·664 ⊗ i3 ⊗ i ⊗ i ⊖ 0·21 ⊗ i3 ⊗ i3 ⊗ i))

-- eq. B.2
unfoldable pub blunt : Float → ValueAndSlope
blunt M = record { value = 0·85 ⊗ stagnation_ratio M; slope = stagnation_drag_slope M }

-- the cubic from (x₀, y₀) with slope m₀ to (x₁, y₁) with slope m₁, at x
unfoldable pub hermite : Float → Float → Float → Float → Float → Float → Float → ValueAndSlope
hermite x₀ y₀ m₀ x₁ y₁ m₁ x =
    let h = x₁ ⊖ x₀ in
    let t = (x ⊖ x₀) ⊘ h in
    let t2 = t ⊗ t in
    let t3 = t ⊗ t ⊗ t in
    record {
      value =
          (2·0 ⊗ t3 ⊖ 3·0 ⊗ t2 ⊕ 1·0) ⊗ y₀
          ⊕ (t3 ⊖ 2·0 ⊗ t2 ⊕ t) ⊗ h ⊗ m₀
          ⊕ (3·0 ⊗ t2 ⊖ 2·0 ⊗ t3) ⊗ y₁
          ⊕ (t3 ⊖ t2) ⊗ h ⊗ m₁;
      slope =
          ((6·0 ⊗ t2 ⊖ 6·0 ⊗ t) ⊗ y₀ ⊕ (6·0 ⊗ t ⊖ 6·0 ⊗ t2) ⊗ y₁) ⊘ h
          ⊕ (3·0 ⊗ t2 ⊖ 4·0 ⊗ t ⊕ 1·0) ⊗ m₀
          ⊕ (3·0 ⊗ t2 ⊖ 2·0 ⊗ t) ⊗ m₁;
    }

-- eq. B.4, from Mach 1.3
unfoldable pub cone_supersonic : Float → Float → ValueAndSlope
cone_supersonic s M =
    let root = SQRT (M ⊗ M ⊖ 1·0) in
    record {
      value = 2·1 ⊗ s ⊗ s ⊕ 0·5 ⊗ s ⊘ root;
      slope = neg 0·5 ⊗ s ⊗ M ⊘ (root ⊗ root ⊗ root);
    }

-- between Mach 1, where eq. B.6 gives the value s and eq. B.5 the slope, and Mach 1.3 the cubic that meets both ends
unfoldable pub cone_transonic : Float → Float → ValueAndSlope
cone_transonic s M =
    let slope-at-1 = 4·0 ⊘ (GAMMA ⊕ 1·0) ⊗ (1·0 ⊖ 0·5 ⊗ s) in
    let end = cone_supersonic s cone_supersonic_mach in
    cond (cone_supersonic_mach ≼ M)
    (cone_supersonic s M)
    (hermite 1·0 s slope-at-1 cone_supersonic_mach end.value end.slope M)

-- eq. B.3: tan ε = 1/(2f)
unfoldable pub sin_half_angle : Float → Float
sin_half_angle f = let tan = 0·5 ⊘ f in tan ⊘ SQRT (1·0 ⊕ tan ⊗ tan)

-- a cone times an ogive's factor
unfoldable pub cone_method : Float → Float → Float → ValueAndSlope
cone_method s factor M = let cone = cone_transonic s M in record { value = factor ⊗ cone.value; slope = factor ⊗ cone.slope }
