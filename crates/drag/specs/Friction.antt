-- Skin friction (Niskanen 2009, eq. 3.78 to 3.85), as drag.rs computes it: one rounding an operation, in the order written.
-- R is the Reynolds number, k the relative roughness R_s/L, M the Mach number.
use Rattle.std.specs.Prelude.{◌≡◌, refl, Bool, true, false, cond, ◌&&◌, List, length, get_or, Float, Ok}
use Rattle.std.specs.Float.{nan}
use Rattle.std.specs.Float.Ieee.{neg}
use Rattle.std.specs.Float.Ieee.Scale.{finite}
use Rattle.elementary.specs.Arithmetic.{◌⊕◌, ◌⊖◌, ◌⊗◌, ◌⊘◌, ◌≺◌, ◌≼◌}
use Rattle.elementary.specs.Steps.{LN, POW}
use Rattle.elementary.specs.Tests.{max_of}
use Rattle.aero_error.specs.declared.Quantity.TheVariants.{Mach, Reynolds, Roughness, BodyFineness}
use Rattle.aero_error.specs.Checks.{Check, Coefficient, required, dimension, ◌then◌, up_to, ◌and_then◌, ◌for_value◌}
use Rattle.drag.specs.declared.Wall.{Wall}
use Rattle.elementary.specs.Constants.{0·0, 1·0, 0·5}
use Rattle.drag.specs.Constants.{51·0, 0·032, 0·1, 0·15, 0·18, 0·2, 0·58, 1·5, 5·6, 1·039, low_reynolds, low_reynolds_friction}

-- "a Mach number of any speed regime: finite and non-negative"
unfoldable pub mach_checked : Float → Check
mach_checked M = required (finite M && 0·0 ≼ M) Mach M

-- 1 for the first bad Mach
unfoldable pub machs_test : List Float → Check
machs_test Ms = up_to (length Ms) (λ k. mach_checked (get_or Ms k nan))

-- Mach, then Reynolds number
abbrev pub flow_checked : Float → Float → Check
flow_checked M R = mach_checked M then required (dimension R true) Reynolds R

-- eq. 3.78, and eq. 3.81 below LOW_REYNOLDS
unfoldable pub turbulent_friction : Float → Float
turbulent_friction R =
    let d = 1·5 ⊗ LN R ⊖ 5·6 in
    cond (R ≺ low_reynolds) low_reynolds_friction (1·0 ⊘ (d ⊗ d))

-- ---- what a roughness alone decides

-- eq. 3.79
unfoldable pub critical_reynolds : Float → Coefficient
critical_reynolds k =
    required (dimension k true) Roughness k and_then
    Ok (51·0 ⊗ POW k (neg 1·039))

-- eq. 3.80
unfoldable pub limited_friction : Float → Float
limited_friction k = 0·032 ⊗ POW k 0·2

abbrev pub wall_of : Float → Wall
wall_of k = record { critical = critical_reynolds k; limited = limited_friction k }

-- "Roughness is looked at only from Reynolds 10000 up", where it limits from the critical number on: what is made of whether it limits, and of the friction
-- that it limits
abbrev pub on_wall : Wall → Float → (Bool → Float → Float) → Coefficient
on_wall wall R friction =
    cond (low_reynolds ≼ R)
    (wall.critical for_value λ critical. Ok (friction (critical ≼ R) wall.limited))
    (Ok (friction false wall.limited))

-- ---- the friction

-- eq. 3.81: the limited friction where the roughness limits, else the turbulent one
unfoldable pub incompressible : Bool → Float → Float → Float
incompressible limited rough R = cond limited rough (turbulent_friction R)

unfoldable pub incompressible_skin_friction : Float → Float → Coefficient
incompressible_skin_friction R k =
    required (dimension R true) Reynolds R and_then
    on_wall (wall_of k) R λ limited rough. incompressible limited rough R

-- eq. 3.82 below Mach 1; from Mach 1 eq. 3.83, and eq. 3.84 where the roughness limits, but never below the turbulent value
unfoldable pub compressible : Bool → Float → Float → Float → Float
compressible limited rough R M =
    let m2 = M ⊗ M in
    let turbulent = turbulent_friction R ⊘ POW (1·0 ⊕ 0·15 ⊗ m2) 0·58 in
    cond (M ≺ 1·0)
    (incompressible limited rough R ⊗ (1·0 ⊖ 0·1 ⊗ m2))
    (cond limited (max_of (rough ⊘ (1·0 ⊕ 0·18 ⊗ m2)) turbulent) turbulent)

unfoldable pub friction_on : Wall → Float → Float → Coefficient
friction_on wall R M =
    flow_checked M R and_then
    on_wall wall R λ limited rough. compressible limited rough R M

unfoldable pub skin_friction_coefficient : Float → Float → Float → Coefficient
skin_friction_coefficient R k M = friction_on (wall_of k) R M

-- a wall gives the friction of its roughness
pub on_wall_lem : (k R M : Float) → friction_on (wall_of k) R M ≡ skin_friction_coefficient R k M
unfolding skin_friction_coefficient
on_wall_lem k R M = refl

-- eq. 3.85, with f_B the body's length over its largest diameter
unfoldable pub body_friction_form_factor : Float → Coefficient
body_friction_form_factor fB =
    required (dimension fB false) BodyFineness fB and_then
    Ok (1·0 ⊕ 0·5 ⊘ fB)
