-- Where the tests of a sheet pass, the formulas of friction give a number (specs/Answered.antt has the other formulas).
use Rattle.std.specs.Prelude.{Ok}
use Rattle.std.specs.Prelude.{◌≡◌, refl, Bool, true, false, cond, ◌&&◌, Float}
use Rattle.std.proofs.Common.{ap}
use Rattle.std.specs.Float.Ieee.{neg}
use Rattle.elementary.specs.Arithmetic.{◌⊗◌, ◌≼◌}
use Rattle.elementary.specs.Steps.{POW}
use Rattle.elementary.specs.Tests.{between}
use Rattle.elementary.specs.Constants.{0·0, 1·0}
use Rattle.aero_error.specs.declared.Quantity.TheVariants.{Roughness}
use Rattle.aero_error.specs.Checks.{Coefficient, required, ◌and_then◌}
use Rattle.drag.specs.Constants.{51·0, 1·039, low_reynolds}
use Rattle.drag.specs.Friction.{flow_checked, critical_reynolds, limited_friction, compressible, friction_on, skin_friction_coefficient}
use Rattle.drag.specs.Answered.{in_interval_lem, one_finite, limits}

-- "roughness in [0, 1]": each has its critical number
pub critical_answered : (k : Float) → between 0·0 k 1·0 ≡ true → critical_reynolds k ≡ Ok (51·0 ⊗ POW k (neg 1·039))
unfolding critical_reynolds
critical_answered k h = ap (λ (ok : Bool). required ok Roughness k and_then Ok (51·0 ⊗ POW k (neg 1·039))) (in_interval_lem k 1·0 one_finite h)

-- and its friction at any flow that passed
pub friction_answered : (R k M : Float) → flow_checked M R ≡ Ok tt → between 0·0 k 1·0 ≡ true
    → skin_friction_coefficient R k M ≡ Ok (compressible (limits k R) (limited_friction k) R M)
unfolding skin_friction_coefficient friction_on
friction_answered R k M flow rough = rw (flow, critical_answered k rough) (by (low_reynolds ≼ R))
  where
    by : (asked : Bool) → ◌≡◌ {A = Coefficient} (cond asked (Ok (compressible (51·0 ⊗ POW k (neg 1·039) ≼ R) (limited_friction k) R M)) (Ok (compressible false (limited_friction k) R M)))
        (Ok (compressible (asked && 51·0 ⊗ POW k (neg 1·039) ≼ R) (limited_friction k) R M))
    by true = refl
    by false = refl
