-- The friction in two steps, as the code takes them (specs/Friction has what comes out): what a Mach and a Reynolds number decide is worked out once, for walls of
-- every roughness. `in_flow` says that the friction is the same, where the turbulent one is asked for or the roughness limits.
use Rattle.std.specs.Prelude.{◌≡◌, refl, ◌⊎◌, Bool, true, false, cond, Float, Result, Ok, Err}
use Rattle.std.proofs.Common.{ap, inl, inr}
use Rattle.std.proofs.lemmas.Bool.{false≢true}
use Rattle.elementary.specs.Arithmetic.{◌⊕◌, ◌⊖◌, ◌⊗◌, ◌⊘◌, ◌≺◌, ◌≼◌}
use Rattle.elementary.specs.Steps.{POW}
use Rattle.elementary.specs.Tests.{max_of}
use Rattle.elementary.specs.Constants.{0·0, 1·0}
use Rattle.aero_error.specs.Checks.{Check, Coefficient, ◌and_then◌, ◌for_value◌}
use Rattle.drag.specs.declared.Wall.{Wall}
use Rattle.drag.specs.declared.Flow.{Flow}
use Rattle.drag.specs.declared.Flow.TheVariants.{Subsonic, Supersonic}
use Rattle.aero_error.specs.declared.AeroError.{AeroError}
use Rattle.drag.specs.Constants.{0·1, 0·15, 0·18, 0·58, low_reynolds}
use Rattle.drag.specs.Friction.{flow_checked, turbulent_friction, on_wall, incompressible, compressible, friction_on}

-- the roughness of a wall limits the friction at R
abbrev critical_below : Coefficient → Float → Bool
critical_below (Ok critical) R = critical ≼ R
critical_below (Err refusal) R = false

unfoldable pub limits_at : Wall → Float → Bool
limits_at wall R = cond (low_reynolds ≼ R) (critical_below wall.critical R) false

-- the turbulent friction where it is asked for
abbrev pub turbulent_where : Bool → Float → Float
turbulent_where asked R = cond asked (turbulent_friction R) 0·0

-- eq. 3.82's factor, eq. 3.84's, and eq. 3.83
abbrev slow_factor : Float → Float
slow_factor M = 1·0 ⊖ 0·1 ⊗ (M ⊗ M)

abbrev fast_factor : Float → Float
fast_factor M = 1·0 ⊕ 0·18 ⊗ (M ⊗ M)

abbrev fast_turbulent : Float → Float → Float
fast_turbulent R M = turbulent_friction R ⊘ POW (1·0 ⊕ 0·15 ⊗ (M ⊗ M)) 0·58

-- a flow that passed its tests, below Mach 1 or not
abbrev flowing : Bool → Bool → Float → Float → Flow
flowing slow asked R M = cond slow (Subsonic R (turbulent_where asked R) (slow_factor M)) (Supersonic R (fast_turbulent R M) (fast_factor M))

unfoldable pub flow_of : Bool → Float → Float → Result Flow AeroError
flow_of asked R M = flow_checked M R and_then Ok (flowing (M ≺ 1·0) asked R M)

-- the friction on a wall in a flow
unfoldable pub friction_in : Wall → Result Flow AeroError → Coefficient
friction_in wall (Err refusal) = Err refusal
friction_in wall (Ok (Subsonic R turbulent factor)) = on_wall wall R λ limited x. cond limited (wall.limited ⊗ factor) (turbulent ⊗ factor)
friction_in wall (Ok (Supersonic R turbulent factor)) = on_wall wall R λ limited x. cond limited (max_of (wall.limited ⊘ factor) turbulent) turbulent

-- ---- the same friction

-- of what is made on a wall only the case counts in which the roughness limits or doesn't
module _ (R : Float) (f g : Bool → Float → Float) where
  by_test : (looked : Bool) (critical : Coefficient) (rough : Float) → f (cond looked (critical_below critical R) false) rough ≡ g (cond looked (critical_below critical R) false) rough
      → cond looked (critical for_value λ at. Ok (f (at ≼ R) rough)) (Ok (f false rough)) ≡ cond looked (critical for_value λ at. Ok (g (at ≼ R) rough)) (Ok (g false rough))
  by_test true (Ok at) rough h = ap Ok h
  by_test true (Err refusal) rough h = refl
  by_test false critical rough h = ap Ok h

  same_on_wall : (wall : Wall) → f (limits_at wall R) wall.limited ≡ g (limits_at wall R) wall.limited → on_wall wall R f ≡ on_wall wall R g
  unfolding limits_at
  same_on_wall wall h = by_test (low_reynolds ≼ R) wall.critical wall.limited h

-- where the roughness limits, the turbulent friction isn't read
below : (asked limited : Bool) (R rough factor : Float) → (asked ≡ true) ⊎ (limited ≡ true)
    → cond limited (rough ⊗ factor) (turbulent_where asked R ⊗ factor) ≡ incompressible limited rough R ⊗ factor
unfolding incompressible
below asked true R rough factor h = refl
below asked false R rough factor (inl e) = rw e
below asked false R rough factor (inr e) = absurd (false≢true e)

pub in_flow : (wall : Wall) (asked : Bool) (R M : Float) → (asked ≡ true) ⊎ (limits_at wall R ≡ true) → friction_in wall (flow_of asked R M) ≡ friction_on wall R M
unfolding flow_of friction_in friction_on compressible
in_flow wall asked R M h = both (flow_checked M R) (M ≺ 1·0)
  where
    both : (check : Check) (slow : Bool) → friction_in wall (check and_then Ok (flowing slow asked R M))
        ≡ (check and_then on_wall wall R λ limited rough.
        cond slow (incompressible limited rough R ⊗ slow_factor M) (cond limited (max_of (rough ⊘ fast_factor M) (fast_turbulent R M)) (fast_turbulent R M)))
    both (Err refusal) slow = refl
    both (Ok _) true =
        same_on_wall R (λ limited x. cond limited (wall.limited ⊗ slow_factor M) (turbulent_where asked R ⊗ slow_factor M)) (λ limited rough. incompressible limited rough R ⊗ slow_factor M) wall
        (below asked (limits_at wall R) R wall.limited (slow_factor M) h)
    both (Ok _) false = refl
