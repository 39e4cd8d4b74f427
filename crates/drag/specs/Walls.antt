-- A wall worked out only as far as one Reynolds number asks for it, as the code does (specs/Friction has what it gives). `wall_at_lem` says that every friction
-- that reads the limited value only where the roughness limits comes out the same.
use Rattle.std.specs.Prelude.{◌≡◌, refl, Bool, cond, Float, Ok, Err}
use Rattle.std.proofs.Math.Path.{ap}
use Rattle.std.proofs.Math.Bool.{true, false}
use Rattle.elementary.specs.Arithmetic.{◌≼◌}
use Rattle.elementary.specs.Constants.{0·0}
use Rattle.aero_error.specs.Checks.{Coefficient, ◌and_then◌, ◌for_value◌}
use Rattle.drag.specs.declared.Wall.{Wall}
use Rattle.drag.specs.Constants.{low_reynolds}
use Rattle.drag.specs.Friction.{flow_checked, critical_reynolds, limited_friction, wall_of, on_wall, incompressible, compressible, friction_on, skin_friction_coefficient}

-- eq. 3.80 where the roughness limits at R
abbrev pub limited_from : Coefficient → Float → Float → Float
limited_from (Ok at) R k = cond (at ≼ R) (limited_friction k) 0·0
limited_from (Err refusal) R k = 0·0

-- below LOW_REYNOLDS nobody reads either
unfoldable pub wall_at : Float → Float → Wall
wall_at R k =
    cond (low_reynolds ≼ R)
    (record { critical = critical_reynolds k; limited = limited_from (critical_reynolds k) R k })
    (record { critical = Ok 0·0; limited = 0·0 })

module _ (k R : Float) (friction : Bool → Float → Float) (unread : (x y : Float) → friction false x ≡ friction false y) where
  where_limited : (limited : Bool) → friction limited (cond limited (limited_friction k) 0·0) ≡ friction limited (limited_friction k)
  where_limited true = refl
  where_limited false = unread 0·0 (limited_friction k)

  from_critical : (critical : Coefficient)
      → (critical for_value λ at. Ok (friction (at ≼ R) (limited_from critical R k))) ≡ (critical for_value λ at. Ok (friction (at ≼ R) (limited_friction k)))
  from_critical (Ok at) = ap Ok (where_limited (at ≼ R))
  from_critical (Err refusal) = refl

  -- the definition at a wall, with the test of the Reynolds number set apart
  unfoldable at : Bool → Wall → Coefficient
  at asked wall = cond asked (wall.critical for_value λ critical. Ok (friction (critical ≼ R) wall.limited)) (Ok (friction false wall.limited))

  by_test : (asked : Bool)
      → at asked (cond asked (record { critical = critical_reynolds k; limited = limited_from (critical_reynolds k) R k }) (record { critical = Ok 0·0; limited = 0·0 })) ≡ at asked (wall_of k)
  unfolding at
  by_test true = from_critical (critical_reynolds k)
  by_test false = ap Ok (unread 0·0 (limited_friction k))

  pub wall_at_lem : on_wall (wall_at R k) R friction ≡ on_wall (wall_of k) R friction
  unfolding at wall_at
  wall_at_lem = by_test (low_reynolds ≼ R)

-- the friction reads it so
pub friction_at : (R k M : Float) → friction_on (wall_at R k) R M ≡ skin_friction_coefficient R k M
unfolding friction_on skin_friction_coefficient compressible incompressible
friction_at R k M =
    ap (λ (answer : Coefficient). flow_checked M R and_then answer)
    (wall_at_lem k R (λ limited rough. compressible limited rough R M) (λ x y. refl))
