-- The bits of +0, the points that a nose's table has, and the answer of a test under a code.
use mathlib.Core.Path.{◌≡◌, refl, sym, ap, ◌∙◌}
use Prim.Native.Nat.{ℕ, ◌+◌, ◌*◌, ◌<◌}
use native.Mathlib.Omega.{arith}
use lib.ListN.{length, get_or}
use lib.Ieee.{Float, to_bits, of_bits, binary64}
use Rattle.elementary.specs.Constants.{0·0}
use mathlib.Core.Bool.{Bool, true, false, cond}
use Rattle.aero_error.specs.declared.Quantity.{Quantity}
use Rattle.aero_error.specs.declared.Quantity.TheVariants.{Mach, Fineness, JointAngle, PowerExponent, ParabolicParameter, HaackParameter, EllipsoidFineness, EllipsoidMach, OgiveKappa, FinenessThreeDrag, BluntDrag, TransonicLowerBound, DragAtRest, DragAtLowerBound, SlopeAtLowerBound, MachBelowLowerBound, Reynolds, Roughness, BodyFineness, BoattailLength, BoattailAft, BoattailFore}
use Rattle.aero_error.specs.Refusals.{code_of_quantity}
use Rattle.aero_error.specs.Checks.{required}
use Rattle.stoney.specs.declared.StoneyNose.{StoneyNose}
use Rattle.stoney.specs.declared.StoredPoint.{StoredPoint}
use Rattle.stoney.specs.Points.{points, all_points, no_point, any_default, mach_at, drag_at, range_of, at_place}
use Rattle.stoney.specs.Segments.{count_is}
use Rattle.cobalnis.specs.Answers.{answer_status, answer_bits, tested, is_code}

-- the bits of +0
pub zero_bits : to_bits binary64 0·0 ≡ 0
unfolding to_bits of_bits
zero_bits = refl

-- a nose's point at a place of its own, by its place among all points
pub point_there : (nose : StoneyNose) (k : ℕ) (p : StoredPoint) → k < length (points nose) → p ≡ get_or (points nose) k p
    → let at = (range_of nose).first + k in (mach_at at ≡ p.mach) × (drag_at at ≡ p.drag)
unfolding mach_at drag_at
point_there nose k p h e =
    let same : get_or all_points ((range_of nose).first + k) no_point ≡ p = at_place nose k (omega (arith, count_is nose)) ∙ any_default (points nose) k no_point p h ∙ sym e in
    (ap (λ (q : StoredPoint). q.mach) same, ap (λ (q : StoredPoint). q.drag) same)

-- a test under a quantity's code
pub required_status : (ok : Bool) (what : Quantity) (value : Float) (code : ℕ) → code_of_quantity what ≡ code → answer_status (tested (required ok what value)) ≡ cond ok 0 (1 + 256 * code)
required_status true what value code e = refl
required_status false what value code e = ap (λ (k : ℕ). 1 + 256 * k) e

pub required_bits : (ok : Bool) (what : Quantity) (value : Float) → answer_bits (tested (required ok what value)) ≡ cond ok 0 (to_bits binary64 value)
required_bits true what value = zero_bits
required_bits false what value = refl

-- every quantity has a code
pub code_known : (what : Quantity) → is_code (code_of_quantity what) ≡ true
code_known Mach = refl
code_known Fineness = refl
code_known JointAngle = refl
code_known PowerExponent = refl
code_known ParabolicParameter = refl
code_known HaackParameter = refl
code_known EllipsoidFineness = refl
code_known EllipsoidMach = refl
code_known OgiveKappa = refl
code_known FinenessThreeDrag = refl
code_known BluntDrag = refl
code_known TransonicLowerBound = refl
code_known DragAtRest = refl
code_known DragAtLowerBound = refl
code_known SlopeAtLowerBound = refl
code_known MachBelowLowerBound = refl
code_known Reynolds = refl
code_known Roughness = refl
code_known BodyFineness = refl
code_known BoattailLength = refl
code_known BoattailAft = refl
code_known BoattailFore = refl
