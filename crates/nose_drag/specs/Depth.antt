-- How deep the code's cycle of curve, reference and method goes, call by call. It is in no definition and in no public contract: the members of the cycle
-- require it, and `deep_enough` shows that every method a curve can have stays below the depth that the code starts with.
use Rattle.std.specs.Prelude.{ℕ, suc, ◌≤◌, max}
use Rattle.std.proofs.Common.{arith, lit≤}
use Rattle.nose_drag.specs.declared.curve.Reference.{Reference}
use Rattle.nose_drag.specs.declared.curve.Transonic.{Transonic}

-- a cone reference makes a cone curve and asks it, and both ask the cone's method
abbrev pub depth_of_reference : Reference → ℕ
depth_of_reference Reference.Blunt = 0
depth_of_reference (Reference.Cone f factor rest) = 2
depth_of_reference (Reference.Stoney nose) = 0

-- only a scaled method asks references
abbrev pub depth_of_transonic : Transonic → ℕ
depth_of_transonic Transonic.Blunt = 0
depth_of_transonic (Transonic.Cone s factor) = 0
depth_of_transonic (Transonic.Scaled lower upper weight exponent) = suc (max (depth_of_reference lower) (depth_of_reference upper))
depth_of_transonic (Transonic.Ellipsoid f rest) = 0

at_most_two : (r : Reference) → depth_of_reference r ≤ 2
at_most_two Reference.Blunt = lit≤ tt
at_most_two (Reference.Cone f factor rest) = lit≤ tt
at_most_two (Reference.Stoney nose) = lit≤ tt

pub deep_enough : (t : Transonic) → suc (depth_of_transonic t) ≤ 4
deep_enough Transonic.Blunt = lit≤ tt
deep_enough (Transonic.Cone s factor) = lit≤ tt
deep_enough (Transonic.Scaled lower upper weight exponent) = omega (arith, at_most_two lower, at_most_two upper)
deep_enough (Transonic.Ellipsoid f rest) = lit≤ tt
