-- What the proofs of the cycle's members and of its entry for the value alone share: the code's way to a cone reference, and that a curve keeps its method.
use mathlib.Core.Path.{◌≡◌, refl}
use lib.Ieee.{Float}
use Rattle.elementary.specs.Constants.{1·0}
use Rattle.nose_drag.specs.declared.curve.Transonic.{Transonic}
use Rattle.nose_drag.specs.Forms.{sin_half_angle}
use Rattle.nose_drag.specs.Methods.{whole_cone}
use Rattle.nose_drag.specs.Curves.{from_transonic, curve_at}

-- the definition's cone reference, and the code's way to it
pub cone_reference : (f factor rest M : Float) → whole_cone f factor rest M ≡ curve_at (from_transonic rest (Transonic.Cone (sin_half_angle f) factor) 1·0) M
unfolding from_transonic whole_cone
cone_reference f factor rest M = refl

pub kept_method : (rest ML : Float) (t : Transonic) → (from_transonic rest t ML).transonic ≡ t
unfolding from_transonic
kept_method rest ML t = refl
