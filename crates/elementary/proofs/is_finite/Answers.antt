-- `is_finite` meets its contract.
use mathlib.Core.Path.{◌≡◌, refl, ◌∙◌}
use lib.Ieee.{Float, nan, inf, fin}
use lib.Ieee.Scale.{finite}
use Rattle.std.specs.Float.{float_is_finite}
use Rattle.elementary.proofs.is_finite.Goals as goal

one_test : (x : Float) → float_is_finite x ≡ finite x
unfolding float_is_finite
one_test nan = refl
one_test (inf s) = refl
one_test (fin s m e) = refl

pub returns : goal.returns
returns c = c.is_finite.ensures.value ∙ one_test c.args.x
