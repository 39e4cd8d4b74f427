-- `NoseShape::lv_haack` meets its contract, by computing: the constant is Haack's series with the quotient of 1 and 3.
use mathlib.Core.Path.{refl}
use lib.Ieee.{of_bits, of_int, div}
use Rattle.shapes.proofs.NoseShape.lv_haack.Goals as goal

pub returns : goal.returns
unfolding of_bits of_int div
returns c = refl
