-- `elementary::infinity` meets its contract.
use mathlib.Core.Path.{refl}
use lib.Ieee.{of_bits, div}
use Rattle.elementary.proofs.infinity.Goals as goal

pub returns : goal.returns
unfolding of_bits div
returns c = refl
