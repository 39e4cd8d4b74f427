-- `elementary::to_bits` meets its contract.
use Rattle.std.proofs.Common.{sym, ◌∙◌}
use lib.Ieee.{to_bits}
use Rattle.elementary.proofs.Floats.{only_nan}
use Rattle.elementary.proofs.to_bits.Goals as goal

pub returns-then-is_nan : goal.returns-then-is_nan
unfolding to_bits
returns-then-is_nan c = rw (only_nan c.args.x (sym c.is_nan.ensures.value ∙ c.if-is_nan.true))
