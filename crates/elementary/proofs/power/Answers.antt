-- `elementary::power` meets its contract: a pattern with no fraction is a power of two.
use Rattle.elementary.proofs.Powers.{no_nan, power_bits}
use Rattle.elementary.proofs.power.Goals as goal

pub float_from_bits-result : goal.float_from_bits-result
float_from_bits-result c = no_nan c.args.field c.requires.1

pub returns : goal.returns
returns c = power_bits c.args.field c.requires.0 c.requires.1
