-- No nose's table is empty, and the table of all points has 149 of them.
use Rattle.std.proofs.Common.{◌≡◌, length, refl}
use Rattle.stoney.specs.Points.{points, all_points}

pub all_149 : length all_points ≡ 149
unfolding all_points points
all_149 = refl
