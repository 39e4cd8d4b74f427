-- `StoneyNose::table` meets its contract. By computing, the table is the stored points (each number the nearest binary64 to the tabled one), and a nose's range of
-- it is that nose's points.
use Rattle.std.proofs.Common.{◌≡◌, ◌+◌, ◌-◌, take, drop, arith}
use lib.Ieee.{of_bits, round}
use Rattle.stoney.specs.declared.StoneyNose.{StoneyNose}
use Rattle.stoney.specs.declared.PointRange.{PointRange}
use Rattle.stoney.specs.Points.{points, all_points, range_of, part_of_all}
use Rattle.stoney.proofs.StoneyNose.table.Goals as goal

own : (nose : StoneyNose) (r : PointRange) → r ≡ range_of nose → take (r.first + r.count - r.first) (drop r.first all_points) ≡ points nose
own nose r is = let e : r.first + r.count - r.first ≡ r.count = omega arith in rw (e, is) (part_of_all nose)

pub returns-clause-points : goal.returns-clause-points
unfolding points all_points of_bits round
returns-clause-points c = own c.args.self c.points-range.result c.points-range.ensures
