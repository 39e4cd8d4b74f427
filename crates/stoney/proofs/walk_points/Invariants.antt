-- The loop of `walk_points`: the definition's walk goes on from the last point passed through the points that are left.
use Rattle.std.proofs.Common.{◌≡◌, drop}
use Rattle.stoney.specs.Lookup.{walk, lookup}
use Rattle.stoney.proofs.walk_points.Given as goal

abbrev pub invariant-loop-next : goal.invariant-loop-next
invariant-loop-next l = lookup l.points l.mach ≡ walk l.last (drop l.next-index l.next-items) l.mach
