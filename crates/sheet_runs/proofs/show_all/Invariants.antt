-- The loop of `show_all`: nothing has to hold from turn to turn; what is left of the bytes falls.
use Rattle.std.proofs.Common.{length}
use Rattle.sheet_runs.proofs.show_all.Given as goal

abbrev pub decreases-loop-size : goal.decreases-loop-size
decreases-loop-size l = length l.rest
