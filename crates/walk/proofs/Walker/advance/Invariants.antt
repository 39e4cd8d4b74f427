-- The loop of `advance`: the query as told is what it has met so far, and then the query from where the walker stands; each comparison leaves a point behind.
use Rattle.std.specs.Prelude.{◌≡◌, ◌+◌, ◌≤◌, length}
use Rattle.walk.specs.Walk.{went}
use Rattle.walk.specs.Walker.{stand, after}
use Rattle.walk.proofs.Walker.advance.Given as goal

abbrev pub invariant-loop-self : goal.invariant-loop-self
invariant-loop-self l = record {
  made : after l.initial.self.compared (went (stand l.initial.self) l.mach) ≡ after l.self.compared (went (stand l.self) l.mach);
  room : l.self.compared + length l.self.ahead.now ≤ l.initial.self.compared + length l.initial.self.ahead.now;
}

abbrev pub decreases-loop-self : goal.decreases-loop-self
decreases-loop-self l = length l.self.ahead.now
