-- The loop of `replay_all`: the lines so far lead to what the list now is.
use Rattle.replay.specs.Lines.{Replayed}
use Rattle.replay.proofs.replay_all.Given as goal

abbrev pub invariant-loop : goal.invariant-loop
invariant-loop g l = Replayed g.R.Replay.takes l.initial.list l.list
