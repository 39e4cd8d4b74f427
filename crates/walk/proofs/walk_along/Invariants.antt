-- The loop of `walk_along`: the whole walk is what was counted and written so far, and then the walk of the queries that are left from where the walker stands. Each
-- comparison leaves a point behind or ends a query.
use Rattle.std.specs.Prelude.{◌≡◌, ◌+◌, ◌≤◌, length, drop}
use Rattle.std.proofs.lemmas.List.Edits.{sets}
use Rattle.walk.specs.Walk.{walk_from}
use Rattle.walk.specs.Walker.{stand}
use Rattle.walk.proofs.walk_along.Given as goal

abbrev pub invariant-loop-i : goal.invariant-loop-i
invariant-loop-i l =
    let all = walk_from (stand l.initial.walker) l.queries in
    let rest = walk_from (stand l.walker) (drop l.i l.queries) in
    record {
      room : l.walker.compared + length l.walker.ahead.now ≤ l.i + length l.table;
      cells : length l.answers ≡ length l.initial.answers;
      counted : all.compared ≡ l.walker.compared + rest.compared;
      written : sets l.initial.answers 0 all.values ≡ sets l.answers l.i rest.values;
    }
