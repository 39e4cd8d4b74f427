-- `replay::replay_all` meets its contract.
use Rattle.std.proofs.Common.{ℕ, List, [], ◌∷◌, ◌++◌, arith}
use Rattle.std.proofs.lemmas.List.Elements.{All-push}
use Rattle.std.proofs.lemmas.Fn.{FoldsTo-push}
use Rattle.replay.specs.Lines.{IsTaken, Replayed}
use Rattle.replay.proofs.replay_all.Goals as goal

-- one line more
one_more : {S : Type 0} (takes : S → List ℕ → S → Type 0) (before now after : S) (line : List ℕ) → Replayed takes before now → IsTaken line → takes now line after → Replayed takes before after
one_more takes before now after line (lines, all, folds) is step =
    (lines ++ (line ∷ []), All-push IsTaken lines line all is, FoldsTo-push takes before lines now line after folds step)

pub loop-preserved : goal.loop-preserved
loop-preserved g c = one_more _ _ _ _ _ c.loop.invariant (omega arith, omega arith) c.line.ensures
