-- The loop of `put_floats`: the first i numbers' words are written.
use Rattle.std.proofs.Common.{◌≡◌, take}
use Rattle.std.proofs.lemmas.List.Edits.{sets}
use Rattle.cobalnis.specs.Words.{spread, float_words}
use Rattle.cobalnis.proofs.words.put_floats.Given as goal

abbrev pub invariant-loop-i : goal.invariant-loop-i
invariant-loop-i g l = l.words ≡ sets l.initial.words l.start (spread float_words (take l.i l.float-items))
