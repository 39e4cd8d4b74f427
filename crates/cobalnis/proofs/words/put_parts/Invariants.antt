-- The loop of `put_parts`: the first i parts' words are written.
use Rattle.std.proofs.Common.{◌≡◌, take}
use Rattle.std.proofs.lemmas.List.Edits.{sets}
use Rattle.cobalnis.specs.Words.{first_part, spread, part_words}
use Rattle.cobalnis.proofs.words.put_parts.Given as goal

abbrev pub invariant-loop-i : goal.invariant-loop-i
invariant-loop-i l = l.words ≡ sets l.initial.words first_part (spread part_words (take l.i l.part-items))
