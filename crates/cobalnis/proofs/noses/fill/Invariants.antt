-- The loop of `fill`: the first i coefficients' words and marks are written.
use Rattle.std.proofs.Common.{◌≡◌, take}
use Rattle.std.proofs.lemmas.List.Edits.{sets}
use Rattle.cobalnis.specs.Words.{spread}
use Rattle.cobalnis.specs.Answers.{coefficient_word, mark_byte}
use Rattle.cobalnis.proofs.noses.fill.Given as goal

abbrev pub invariant-loop-i : goal.invariant-loop-i
invariant-loop-i l = (l.out ≡ sets l.initial.out 0 (spread (coefficient_word l.curve) (take l.i l.machs))) × (l.marks ≡ sets l.initial.marks 0 (spread (mark_byte l.curve) (take l.i l.machs)))
