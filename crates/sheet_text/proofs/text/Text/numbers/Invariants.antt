-- The loop of `numbers`: the numbers before place k are printed, with their marks.
use Rattle.std.proofs.Common.{◌≤◌, ◌+◌, ◌*◌, take}
use Rattle.sheet_text.specs.Bytes.{Prints}
use Rattle.sheet_text.specs.Text.{marked_text_size, numbers_text}
use Rattle.sheet_text.proofs.text.Text.numbers.Given as goal

abbrev pub invariant-loop-k : goal.invariant-loop-k
invariant-loop-k l = (l.self.len ≤ l.initial.self.len + marked_text_size * l.k) × Prints (numbers_text (take l.k l.row) l.marks) l.initial.self l.self
