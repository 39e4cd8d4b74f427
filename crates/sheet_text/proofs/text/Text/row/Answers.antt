-- `row` meets its contract.
use Rattle.sheet_text.specs.Bytes.{Prints}
use Rattle.sheet_text.specs.Text.{line_text, numbered_name}
use Rattle.sheet_text.proofs.Puts.{prints_then}
use Rattle.sheet_text.proofs.text.Text.row.Goals as goal
use Rattle.sheet_text.proofs.text.Text.row.Goals.{After-numbers, then-numbered, else-numbered}

-- the name is printed, with its number where it is numbered
named : (c : After-numbers) → Prints (numbered_name c.args.name.now c.args.numbered c.args.number) c.args.self.now c.if-numbered.self
named c = elim c.if-numbered.branch [
  | then-numbered w ↦ rw (w.self-is, w.if-numbered.true) (prints_then c.bytes.ensures (prints_then w.bytes-then-numbered.ensures w.decimal.ensures))
  | else-numbered w ↦ rw (w.self-is, w.if-numbered.false) c.bytes.ensures
]

pub returns : goal.returns
unfolding line_text
returns c = prints_then (named c) c.numbers.ensures
