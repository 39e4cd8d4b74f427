-- `number` meets its contract.
use Rattle.sheet_text.specs.Text.{number_text}
use Rattle.sheet_text.proofs.Puts.{prints_then}
use Rattle.sheet_text.proofs.text.Text.number.Goals as goal

pub returns : goal.returns
unfolding number_text
returns c = rw (← c.to_bits.ensures, ← c.hex_digits.ensures) (prints_then c.bytes.ensures c.bytes-2.ensures)
