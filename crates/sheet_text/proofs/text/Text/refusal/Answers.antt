-- `refusal` meets its contract.
use Rattle.sheet_text.specs.Text.{refused_text}
use Rattle.sheet_text.proofs.Puts.{prints_then}
use Rattle.sheet_text.proofs.text.Text.refusal.Goals as goal

pub returns : goal.returns
unfolding refused_text
returns c = prints_then c.bytes.ensures (prints_then c.decimal.ensures (prints_then c.bytes-2.ensures (prints_then c.decimal-2.ensures c.bytes-3.ensures)))
