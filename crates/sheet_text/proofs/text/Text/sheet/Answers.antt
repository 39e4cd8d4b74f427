-- `sheet` meets its contract.
use Rattle.sheet_text.specs.Text.{sheet_text}
use Rattle.sheet_text.proofs.Puts.{prints_then}
use Rattle.sheet_text.proofs.text.Text.sheet.Goals as goal

pub returns : goal.returns
unfolding sheet_text
returns c = prints_then c.line.ensures (prints_then c.rows.ensures c.body.ensures)
