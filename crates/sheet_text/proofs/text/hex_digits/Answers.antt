-- `hex_digits` meets its contract.
use Rattle.std.proofs.Common.{arith, ◌∙◌, length-set}
use Rattle.sheet_text.proofs.Puts.{hex_step}
use Rattle.sheet_text.proofs.text.hex_digits.Goals as goal

pub loop-n-preserved : goal.loop-n-preserved
loop-n-preserved c =
    let l = c.loop-n in
    rw c.hex_digit.ensures (length-set l.out _ _ ∙ l.invariant.0, l.invariant.1 ∙ hex_step l.n l.rest l.out (omega arith) (omega (arith, l.invariant.0)))
