-- The loop of `hex_digits`: the digits before n are those of what is left of the number, the others stand.
use Rattle.std.proofs.Common.{◌≡◌, ◌++◌, length, drop}
use Rattle.sheet_text.specs.Bytes.{digits, hex_digits}
use Rattle.sheet_text.proofs.text.hex_digits.Given as goal

abbrev pub invariant-loop-n : goal.invariant-loop-n
invariant-loop-n l = (length l.out ≡ digits) × (hex_digits digits l.x ≡ hex_digits l.n l.rest ++ drop l.n l.out)
