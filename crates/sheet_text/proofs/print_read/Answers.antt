-- `print_read` meets its contract: the buffers are as long as a stream's first bytes that matter and as the longest text.
use Rattle.std.proofs.Common.{◌≡◌, length, min, rules}
use Rattle.std.proofs.lemmas.List.{take_min}
use Rattle.sheet_text.proofs.Prefix.{answered_read}
use Rattle.sheet_text.proofs.print_read.Goals as goal

pub returns : goal.returns
returns c =
    let a = c.args in
    let m : c.min.result ≡ min a.n (length a.input.now) = rw c.told-input c.min.ensures in
    answered_read a.input.now a.out.now _ a.n c.print_stream.result (search rules) (search rules) (rw (m, take_min a.n a.input.now) at c.print_stream.ensures)
