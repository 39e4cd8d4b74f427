-- `print_stream` meets its contract.
use Rattle.std.proofs.Common.{◌≡◌, ap, ◌∙◌, rules, refl}
use Rattle.card_run.specs.Run.{stream_of}
use Rattle.card_run.specs.declared.Run.{Run}
use Rattle.drag_sheet.specs.Planes.{Lent, lent}
use Rattle.sheet_text.specs.Text.{nothing_lent, run_text, answer_text}
use Rattle.sheet_text.proofs.Puts.{printed_long}
use Rattle.sheet_text.proofs.print_stream.Goals as goal

pub returns : goal.returns
unfolding answer_text
returns c =
    let u = c.run_stream-run in
    let ran = stream_of c.args.s.now nothing_lent in
    let left = lent u.new.cells u.new.marks in
    let e : run_text u.result left ≡ answer_text c.args.s.now = ap (λ (r : Run). run_text r left) u.ensures.answer ∙ ap (λ (ys : Lent). run_text ran.run ys) u.ensures.left in
    printed_long c.run.ensures c.if-out-lt-MOST_TEXT.false refl e (search rules)
