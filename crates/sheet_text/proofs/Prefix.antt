-- What is printed for any stream is what is printed for its first `stream_bytes` bytes, so a program that reads no more prints the right text for every stream,
-- an endless one too.
use mathlib.Core.Path.{◌≡◌, sym, ap, ◌∙◌}
use mathlib.Core.List.{List, ◌++◌}
use Prim.Native.Nat.{ℕ, ◌≤◌}
use lib.ListN.{length, take, drop}
use lib.Seq.{take-take, take-append_seam}
use borrow.Author.Tests.{le-ltb}
use Rattle.card_run.specs.Run.{stream_bytes}
use Rattle.card_run.proofs.Prefix.{first_bytes}
use Rattle.sheet_text.specs.Text.{nothing_lent, most_text, answer_text, ran_text, printed, Printed, Answered}

pub text_of_first_bytes : (s : List ℕ) → answer_text s ≡ answer_text (take stream_bytes s)
unfolding answer_text
text_of_first_bytes s = ap ran_text (first_bytes s nothing_lent)

-- the text of what a buffer holds of a stream, where the buffer is long enough
pub text_of_read : (input s : List ℕ) (n : ℕ) → stream_bytes ≤ length input → take (length input) s ≡ take n input → answer_text (take n input) ≡ answer_text s
text_of_read input s n h e =
    text_of_first_bytes (take n input)
    ∙ ap (λ (t : List ℕ). answer_text (take stream_bytes t)) (sym e)
    ∙ ap answer_text (take-take stream_bytes (length input) s h)
    ∙ sym (text_of_first_bytes s)

-- what is printed from it into a buffer that holds every text
pub answered_read : (input xs ys : List ℕ) (n r : ℕ) → stream_bytes ≤ length input → most_text ≤ length xs → Printed (take n input) xs r ys → Answered input n r ys
answered_read input xs ys n r h k p =
    let t = answer_text (take n input) in
    let e : printed (take n input) (length xs) ≡ t = rw (le-ltb (length xs) most_text k) in
    let l : r ≡ length t = p.count ∙ ap length e in
    let b : ys ≡ t ++ drop (length t) xs = p.bytes ∙ ap (λ (z : List ℕ). z ++ drop (length z) xs) e in
    record {
      text = λ s i. ap (λ (m : ℕ). take m ys) l ∙ ap (take (length t)) b ∙ take-append_seam t (drop (length t) xs) ∙ text_of_read input s n h i;
      within = p.within;
    }
