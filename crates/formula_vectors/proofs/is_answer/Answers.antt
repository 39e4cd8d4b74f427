-- `formula_vectors::is_answer` meets its contract: `==` of two arrays compares each word.
use Rattle.std.proofs.Common.{ℕ, List, ◌≡◌, ◌∙◌, ◌∷◌, [], ◌&&◌, nat_eq, get_or, length, arith}
use Rattle.std.proofs.Math.Bool.{and_assoc, and-true}
use lib.Pointwise.{pointwise}
use Rattle.formula_vectors.specs.Lines.{is_answer}
use Rattle.formula_vectors.proofs.is_answer.Goals as goal

-- five words are those of a list of five where each is
five : (a b c d e : ℕ) (words : List ℕ) → length words ≡ 5
    → pointwise nat_eq (a ∷ b ∷ c ∷ d ∷ e ∷ []) words ≡ (nat_eq a (get_or words 0 0) && nat_eq b (get_or words 1 0) && nat_eq c (get_or words 2 0) && nat_eq d (get_or words 3 0) && nat_eq e (get_or words 4 0))
five a b c d e (p ∷ q ∷ r ∷ s ∷ t ∷ []) h = simp (and_assoc, and-true)
five a b c d e _ h = absurd (omega arith)

pub returns : goal.returns
unfolding is_answer
returns c = c.eq.ensures ∙ five _ _ _ _ _ c.args.answer (omega arith) ∙ simp (c.word_at.ensures, c.word_at-2.ensures, c.word_at-3.ensures, c.word_at-4.ensures, c.word_at-5.ensures)
