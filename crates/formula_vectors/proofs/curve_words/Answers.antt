-- `formula_vectors::curve_words` meets its contract.
use Rattle.std.specs.Prelude.{Ok, Err}
use Rattle.aero_error.specs.Checks.{up_to, Check}
use Rattle.nose_drag.specs.Curves.{Curve}
use mathlib.Core.Path.{◌≡◌, ◌∙◌}
use mathlib.Core.Bool.{Bool, true, false}
use mathlib.Core.List.{List, [], ◌∷◌}
use Prim.Native.Nat.{ℕ}
use lib.Dec.{ltb}
use lib.ListN.{get_or}
use lib.Ieee.{Float}
use Rattle.drag.specs.Friction.{mach_checked, machs_test}
use Rattle.nose_drag.specs.declared.curve.PressureDragCurve.{PressureDragCurve}
use Rattle.cobalnis.specs.Words.{spread}
use Rattle.cobalnis.specs.Answers.{curve_from, LentWords, lent_words, ReadAt, CurveAnswered}
use Rattle.formula_vectors.specs.Lines.{read_answer, curve_answer, curve_words, curve_of}
use Rattle.formula_vectors.proofs.curve_words.Goals as goal

-- the status and the words that a curve leaves
abbrev six : ℕ → LentWords → List ℕ → List ℕ
six r ys said = r ∷ get_or ys.words 0 0 ∷ get_or ys.marks 0 0 ∷ get_or said 0 0 ∷ get_or said 1 0 ∷ get_or said 2 0 ∷ []

read_words : (t : Check) (curve : PressureDragCurve) (M : Float) (r : ℕ) (ys : LentWords) (said : List ℕ)
    → ReadAt t curve (M ∷ []) (lent_words (0 ∷ []) (0 ∷ [])) r ys said → six r ys said ≡ read_answer t curve M
unfolding spread
read_words (Ok _) curve M r ys said (a, b, c, d) = rw (a, b, c, d)
read_words (Err e) curve M r ys said (a, b, d) = rw (a, b, d)

answer_words : (none : Bool) (curve : Curve) (M : Float) (r : ℕ) (ys : LentWords) (said : List ℕ)
    → CurveAnswered none curve (M ∷ []) (lent_words (0 ∷ []) (0 ∷ [])) (0 ∷ 0 ∷ 0 ∷ []) r ys said → six r ys said ≡ curve_answer none curve M
unfolding machs_test up_to
answer_words true curve M r ys said (a, b, d) = rw (a, b, d)
answer_words false (Err e) M r ys said (a, b, d) = rw (a, b, d)
answer_words false (Ok curve) M r ys said h = read_words (mach_checked M) curve M r ys said h

words_shown : (shape : ℕ) (parameter fineness angle M : Float) (r : ℕ) (ys : LentWords) (said : List ℕ)
    → CurveAnswered (ltb 6 shape) (curve_from shape parameter fineness angle) (M ∷ []) (lent_words (0 ∷ []) (0 ∷ [])) (0 ∷ 0 ∷ 0 ∷ []) r ys said
    → six r ys said ≡ curve_words shape parameter fineness angle M
unfolding curve_words
words_shown shape parameter fineness angle M r ys said h = answer_words (ltb 6 shape) (curve_from shape parameter fineness angle) M r ys said h

pub returns : goal.returns
unfolding curve_of
returns = λ c.
    let h = words_shown c.word_at-shape.result c.float_at-parameter.result c.float_at-fineness.result c.float_at-angle.result c.float_at.result _ _ _ c.cobalnis_curve-status.ensures in
    h ∙ simp (c.word_at-shape.ensures, c.float_at-parameter.ensures, c.float_at-fineness.ensures, c.float_at-angle.ensures, c.float_at.ensures)
