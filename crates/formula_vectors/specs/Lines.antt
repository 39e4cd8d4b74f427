-- When a stored line agrees: it can be read, and its status and words are those that the definitions give at its arguments.
use Rattle.std.specs.Prelude.{ℕ, Bool, true, false, cond, ◌&&◌, List, [], ◌∷◌, eqb, ltb, get_or, Float, Option, Some, None, Ok, Err}
use Rattle.aero_error.specs.Checks.{dimension, Check}
use Rattle.nose_drag.specs.Curves.{Curve}
use Rattle.nose_drag.specs.Beyond.{drag_of}
use Rattle.std.specs.Float.Ieee.{to_bits}
use Rattle.std.specs.Float.{binary64}
use Rattle.elementary.specs.Arithmetic.{bits}
use Rattle.elementary.specs.Constants.{0·0}
use Rattle.aero_error.specs.Refusals.{refused_value}
use Rattle.drag.specs.Friction.{mach_checked}
use Rattle.nose_drag.specs.declared.curve.PressureDragCurve.{PressureDragCurve}
use Rattle.cobalnis.specs.Answers.{status_of, no_such, formula_of, formula_status, formula_bits, dimension_status, dimension_bits, cone_status, cone_word, is_nose, point_status, point_words, lookup_words, curve_from, drag_bits, drag_mark, about}
use Rattle.replay.specs.declared.Counts.{Counts}
use Rattle.replay.specs.Counts.{counted}
use Rattle.replay.specs.Words.{word_at, is_line}
use Rattle.formula_vectors.specs.declared.Function.{Function}
use Rattle.formula_vectors.specs.declared.Function.TheVariants.{Formula, Dimension, Cone, Point, Lookup, CurveAtMach, LookupMark, CurveMark}

-- ---- arguments and answers

-- a word that is too large for a u32 names nothing
abbrev pub named : ℕ → ℕ
named word = cond (ltb word 65535) word 65535

abbrev pub float_at : List ℕ → ℕ → Float
float_at line which = bits (word_at line which)

unfoldable pub is_answer : List ℕ → List ℕ → Bool
is_answer line answer =
    eqb (word_at line 6) (get_or answer 0 0)
    && eqb (word_at line 7) (get_or answer 1 0)
    && eqb (word_at line 8) (get_or answer 2 0)
    && eqb (word_at line 9) (get_or answer 3 0)
    && eqb (word_at line 10) (get_or answer 4 0)

-- ---- the functions

unfoldable pub formula_at : List ℕ → List ℕ
formula_at line =
    let formula = formula_of (named (word_at line 0)) (float_at line 1) (float_at line 2) (float_at line 3) (float_at line 4) (float_at line 5) in
    formula_status formula ∷ formula_bits formula 0 ∷ 0 ∷ 0 ∷ 0 ∷ []

unfoldable pub dimension_at : List ℕ → List ℕ
dimension_at line =
    let what = named (word_at line 0) in
    let ok = dimension (float_at line 1) (eqb (word_at line 2) 1) in
    dimension_status what ok ∷ dimension_bits what ok (float_at line 1) 0 ∷ 0 ∷ 0 ∷ 0 ∷ []

unfoldable pub cone_at : List ℕ → List ℕ
cone_at line = cone_status (word_at line 0) ∷ cone_word (word_at line 0) (float_at line 1) 0 ∷ 0 ∷ 0 ∷ 0 ∷ []

unfoldable pub point_at : List ℕ → List ℕ
point_at line =
    let nose = named (word_at line 0) in
    let words = point_words nose (word_at line 1) (0 ∷ 0 ∷ []) in
    point_status nose (word_at line 1) ∷ get_or words 0 0 ∷ get_or words 1 0 ∷ 0 ∷ 0 ∷ []

-- a table read at a Mach: value, slope, first Mach and mark
abbrev pub lookup_of : List ℕ → List ℕ
lookup_of line = lookup_words (named (word_at line 0)) (float_at line 1) (0 ∷ 0 ∷ 0 ∷ 0 ∷ [])

abbrev pub lookup_status : List ℕ → ℕ
lookup_status line = cond (is_nose (named (word_at line 0))) 0 no_such

unfoldable pub lookup_at : List ℕ → List ℕ
lookup_at line = let words = lookup_of line in lookup_status line ∷ get_or words 0 0 ∷ get_or words 1 0 ∷ get_or words 2 0 ∷ 0 ∷ []

unfoldable pub lookup_mark_at : List ℕ → List ℕ
lookup_mark_at line = lookup_status line ∷ get_or (lookup_of line) 3 0 ∷ 0 ∷ 0 ∷ 0 ∷ []

-- a curve that is built, at a Mach: the status, the coefficient, its mark, and what is said about the curve
abbrev pub read_answer : Check → PressureDragCurve → Float → List ℕ
read_answer (Ok _) curve M = 0 ∷ drag_bits (drag_of curve M) ∷ drag_mark (drag_of curve M) ∷ about 0·0 curve
read_answer (Err e) curve M = status_of e ∷ 0 ∷ 0 ∷ about (refused_value e) curve

-- a shape's number above 6 names none
abbrev pub curve_answer : Bool → Curve → Float → List ℕ
curve_answer true curve M = no_such ∷ 0 ∷ 0 ∷ 0 ∷ 0 ∷ 0 ∷ []
curve_answer false (Err e) M = status_of e ∷ 0 ∷ 0 ∷ to_bits binary64 (refused_value e) ∷ 0 ∷ 0 ∷ []
curve_answer false (Ok curve) M = read_answer (mach_checked M) curve M

unfoldable pub curve_words : ℕ → Float → Float → Float → Float → List ℕ
curve_words shape parameter fineness angle M = curve_answer (ltb 6 shape) (curve_from shape parameter fineness angle) M

unfoldable pub curve_of : List ℕ → List ℕ
curve_of line = curve_words (word_at line 0) (float_at line 1) (float_at line 2) (float_at line 3) (float_at line 4)

unfoldable pub curve_at : List ℕ → List ℕ
curve_at line = let words = curve_of line in get_or words 0 0 ∷ get_or words 1 0 ∷ get_or words 3 0 ∷ get_or words 4 0 ∷ get_or words 5 0 ∷ []

unfoldable pub curve_mark_at : List ℕ → List ℕ
curve_mark_at line = let words = curve_of line in get_or words 0 0 ∷ get_or words 2 0 ∷ 0 ∷ 0 ∷ 0 ∷ []

-- ---- lines

-- the function of a tag; the tags are the letters f, d, k, p, l, c, a, b
unfoldable pub function_of : ℕ → Option Function
function_of tag =
    cond (eqb tag 102) (Some Formula)
    (cond (eqb tag 100) (Some Dimension)
    (cond (eqb tag 107) (Some Cone)
    (cond (eqb tag 112) (Some Point)
    (cond (eqb tag 108) (Some Lookup)
    (cond (eqb tag 99) (Some CurveAtMach)
    (cond (eqb tag 97) (Some LookupMark)
    (cond (eqb tag 98) (Some CurveMark) None)))))))

-- the status and the words that it writes, at a line's arguments
abbrev pub answer_of : Function → List ℕ → List ℕ
answer_of Formula line = formula_at line
answer_of Dimension line = dimension_at line
answer_of Cone line = cone_at line
answer_of Point line = point_at line
answer_of Lookup line = lookup_at line
answer_of CurveAtMach line = curve_at line
answer_of LookupMark line = lookup_mark_at line
answer_of CurveMark line = curve_mark_at line

-- where a function's lines are counted: a formula at its number, the other functions after the 22 formulas
abbrev pub slot_of_function : Function → ℕ → ℕ
slot_of_function Formula number = cond (ltb number 22) number 31
slot_of_function Dimension number = 22
slot_of_function Cone number = 23
slot_of_function Point number = 24
slot_of_function Lookup number = 25
slot_of_function CurveAtMach number = 26
slot_of_function LookupMark number = 27
slot_of_function CurveMark number = 28

-- a line of another tag asks for nothing and does not agree
abbrev pub asked : ℕ → List ℕ → Bool
asked tag line = elim (function_of tag) [ Some function ↦ is_answer line (answer_of function line) | None ↦ false ]

abbrev pub line_agrees : List ℕ → Bool
line_agrees line = is_line line && asked (get_or line 0 0) line

-- where a line is counted
abbrev pub kind_of : ℕ → ℕ → ℕ
kind_of tag number = elim (function_of tag) [ Some function ↦ slot_of_function function number | None ↦ 31 ]

abbrev pub after_line : Counts → List ℕ → Counts
after_line counts line = counted counts (kind_of (get_or line 0 0) (word_at line 0)) (line_agrees line)
