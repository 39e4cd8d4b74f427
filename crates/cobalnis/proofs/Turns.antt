-- Words read one thing after the other, by index and by chunks of eight, and a turn of each loop that puts one thing more into its words.
use Rattle.std.specs.Prelude.{◌&&◌}
use mathlib.Core.Path.{◌≡◌, refl, sym, ap, ◌∙◌, subst}
use mathlib.Core.Bool.{Bool, false, cond}
use mathlib.Core.List.{List, [], ◌∷◌, ◌++◌, append_assoc, append-nil}
use Prim.Native.Nat.{ℕ, zero, suc, ◌+◌, ◌-◌, ◌*◌, ◌/◌, ◌<◌, ◌≤◌}
use native.Mathlib.Nat.{suc-mul}
use native.Mathlib.Omega.{arith}
use lib.ListN.{length, set, get_or, take, drop, length-append, length-drop, drop_of_length-le}
use lib.Seq.{sets, sets-eq, drop-drop, get_or-drop, get_or-take}
use lib.Dec.{leb, ltb}
use lib.Ieee.{Float, nan, to_bits, binary64}
use denote.Param.Members.{Mut, Called}
use Rattle.std.specs.Array.{IsFromFnResultFrom, IsFromFnResult}
use Rattle.std.specs.Simd.{first_chunks}
use Rattle.std.specs.List.{list_all}
use Rattle.std.proofs.Common.{inl, inr}
use Rattle.std.proofs.Math.Logic.{dite}
use Rattle.std.proofs.Math.Decide.{ℕ_discrete}
use Rattle.std.proofs.lemmas.List.{take_all, take_more, length-take-le}
use Rattle.std.proofs.lemmas.Bool.{cases_lt, lt-ltb, le-ltb, lt-leb, le-leb}
use Rattle.elementary.specs.Arithmetic.{bits}
use Rattle.sheet_data.specs.declared.Part.{Part}
use Rattle.sheet_data.specs.Layout.{most_parts}
use Rattle.sheet_data.specs.Contents.{no_part}
use Rattle.sheet_data.specs.Tables.{tab, tab_of, tab_same}
use Rattle.sheet_text.proofs.Puts.{sets_append}
use Rattle.nose_drag.specs.declared.curve.PressureDragCurve.{PressureDragCurve}
use Rattle.nose_drag.specs.Beyond.{drag_of}
use Rattle.cobalnis.specs.Answers.{drag_bits, drag_mark, coefficient_word, mark_byte}
use Rattle.cobalnis.specs.Words.{part_word_count, first_part, sheet_word_count, every, float, part_of, part_chunks, spread, float_words, part_words, shapes_known}

-- ---- reading

-- a float for each word from a place on
pub every_float : (n : ℕ) (ws : List ℕ) (at : ℕ) → every float 1 n (drop at ws) ≡ tab n (λ k. bits (get_or ws (at + k) 0))
unfolding every tab
every_float zero ws at = refl
every_float (suc n) ws at =
    let first : float (drop at ws) ≡ bits (get_or ws (at + 0) 0) = ap bits (get_or-drop at ws 0 0) in
    let left : every float 1 n (drop 1 (drop at ws)) ≡ every float 1 n (drop (at + 1) ws) = ap (every float 1 n) (drop-drop 1 at ws) in
    let moved = tab_same n (λ k. bits (get_or ws (at + 1 + k) 0)) (λ k. bits (get_or ws (at + suc k) 0)) (λ k h. let e : at + 1 + k ≡ at + suc k = omega arith in ap (λ (i : ℕ). bits (get_or ws i 0)) e) in
    ap (λ (x : Float). x ∷ every float 1 n (drop 1 (drop at ws))) first ∙ ap (λ (xs : List Float). bits (get_or ws (at + 0) 0) ∷ xs) (left ∙ every_float n ws (at + 1) ∙ moved)

-- ---- an array of what a closure answers at each index, where a call leaves the closure as it was

made_at : {F B : Type 0} (g : Mut F (ℕ × Unit {0}) B) (h : ℕ → B) (f : F) (ys : List B) (n : ℕ) (d : B)
    → ((k : ℕ) (y : B) (q : F) → k < n → Called g f (k, tt) y q → (q ≡ f) × (y ≡ h k))
    → (i m : ℕ) → i + m ≡ n → IsFromFnResultFrom g f ys i m → (k : ℕ) → i ≤ k → k < n → get_or ys k d ≡ h k
made_at g h f ys n d each i zero e w k low high = absurd (omega arith)
made_at {F = F} g h f ys n d each i (suc m) e (q, y, at, called, rest) k low high =
    let one = each i y q (omega arith) called in
    dite (ℕ_discrete k i) (λ p. rw p (at.1 d ∙ one.1)) (λ p. made_at g h f ys n d each (i + 1) m (omega arith) (subst (λ (r : F). IsFromFnResultFrom g r ys (i + 1) m) one.0 rest) k (omega arith) high)

pub made_tab : {F B : Type 0} (g : Mut F (ℕ × Unit {0}) B) (h : ℕ → B) (f : F) (ys : List B) (n : ℕ) (d : B)
    → IsFromFnResult g f ys n → ((k : ℕ) (y : B) (q : F) → k < n → Called g f (k, tt) y q → (q ≡ f) × (y ≡ h k)) → ys ≡ tab n h
made_tab g h f ys n d w each = tab_of d n h ys w.long (λ k l. made_at g h f ys n d each 0 n (omega arith) w.each k (omega arith) l)

-- ---- chunks of eight words

-- all words after those before the parts are the parts'
pub chunks_all : (ws : List ℕ) → length ws ≡ sheet_word_count
    → let us = take (sheet_word_count - first_part) (drop first_part ws) in first_chunks part_word_count (length us / part_word_count) us ≡ part_chunks ws
unfolding part_chunks
chunks_all ws h =
    let us = drop first_part ws in
    let l : length us ≡ most_parts * part_word_count = omega (arith, length-drop first_part ws, h) in
    let n : length us / part_word_count ≡ most_parts = rw l in
    let e : take (sheet_word_count - first_part) us ≡ us = take_all (sheet_word_count - first_part) us (omega (arith, l)) in
    rw (e, n)

-- the part that a chunk stands for is the part whose words begin there
part_taken : (ws : List ℕ) → part_of (take part_word_count ws) ≡ part_of ws
part_taken ws =
    let g : (i : ℕ) → i < part_word_count → get_or (take part_word_count ws) i 0 ≡ get_or ws i 0 = λ i h. get_or-take part_word_count ws i 0 h in
    rw (g 0 (omega arith), g 1 (omega arith), g 2 (omega arith), g 3 (omega arith), g 4 (omega arith), g 5 (omega arith), g 6 (omega arith), g 7 (omega arith))

chunks_step : (n : ℕ) (ws : List ℕ) → every part_of part_word_count n ws ≡ tab n (λ k. part_of (get_or (first_chunks part_word_count n ws) k []))
unfolding every tab
chunks_step zero ws = refl
chunks_step (suc n) ws =
    let rest = every part_of part_word_count n (drop part_word_count ws) in
    ap (λ (p : Part). p ∷ rest) (sym (part_taken ws)) ∙ ap (λ (ps : List Part). part_of (take part_word_count ws) ∷ ps) (chunks_step n (drop part_word_count ws))

pub every_chunks : (ws : List ℕ) → every part_of part_word_count most_parts (drop first_part ws) ≡ tab most_parts (λ k. part_of (get_or (part_chunks ws) k []))
unfolding part_chunks
every_chunks ws = chunks_step most_parts (drop first_part ws)

known_low : (x : ℕ) (rest : Bool) → cond (ltb 5 x) false rest ≡ (leb x 5 && rest)
known_low x rest = elim (cases_lt 5 x) [ inl h ↦ rw (lt-ltb 5 x h, lt-leb x 5 h) | inr h ↦ rw (le-ltb 5 x h, le-leb x 5 h) ]

known_step : (n : ℕ) (ws : List ℕ) → shapes_known n ws ≡ list_all (λ part. leb (get_or part 0 0) 5) (first_chunks part_word_count n ws)
unfolding shapes_known
known_step zero ws = refl
known_step (suc n) ws =
    let e : get_or (take part_word_count ws) 0 0 ≡ get_or ws 0 0 = get_or-take part_word_count ws 0 0 (omega arith) in
    rw (e, known_step n (drop part_word_count ws)) (known_low (get_or ws 0 0) _)

pub known_chunks : (ws : List ℕ) → shapes_known most_parts (drop first_part ws) ≡ list_all (λ part. leb (get_or part 0 0) 5) (part_chunks ws)
unfolding part_chunks
known_chunks ws = known_step most_parts (drop first_part ws)

-- ---- putting

-- how many words that is, `size` for each
pub spread_long : {A : Type 0} (words : A → List ℕ) (size : ℕ) → ((x : A) → length (words x) ≡ size) → (xs : List A) → length (spread words xs) ≡ length xs * size
unfolding spread
spread_long words size each [] = let e : 0 ≡ 0 * size = omega arith in e
spread_long words size each (x ∷ xs) =
    let a = length-append (words x) (spread words xs) in
    let b = spread_long words size each xs in
    let h = suc-mul (length xs) size in
    let k = each x in
    omega (arith, a, b, h, k)

pub floats_long : (xs : List Float) → length (spread float_words xs) ≡ length xs
floats_long xs = let e = spread_long float_words 1 (λ x. refl) xs in omega (arith, e)

spread_append : {A : Type 0} (words : A → List ℕ) (xs ys : List A) → spread words (xs ++ ys) ≡ spread words xs ++ spread words ys
unfolding spread
spread_append words [] ys = refl
spread_append words (x ∷ xs) ys = ap (λ (us : List ℕ). words x ++ us) (spread_append words xs ys) ∙ sym (append_assoc (words x) (spread words xs) (spread words ys))

-- the words of one thing more
spread_more : {A : Type 0} (words : A → List ℕ) (size : ℕ) → ((x : A) → length (words x) ≡ size) → (xs : List A) (d : A) (i : ℕ) (ws : List ℕ) (at k : ℕ) → at + i * size ≡ k → i < length xs
    → sets ws at (spread words (take (i + 1) xs)) ≡ sets (sets ws at (spread words (take i xs))) k (words (get_or xs i d))
unfolding spread
spread_more {A = A} words size each xs d i ws at k e h =
    let vs = spread words (take i xs) in
    let row = words (get_or xs i d) in
    let n = spread_long words size each (take i xs) ∙ ap (λ (m : ℕ). m * size) (length-take-le i xs (omega arith)) in
    ap (λ (ys : List A). sets ws at (spread words ys)) (take_more xs i d h)
    ∙ ap (sets ws at) (spread_append words (take i xs) (get_or xs i d ∷ []) ∙ ap (λ (us : List ℕ). vs ++ us) (append-nil row))
    ∙ sets_append vs row ws at
    ∙ ap (λ (m : ℕ). sets (sets ws at vs) m row) (ap (λ (m : ℕ). at + m) n ∙ e)

pub float_more : (ws : List ℕ) (at i : ℕ) (xs : List Float) → i < length xs
    → sets ws at (spread float_words (take (i + 1) xs)) ≡ set (sets ws at (spread float_words (take i xs))) (at + i) (to_bits binary64 (get_or xs i nan))
float_more ws at i xs h = spread_more float_words 1 (λ x. refl) xs nan i ws at (at + i) (omega arith) h

pub coefficient_more : (curve : PressureDragCurve) (ws : List ℕ) (i : ℕ) (Ms : List Float) → i < length Ms
    → sets ws 0 (spread (coefficient_word curve) (take (i + 1) Ms)) ≡ set (sets ws 0 (spread (coefficient_word curve) (take i Ms))) i (drag_bits (drag_of curve (get_or Ms i nan)))
coefficient_more curve ws i Ms h = spread_more (coefficient_word curve) 1 (λ M. refl) Ms nan i ws 0 i (omega arith) h

pub mark_more : (curve : PressureDragCurve) (ws : List ℕ) (i : ℕ) (Ms : List Float) → i < length Ms
    → sets ws 0 (spread (mark_byte curve) (take (i + 1) Ms)) ≡ set (sets ws 0 (spread (mark_byte curve) (take i Ms))) i (drag_mark (drag_of curve (get_or Ms i nan)))
mark_more curve ws i Ms h = spread_more (mark_byte curve) 1 (λ M. refl) Ms nan i ws 0 i (omega arith) h

pub part_more : (ws : List ℕ) (at i : ℕ) (ps : List Part) → i < length ps
    → sets ws at (spread part_words (take (i + 1) ps)) ≡ sets (sets ws at (spread part_words (take i ps))) (at + part_word_count * i) (part_words (get_or ps i no_part))
part_more ws at i ps h = spread_more part_words part_word_count (λ p. refl) ps no_part i ws at (at + part_word_count * i) (omega arith) h

-- as many words as there are, from the first on, are all of them
pub sets_all : (vs ws : List ℕ) → length vs ≡ length ws → sets ws 0 vs ≡ vs
sets_all vs ws e = sets-eq vs ws 0 (omega arith) ∙ ap (λ (us : List ℕ). vs ++ us) (drop_of_length-le ws {i = 0 + length vs} (omega arith)) ∙ append-nil vs
