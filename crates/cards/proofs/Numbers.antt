-- The arrays of a card's numbers while they are filled, chunk by chunk of its bytes: a pair M, R, or a roughness.
use mathlib.Core.Path.{◌≡◌, refl, sym, ap, ◌∙◌}
use mathlib.Core.List.{List, [], ◌∷◌, ◌++◌, append_assoc}
use Prim.Native.Nat.{ℕ, zero, suc, ◌+◌, ◌-◌, ◌*◌, ◌/◌, ◌<◌, ◌≤◌}
use native.Mathlib.Numerals.{add-one}
use native.Mathlib.Nat.{mul-suc, mul-le-mul_left, mul-div_cancel_left}
use native.Mathlib.Omega.{arith}
use lib.ListN.{length, set, replicate, get_or, take, drop, length-take, length-drop}
use lib.Seq.{set_at, get_or-drop, get_or-take}
use lib.Ieee.{Float}
use Rattle.std.specs.Simd.{first_chunks}
use Rattle.elementary.specs.Arithmetic.{bits}
use Rattle.elementary.specs.Constants.{0·0}
use Rattle.sheet_data.proofs.Chunks.{in_chunk}
use Rattle.cards.specs.Fields.{number_bytes, four_bytes, eight_bytes, numbers_at}
use Rattle.cards.specs.Cards.{slots}

pub numbers_long : (step n : ℕ) (s : List ℕ) (at : ℕ) → length (numbers_at step n s at) ≡ n
unfolding numbers_at
numbers_long step zero s at = refl
numbers_long step (suc n) s at = ap suc (numbers_long step n s (at + step))

-- one number more comes last
numbers_more : (step n : ℕ) (s : List ℕ) (at : ℕ) → numbers_at step (suc n) s at ≡ numbers_at step n s at ++ (bits (eight_bytes s (at + step * n)) ∷ [])
unfolding numbers_at
numbers_more step zero s at = let e : at ≡ at + step * 0 = omega arith in ap (λ (k : ℕ). bits (eight_bytes s k) ∷ []) e
numbers_more step (suc n) s at =
    let e : at + step + step * n ≡ at + step * suc n = omega (arith, mul-suc step n) in
    ap (λ (xs : List Float). bits (eight_bytes s at) ∷ xs) (numbers_more step n s (at + step) ∙ ap (λ (k : ℕ). numbers_at step n s (at + step) ++ (bits (eight_bytes s k) ∷ [])) e)

-- the next of so many slots is filled
pub slot_next : {A : Type 0} (p : List A) (x z : A) (total n : ℕ) → length p ≡ n → n < total
    → set (p ++ replicate (total - n) z) n x ≡ p ++ (x ∷ []) ++ replicate (total - (n + 1)) z
slot_next p x z total n l h =
    let e : total - n ≡ suc (total - (n + 1)) = omega arith in
    let rest = replicate (total - (n + 1)) z in
    ap (λ (k : ℕ). set (p ++ replicate k z) n x) e ∙ set_at p z rest x n l ∙ sym (append_assoc p (x ∷ []) rest)

-- the next number goes into its slot
slot_filled : (most step n : ℕ) (s : List ℕ) (at : ℕ) → n < most
    → set (slots most n (numbers_at step n s at)) n (bits (eight_bytes s (at + step * n))) ≡ slots most (n + 1) (numbers_at step (n + 1) s at)
slot_filled most step n s at h =
    slot_next (numbers_at step n s at) (bits (eight_bytes s (at + step * n))) 0·0 most n (numbers_long step n s at) h
    ∙ ap (λ (xs : List Float). xs ++ replicate (most - (n + 1)) 0·0) (sym (ap (λ (k : ℕ). numbers_at step k s at) (add-one n) ∙ numbers_more step n s at))

-- ---- the numbers of a chunk, by their places among all bytes

-- the same bytes are the same number
four_same : (us s : List ℕ) (j k : ℕ) → ((q a b : ℕ) → q < 4 → a ≡ j + q → b ≡ k + q → get_or us a 0 ≡ get_or s b 0) → four_bytes us j ≡ four_bytes s k
four_same us s j k h =
    rw (h 0 j k (omega arith) (omega arith) (omega arith), h 1 (j + 1) (k + 1) (omega arith) refl refl, h 2 (j + 2) (k + 2) (omega arith) refl refl, h 3 (j + 3) (k + 3) (omega arith) refl refl)

eight_same : (us s : List ℕ) (j k : ℕ) → ((q a b : ℕ) → q < number_bytes → a ≡ j + q → b ≡ k + q → get_or us a 0 ≡ get_or s b 0) → eight_bytes us j ≡ eight_bytes s k
unfolding eight_bytes
eight_same us s j k h =
    rw (
      four_same us s j k (λ q a b l e f. h q a b (omega arith) e f),
      four_same us s (j + 4) (k + 4) (λ q a b l e f. h (4 + q) a b (omega arith) (omega arith) (omega arith)),
    )

eight_in_chunk : (step : ℕ) (s : List ℕ) (at m n i j k : ℕ) → i < n → step * n ≤ m → j + number_bytes ≤ step → k ≡ at + j
    → eight_bytes (get_or (first_chunks step n (take m (drop at s))) i []) j ≡ eight_bytes s (k + step * i)
eight_in_chunk step s at m n i j k h l w e =
    let below : step * suc i ≤ step * n = mul-le-mul_left step h in
    eight_same _ s j (k + step * i) (λ q a b r f g.
    let p : at + (step * i + a) ≡ b = omega arith in
    in_chunk step n i a (take m (drop at s)) 0 h (omega arith)
    ∙ get_or-take m (drop at s) (step * i + a) 0 (omega (arith, mul-suc step i))
    ∙ get_or-drop at s (step * i + a) 0
    ∙ ap (λ (x : ℕ). get_or s x 0) p)

-- a number of the next chunk goes into its slot
pub number_filled : (step most : ℕ) (s : List ℕ) (at w i j k : ℕ) (ps : List (List ℕ)) (x : Float) (out : List Float)
    → x ≡ bits (eight_bytes (get_or ps i []) j)
    → let us = take (at + step * w - at) (drop at s) in
    ps ≡ first_chunks step (length us / step) us
    → length ps ≡ length us / step
    → out ≡ slots most i (numbers_at step i s k)
    → i < length ps
    → w ≤ most
    → at + step * w ≤ length s
    → j + number_bytes ≤ step
    → k ≡ at + j
    → set out i x ≡ slots most (i + 1) (numbers_at step (i + 1) s k)
number_filled step most s at w i j k ps x out e f g h l few there within q =
    let m = at + step * w - at in
    let us = take m (drop at s) in
    let all : length us ≡ step * w = omega (arith, length-take m (drop at s), length-drop at s) in
    let count : length us / step ≡ w = rw all (mul-div_cancel_left w (omega arith)) in
    let low : i < most = omega arith in
    let same = eight_in_chunk step s at m (length us / step) i j k (omega arith) (rw count (omega arith)) within q in
    cc (same, slot_filled most step i s k low)
