-- The fixed steps (docs/REFERENCE.md, Fixed steps), line by line: SQRT, LN, EXP, POW and SIN on every binary64 number. One rounding an operation, in the order
-- written.
use Rattle.std.specs.Prelude.{false, cond, ◌||◌, List, [], ◌∷◌, ℕ, ◌+◌, ◌-◌, ◌*◌, ◌/◌, ◌%◌, ◌^◌, pos, eqb, Float}
use Rattle.std.specs.Float.{nan, inf, fin}
use Rattle.std.specs.Float.Ieee.{neg, is_nan, minus}
use Rattle.elementary.specs.declared.split.Positive.{Positive}
use Rattle.elementary.specs.declared.split.Positive.TheVariants.{Not, Zero, Finite}
use Rattle.elementary.specs.declared.split.Whole.{Whole}
use Rattle.elementary.specs.Arithmetic.{◌⊕◌, ◌⊖◌, ◌⊗◌, ◌⊘◌, ◌≺◌, ◌≼◌, ◌≈◌, whole}
use Rattle.elementary.specs.Constants.{0·0, 0·5, 1·0, 2·0, 1·4142135623730951, ln_2, 710·0, 746·0, ulp_of_one}
use Rattle.elementary.specs.Split.{split_of, positive_of, floor_of, two^, signed}
use Rattle.elementary.specs.Root.{nearest_root}

-- p, taken through a step for each number of a list
abbrev pub through : (Float → ℕ → Float) → Float → List ℕ → Float
through step p [] = p
through step p (k ∷ ks) = through step (step p k) ks

-- ---- SQRT: the binary64 number nearest the exact root, ties to even; of +0, -0 and +infinity, itself

-- Of g × 2 ^ (d - 1127). With w = g for an odd d and w = 2 g for an even one, and j = (d - 1) / 2 its fraction dropped, that is (w × 2 ^ 52) × 2 ^ (2 × (j - 589)).
-- The whole number nearest to the root of w × 2 ^ 52 has 53 digits.
unfoldable pub sqrt_steps : ℕ → ℕ → Float
sqrt_steps g d =
    let w = cond (eqb (d % 2) 1) g (2 * g) in
    let j = (d - 1) / 2 in
    whole (nearest_root 53 (w * 2 ^ 52)) ⊗ two^ (minus j 589)

abbrev pub sqrt_parts : Positive → Float
sqrt_parts (Not answer) = answer
sqrt_parts (Zero s) = fin s 0 (pos 0)
sqrt_parts (Finite m) = sqrt_steps m.significand m.digits

unfoldable pub SQRT : Float → Float
SQRT x = sqrt_parts (positive_of (split_of x))

-- ---- LN(x), x > 0

-- p starts at 1/21, then for k = 19, 17, .. 1: p = p × u + 1/k
abbrev pub ln_series : Float → Float
ln_series u =
    through (λ p k. p ⊗ u ⊕ 1·0 ⊘ whole k) (1·0 ⊘ whole 21)
    (19 ∷ 17 ∷ 15 ∷ 13 ∷ 11 ∷ 9 ∷ 7 ∷ 5 ∷ 3 ∷ 1 ∷ [])

-- t = (m - 1)/(m + 1), u = t × t, p the series. Answer e × LN_2 + (2 × t) × p, for e = d - 1075
unfoldable pub ln_sum : Float → ℕ → Float
ln_sum m d =
    let t = (m ⊖ 1·0) ⊘ (m ⊕ 1·0) in
    let u = t ⊗ t in
    let p = ln_series u in
    let e = whole d ⊖ whole 1075 in
    e ⊗ ln_2 ⊕ 2·0 ⊗ t ⊗ p

-- Of g × 2 ^ (d - 1127): m = g / 2 ^ 52 and e = d - 1075. If m > 1.4142135623730951, halve m and add 1 to e
unfoldable pub ln_steps : ℕ → ℕ → Float
unfolding ln_sum
ln_steps g d =
    let m = whole g ⊗ ulp_of_one in
    cond (1·4142135623730951 ≺ m) (ln_sum (0·5 ⊗ m) (d + 1)) (ln_sum m d)

-- NaN is the answer to LN(0)
abbrev pub ln_parts : Positive → Float
ln_parts (Not answer) = answer
ln_parts (Zero s) = nan
ln_parts (Finite m) = ln_steps m.significand m.digits

unfoldable pub LN : Float → Float
LN x = ln_parts (positive_of (split_of x))

-- ---- EXP(y)

-- p starts at 1, then for j = 13 down to 1: p = 1 + (r × p)/j
abbrev pub exp_series : Float → Float
exp_series r =
    through (λ p j. 1·0 ⊕ r ⊗ p ⊘ whole j) 1·0
    (13 ∷ 12 ∷ 11 ∷ 10 ∷ 9 ∷ 8 ∷ 7 ∷ 6 ∷ 5 ∷ 4 ∷ 3 ∷ 2 ∷ 1 ∷ [])

-- a whole number as a float
abbrev pub whole_of : Whole → Float
whole_of k = cond k.negative (neg (whole k.size)) (whole k.size)

-- (p × 2^h) × 2^(k-h), h being k/2 with its fraction dropped: both keep k's sign
abbrev pub scaled : Float → Whole → Float
scaled p k =
    let h = k.size / 2 in
    p ⊗ two^ (signed k.negative h) ⊗ two^ (signed k.negative (k.size - h))

-- k is the greatest whole number ≤ y/LN_2 + 0.5, r = y - k × LN_2, p the series
unfoldable pub exp_steps : Float → Float
unfolding floor_of
exp_steps y =
    let k = floor_of (y ⊘ ln_2 ⊕ 0·5) in
    let r = y ⊖ whole_of k ⊗ ln_2 in
    scaled (exp_series r) k

-- y ≥ 710 gives +infinity, y ≤ -746 gives 0
unfoldable pub EXP : Float → Float
unfolding exp_steps
EXP y =
    cond (is_nan y) nan
    (cond (710·0 ≼ y) (inf false)
    (cond (y ≼ neg 746·0) 0·0 (exp_steps y)))

-- ---- POW(x, y), x ≥ 0. A negative x gives NaN, whatever y is; then y = 0 and x = 1 come before the NaN test

-- x = 0 gives 0 for y > 0, +infinity for y < 0; else EXP(y × LN(x))
unfoldable pub pow_steps : Float → Float → Float
unfolding EXP LN
pow_steps x y = cond (x ≈ 0·0) (cond (0·0 ≺ y) 0·0 (inf false)) (EXP (y ⊗ LN x))

unfoldable pub POW : Float → Float → Float
unfolding pow_steps
POW x y =
    cond (x ≺ 0·0) nan
    (cond (y ≈ 0·0) 1·0
    (cond (x ≈ 1·0) 1·0
    (cond (is_nan x || is_nan y) nan
    (pow_steps x y))))

-- ---- SIN(x): z = x × x; p starts at 1, then for k = 22, 20, .. 2: p = 1 - (z × p)/(k × (k + 1)). Answer x × p
unfoldable pub SIN : Float → Float
SIN x =
    let z = x ⊗ x in
    let p = through (λ p k. 1·0 ⊖ z ⊗ p ⊘ whole (k * (k + 1))) 1·0 (22 ∷ 20 ∷ 18 ∷ 16 ∷ 14 ∷ 12 ∷ 10 ∷ 8 ∷ 6 ∷ 4 ∷ 2 ∷ []) in
    x ⊗ p
