-- Lower bounds and differences, beside the bounds of `Bounds`: what is at or above a number, how large the difference of two numbers without a sign is,
-- whole numbers as floats, and how a bound goes through a series.
use mathlib.Core.Path.{◌≡◌, refl, sym, ap, ◌∙◌, subst}
use mathlib.Core.Bool.{Bool, true, false, cond, ◌&&◌, true≢false}
use mathlib.Core.List.{List, [], ◌∷◌}
use Prim.Native.Nat.{ℕ, suc, ◌+◌, ◌-◌, ◌*◌, ◌^◌, ◌≤◌, ◌<◌}
use native.Mathlib.Nat.{mul_assoc, mul_comm, mul_right_comm, mul-pos, mul-le-mul_right, mul-le-mul_left, le_of_mul-le-mul_right, le_trans, le_of_eq, mul-one, one-mul, add-mul, add-zero}
use native.Mathlib.Omega.{arith}
use lib.IntN.{pos}
use lib.Dec.{T, ltb, leb, lit<, lit≤, ltb→lt, leb→le}
use lib.Pow.{pow-add}
use lib.ListN.{length}
use lib.Ieee.{Float, nan, inf, fin, binary64, up, down, round, sum, add, sub, neg, lt, eq, le, of_int, of_bits}
use lib.Ieee.Scale.{finite}
use lib.Ieee.Fits.{down_pos, up_pos, and_l, and_r}
use lib.Ieee.Exact.{HasValue}
use lib.Ieee.Back.{round_whole}
use lib.Ieee.Order.{round_mono, le_of_values}
use lib.Ieee.Positive.{positive, above, above_of_le, positive_of_value, le→cross}
use borrow.Author.Tests.{ltb-false}
use Rattle.elementary.specs.Arithmetic.{◌⊕◌, ◌⊖◌, ◌⊗◌, ◌≺◌, ◌≼◌, whole}
use Rattle.elementary.specs.Constants.{1·0}
use Rattle.elementary.specs.Steps.{through}
use Rattle.elementary.specs.Split.{Within}
use Rattle.elementary.proofs.Sizes.{Fine, small, power, round_within, not_or}
use Rattle.elementary.proofs.Bounds.{Least, mul_within}
use Rattle.elementary.proofs.Same.{unsigned}

-- ---- at or above a number

-- what is finite and not below x, a number above zero, is at or above it
pub reaches : (x y : Float) → T (positive x) → T (finite y) → (y ≺ x) ≡ false → T (x ≼ y)
unfolding lt
reaches nan y p f h = absurd p
reaches (inf s) y p f h = absurd p
reaches (fin true m e) y p f h = absurd p
reaches (fin false m e) nan p f h = absurd f
reaches (fin false m e) (inf t) p f h = absurd f
reaches (fin false m e) (fin true n d) p f h =
    let some : 0 < m * up e * down d = mul-pos (mul-pos (ltb→lt 0 m p) (up_pos e)) (down_pos d) in
    let none = ltb-false 0 (n * up d * down e + m * up e * down d) h in
    absurd (omega arith)
reaches (fin false m e) (fin false n d) p f h =
    le_of_values (fin false m e) (fin false n d) (m * up e) (down e) (n * up d) (down d) (down_pos e) (down_pos d) (refl, refl) (refl, refl)
    (ltb-false (n * up d * down e) (m * up e * down d) h)

-- and then it is above zero itself
pub positive_from : (x y : Float) → T (positive x) → T (finite y) → T (x ≼ y) → T (positive y)
positive_from x y p f h = go y f (above_of_le x y p h)
  where
    go : (z : Float) → T (finite z) → T (above z) → T (positive z)
    go nan f a = absurd a
    go (inf s) f a = absurd f
    go (fin true m e) f a = absurd a
    go (fin false m e) f a = a

-- which has no sign
pub positive_unsigned : (x : Float) → T (positive x) → T (unsigned x)
positive_unsigned nan p = absurd p
positive_unsigned (inf s) p = absurd p
positive_unsigned (fin true m e) p = absurd p
positive_unsigned (fin false m e) p = tt

-- a lower bound of x is one of what is at or above x
pub least_from : (x y : Float) (q : ℕ) → T (positive x) → Least q x → T (x ≼ y) → Least q y
least_from nan y q p l h = absurd p
least_from (inf s) y q p l h = absurd p
least_from (fin true m e) y q p l h = absurd p
least_from (fin false m e) y q p l h = go y (above_of_le (fin false m e) y p h) h
  where
    go : (z : Float) → T (above z) → T (fin false m e ≼ z) → Least q z
    go nan a k = absurd a
    go (inf s) a k = tt
    go (fin true n d) a k = absurd a
    go (fin false n d) a k =
        let i : down e * down d ≤ q * (m * up e) * down d = mul-le-mul_right (down d) l in
        let j : q * (m * up e * down d) ≤ q * (n * up d * down e) = mul-le-mul_left q (le→cross (fin false m e) (fin false n d) p a k) in
        le_of_mul-le-mul_right
        (le_trans (le_of_eq (mul_comm (down d) (down e)))
        (le_trans i (le_trans (le_of_eq (mul_assoc q (m * up e) (down d))) (le_trans j (le_of_eq (sym (mul_assoc q (n * up d) (down e))))))))
        (down_pos e)

-- and an upper bound of y one of what is at or below y and above zero
pub within_under : (x y : Float) (n : ℕ) → T (positive x) → T (x ≼ y) → Within n y → Within n x
within_under x nan n p h w = absurd w
within_under x (inf t) n p h w = absurd w
within_under x (fin t l d) n p h w = go t x p h (above_of_le x (fin t l d) p h)
  where
    go : (s : Bool) (z : Float) → T (positive z) → T (z ≼ fin s l d) → T (above (fin s l d)) → Within n z
    go s nan q k a = absurd q
    go s (inf r) q k a = absurd q
    go s (fin true m e) q k a = absurd q
    go true (fin false m e) q k a = absurd a
    go false (fin false m e) q k a =
        le_of_mul-le-mul_right
        (le_trans (le→cross (fin false m e) (fin false l d) q a k) (le_trans (mul-le-mul_right (down e) w) (le_of_eq (mul_right_comm n (down d) (down e)))))
        (down_pos d)

-- what is above zero and not at or above y is at or below it
pub stays_under : (x y : Float) → T (positive x) → T (finite y) → (y ≼ x) ≡ false → T (x ≼ y)
unfolding le
stays_under x y p f h = reaches x y p f (not_or (lt y x) (eq y x) h)

-- a fraction of one q-th or more, where one q-th is the float x
pub round_least : (x : Float) (a c q : ℕ) → 0 < q → round binary64 false 1 q ≡ x → T (positive x) → Least q x → 0 < c → c ≤ q * a → Least q (round binary64 false a c)
round_least x a c q Q e p l C h =
    least_from x (round binary64 false a c) q p l
    (subst (λ (z : Float). T (z ≼ round binary64 false a c)) e (round_mono binary64 1 q a c Q C (le_trans (le_of_eq (one-mul c)) (le_trans h (le_of_eq (mul_comm q a))))))

one : round binary64 false 1 1 ≡ fin false 1 (pos 0)
unfolding round
one = refl

-- one more than a number without a sign is at least 1
pub one_more_least : (x : Float) → T (finite x) → T (unsigned x) → Least 1 (x ⊕ 1·0)
unfolding add sum of_bits
one_more_least nan f u = absurd f
one_more_least (inf s) f u = absurd f
one_more_least (fin true m e) f u = absurd u
one_more_least (fin false m e) f u =
    let c = down e * 1 in
    round_least (fin false 1 (pos 0)) (m * up e * 1 + 1 * 1 * down e) c 1 (lit< tt) one tt (lit≤ tt) (mul-pos (down_pos e) (lit< tt)) (omega arith)

-- ---- the difference of two numbers without a sign

gap_within : (a b c n : ℕ) → 0 < c → Fine n → a ≤ b + n * c → b ≤ a + n * c → Within n (sum binary64 false a true b c)
unfolding sum
gap_within a b c n C F h k = go (ltb a b)
  where
    go : (x : Bool) → Within n (cond x (round binary64 true (b - a) c) (round binary64 false (a - b) c))
    go true = round_within true (b - a) c n C F (omega arith)
    go false = round_within false (a - b) c n C F (omega arith)

-- from 0 to 2, and 1
pub less_one_within : (x : Float) → T (unsigned x) → Within 2 x → Within 1 (x ⊖ 1·0)
unfolding sub add neg of_bits
less_one_within nan u w = absurd u
less_one_within (inf s) u w = absurd w
less_one_within (fin true m e) u w = absurd u
less_one_within (fin false m e) u w = gap_within (m * up e * 1) (1 * 1 * down e) (down e * 1) 1 (mul-pos (down_pos e) (lit< tt)) (small 1 (lit< tt)) (omega arith) (omega arith)

-- ---- whole numbers

pub one_within : Within 1 1·0
unfolding of_bits
one_within = lit≤ tt

pub whole_value : (n : ℕ) → n ≤ 2 ^ 53 → HasValue (whole n) false n 1
unfolding of_int
whole_value n h = round_whole binary64 false n h

-- what has the value n / 1
value_within : (x : Float) (n : ℕ) → HasValue x false n 1 → Within n x
value_within nan n v = v
value_within (inf s) n v = v
value_within (fin s m e) n v = le_of_eq (sym (mul-one (m * up e)) ∙ v.1)

value_least : (x : Float) (n : ℕ) → 0 < n → HasValue x false n 1 → Least 1 x
value_least nan n p v = v
value_least (inf s) n p v = absurd v
value_least (fin s m e) n p v = let h : 1 * down e ≤ n * down e = mul-le-mul_right (down e) p in let q = v.1 in omega arith

pub whole_within : (n : ℕ) → n ≤ 2 ^ 53 → Within n (whole n)
whole_within n h = value_within (whole n) n (whole_value n h)

pub whole_least : (n : ℕ) → 0 < n → n ≤ 2 ^ 53 → Least 1 (whole n)
whole_least n p h = value_least (whole n) n p (whole_value n h)

pub whole_positive : (n : ℕ) → 0 < n → n ≤ 2 ^ 53 → T (positive (whole n))
whole_positive n p h = positive_of_value (whole n) n 1 (whole_value n h) p

values_gap : (x y : Float) (a b n : ℕ) → Fine n → a ≤ b + n → b ≤ a + n → HasValue x false a 1 → HasValue y false b 1 → Within n (x ⊖ y)
unfolding sub add neg
values_gap nan y a b n F h k v w = absurd v
values_gap (inf s) y a b n F h k v w = absurd v
values_gap (fin true l e) y a b n F h k v w = absurd (true≢false v.0)
values_gap (fin false l e) nan a b n F h k v w = absurd w
values_gap (fin false l e) (inf s) a b n F h k v w = absurd w
values_gap (fin false l e) (fin true m d) a b n F h k v w = absurd (true≢false w.0)
values_gap (fin false l e) (fin false m d) a b n F h k v w =
    let c = down e * down d in
    let p : l * up e * down d ≡ a * c = ap (λ (z : ℕ). z * down d) (sym (mul-one (l * up e)) ∙ v.1) ∙ mul_assoc a (down e) (down d) in
    let q : m * up d * down e ≡ b * c = ap (λ (z : ℕ). z * down e) (sym (mul-one (m * up d)) ∙ w.1) ∙ mul_right_comm b (down d) (down e) ∙ mul_assoc b (down e) (down d) in
    let h' : a * c ≤ (b + n) * c = mul-le-mul_right c h in
    let k' : b * c ≤ (a + n) * c = mul-le-mul_right c k in
    gap_within (l * up e * down d) (m * up d * down e) c n (mul-pos (down_pos e) (down_pos d)) F (omega (arith, add-mul b n c)) (omega (arith, add-mul a n c))

pub whole_gap : (a b n : ℕ) → a ≤ 2 ^ 53 → b ≤ 2 ^ 53 → Fine n → a ≤ b + n → b ≤ a + n → Within n (whole a ⊖ whole b)
whole_gap a b n A B F h k = values_gap (whole a) (whole b) a b n F h k (whole_value a A) (whole_value b B)

-- ---- powers of two

pub power_times : (x y : Float) (i j : ℕ) → i + j ≤ 1023 → Within (2 ^ i) x → Within (2 ^ j) y → Within (2 ^ (i + j)) (x ⊗ y)
power_times x y i j h a b = rw (pow-add 2 i j) (mul_within x y (2 ^ i) (2 ^ j) (rw (pow-add 2 i j) at (power (i + j) h)) a b)

-- ---- a series

-- counting numbers that a float holds
abbrev pub counted : List ℕ → Bool
counted [] = true
counted (k ∷ ks) = ltb 0 k && leb k (2 ^ 53) && counted ks

-- where each step takes the bound i to the next, the series takes it as far as it is long
pub through_within : (step : Float → ℕ → Float) (bound : ℕ → ℕ) (top : ℕ)
    → ((i k : ℕ) (p : Float) → i < top → 0 < k → k ≤ 2 ^ 53 → Within (bound i) p → Within (bound (suc i)) (step p k))
    → (ks : List ℕ) → T (counted ks) → (i : ℕ) (p : Float) → i + length ks ≤ top → Within (bound i) p → Within (bound (i + length ks)) (through step p ks)
through_within step bound top next [] c i p h w = rw (add-zero i) w
through_within step bound top next (k ∷ ks) c i p h w =
    let own = and_l (ltb 0 k && leb k (2 ^ 53)) (counted ks) c in
    let rest = and_r (ltb 0 k && leb k (2 ^ 53)) (counted ks) c in
    let first = next i k p (omega arith) (ltb→lt 0 k (and_l (ltb 0 k) (leb k (2 ^ 53)) own)) (leb→le k (2 ^ 53) (and_r (ltb 0 k) (leb k (2 ^ 53)) own)) w in
    let e : suc i + length ks ≡ i + suc (length ks) = omega arith in
    rw e at (through_within step bound top next ks rest (suc i) (step p k) (omega arith) first)
