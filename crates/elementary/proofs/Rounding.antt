-- How far a rounded result is from the exact one. A result below 1 is within 2 ^ -54 of the exact sum, difference or product (`Rounded`): of a number below 1
-- binary64 keeps every digit down to 2 ^ -53, and rounds to the nearest. Numbers are counted in units of 2 ^ -1074, whose order is that of the floats (`less_than`).
use mathlib.Core.Path.{◌≡◌, refl, sym, ap, ◌∙◌, subst}
use mathlib.Core.Bool.{Bool, true, false, not, ◌&&◌, true≢false, false≢true}
use Prim.Native.Nat.{ℕ, zero, suc, ◌+◌, ◌-◌, ◌*◌, ◌/◌, ◌%◌, ◌^◌, ◌≤◌, ◌<◌, compare, Ordering}
use native.Mathlib.Nat.{le_trans, le_antisymm, le_of_eq, lt_of_lt_of_le, lt_of_le_of_lt, mul_comm, mul_assoc, mul_left_comm, mul_right_comm, mul-one, one-mul, zero-mul, add-mul, mul-sub, mul-pos, mul-le-mul_right, mul-lt-mul_of_pos_right, lt_of_mul-lt-mul_right, le_of_mul-le-mul_right, div-add-mod', div-lt_iff_lt-mul, mod-lt}
use native.Mathlib.Omega.{arith}
use lib.IntN.{ℤ}
use lib.Dec.{T, ltb, eqb, is_le, compare_is_eq, leb→le, nleb→lt, eqb→eq, lit<, lit≤}
use lib.Pow.{pow_pos, pow_mono, pow-add}
use lib.Ieee.{Float, nan, inf, fin, binary64, up, down, unlike, size, nearest, round, sum, add, sub, mul, neg, lt, fits}
use lib.Ieee.Digits.{size-le}
use lib.Ieee.Exact.{HasValue, units_val}
use lib.Ieee.Fits.{down_pos, round_is}
use lib.Ieee.Nearest.{closest}
use lib.Ieee.Order.{drop, kept, transfer}
use lib.Ieee.Positive.{positive}
use borrow.Author.Tests.{ltb-true, ltb-false, lt-ltb, le-ltb}
use Rattle.elementary.specs.Arithmetic.{◌⊕◌, ◌⊖◌, ◌⊗◌, ◌≺◌}
use Rattle.elementary.specs.Nearest.{units_of}
use Rattle.elementary.specs.Distance.{two^_, Counts, Fraction, Apart, OffBy}
use Rattle.elementary.proofs.Bits.{units_are, no_units, held, in_units}

-- ---- apart, times a number and without it

pub apart_times : (k : ℕ) {e x y : ℕ} → Apart e x y → Apart (e * k) (x * k) (y * k)
apart_times k {e} {x} {y} h = record {
  up = le_trans (mul-le-mul_right k h.up) (le_of_eq (add-mul y e k));
  down = le_trans (mul-le-mul_right k h.down) (le_of_eq (add-mul x e k));
}

pub apart_cancel : (k e x y : ℕ) → 0 < k → Apart (e * k) (x * k) (y * k) → Apart e x y
apart_cancel k e x y K h = record {
  up = le_of_mul-le-mul_right (le_trans h.up (le_of_eq (sym (add-mul y e k)))) K;
  down = le_of_mul-le-mul_right (le_trans h.down (le_of_eq (sym (add-mul x e k)))) K;
}

pub apart_more : {e f x y : ℕ} → e ≤ f → Apart e x y → Apart f x y
apart_more l h = record { up = omega (arith, h.up); down = omega (arith, h.down) }

-- ---- a number in units

-- every finite number that binary64 holds is a whole number of units
pub held_counts : (s : Bool) (m : ℕ) (e : ℤ) → T (fits binary64 (fin s m e)) → Counts (fin s m e) s (units_of (fin s m e))
held_counts s zero e h = (refl, rw (no_units e, zero-mul (up e), zero-mul (down e)) (zero-mul (two^_ 0)))
held_counts s (suc m) e h = (refl, (in_units m e (held s m e h)).exact)

pub positive_counts : (x : Float) → T (positive x) → T (fits binary64 x) → Counts x false (units_of x)
positive_counts nan p h = absurd p
positive_counts (inf s) p h = absurd p
positive_counts (fin true m e) p h = absurd p
positive_counts (fin false m e) p h = held_counts false m e h

-- `Counts`, as a test that computes
abbrev pub counts : Float → ℕ → Bool
counts nan u = false
counts (inf s) u = false
counts (fin s m e) u = not s && eqb (m * up e * two^_ 0) (u * down e)

pub counts_is : (x : Float) (u : ℕ) → T (counts x u) → Counts x false u
counts_is nan u t = absurd t
counts_is (inf s) u t = absurd t
counts_is (fin true m e) u t = absurd t
counts_is (fin false m e) u t = (refl, eqb→eq (m * up e * two^_ 0) (u * down e) t)

-- ---- two fractions x / c and y / d of a and k units, in one denominator

less_times : (a b k : ℕ) → (a - b) * k ≡ a * k - b * k
less_times a b k = mul_comm (a - b) k ∙ mul-sub k a b ∙ rw (mul_comm k a, mul_comm k b)

module _ (x y c d a k w : ℕ) (p : x * w ≡ a * c) (q : y * w ≡ k * d) where
  first : x * d * w ≡ a * (c * d)
  first = mul_right_comm x d w ∙ ap (λ (z : ℕ). z * d) p ∙ mul_assoc a c d

  second : y * c * w ≡ k * (c * d)
  second = mul_right_comm y c w ∙ ap (λ (z : ℕ). z * c) q ∙ mul_assoc k d c ∙ ap (λ (z : ℕ). k * z) (mul_comm d c)

  added : (x * d + y * c) * w * 1 ≡ (a + k) * (c * d)
  added = mul-one ((x * d + y * c) * w) ∙ add-mul (x * d) (y * c) w ∙ rw (first, second) (sym (add-mul a k (c * d)))

  taken : (x * d - y * c) * w * 1 ≡ (a - k) * (c * d)
  taken = mul-one ((x * d - y * c) * w) ∙ less_times (x * d) (y * c) w ∙ rw (first, second) (sym (less_times a k (c * d)))

-- ---- the order is that of the units

ltb_times : (a b k : ℕ) → 0 < k → ltb (a * k) (b * k) ≡ ltb a b
ltb_times a b k K = go (ltb a b) refl
  where
    go : (t : Bool) → ltb a b ≡ t → ltb (a * k) (b * k) ≡ t
    go true e = lt-ltb (a * k) (b * k) (mul-lt-mul_of_pos_right (ltb-true a b e) K)
    go false e = le-ltb (a * k) (b * k) (mul-le-mul_right k (ltb-false a b e))

pub less_than : (x y : Float) (a k : ℕ) → Counts x false a → Counts y false k → (x ≺ y) ≡ ltb a k
unfolding lt
less_than nan y a k h g = absurd h
less_than (inf s) y a k h g = absurd h
less_than (fin true m e) y a k h g = absurd (true≢false h.0)
less_than (fin false m e) nan a k h g = absurd g
less_than (fin false m e) (inf s) a k h g = absurd g
less_than (fin false m e) (fin true n d) a k h g = absurd (true≢false g.0)
less_than (fin false m e) (fin false n d) a k h g =
    let x = m * up e in
    let y = n * up d in
    let one = two^_ 0 in
    sym (ltb_times (x * down d) (y * down e) one (pow_pos 1074))
    ∙ rw (first x y (down e) (down d) a k one h.1 g.1, second x y (down e) (down d) a k one h.1 g.1) (ltb_times a k (down e * down d) (mul-pos (down_pos e) (down_pos d)))

-- ---- the nearest whole number is at most a half away

half : (w r b : ℕ) (o : Ordering) → r < b → (T (is_le o) → r * 2 ≤ b) → (T (not (is_le o)) → b < r * 2) → (T (compare_is_eq o) → r * 2 ≡ b) → Apart b (2 * (nearest w o * b)) (2 * (w * b + r))
half w r b Ordering.lt R le gt eq = let h : r * 2 ≤ b = le tt in record { up = omega arith; down = omega arith }
half w r b Ordering.eq R le gt eq = tie (w % 2) (eq tt) (omega arith)
  where
    tie : (t : ℕ) → r * 2 ≡ b → t ≤ 1 → Apart b (2 * ((w + t) * b)) (2 * (w * b + r))
    tie zero e l = record { up = omega arith; down = omega arith }
    tie (suc zero) e l = let z = add-mul w 1 b in record { up = omega arith; down = omega arith }
    tie (suc (suc t)) e l = absurd (omega arith)
half w r b Ordering.gt R le gt eq =
    let h : b < r * 2 = gt tt in
    let z : suc w * b ≡ w * b + b = omega arith in
    record { up = omega arith; down = omega arith }

pub closest_half : (a b : ℕ) → 0 < b → Apart b (2 * (closest a b * b)) (2 * a)
closest_half a b B =
    subst (λ (x : ℕ). Apart b (2 * (closest a b * b)) (2 * x)) (div-add-mod' a b)
    (half (a / b) (a % b) b (compare (a % b * 2) b) (mod-lt a B) (leb→le (a % b * 2) b) (nleb→lt (a % b * 2) b) (eqb→eq (a % b * 2) b))

-- n / c has at most p + j + 1 digits before the point; of these p are kept: at most 2 ^ j is lost
kept_apart : (p j n c : ℕ) → 0 < c → n < 2 ^ (p + suc j) * c → Apart (2 ^ j * c) (kept p n c * 2 ^ drop p n c * c) n
kept_apart p j n c C h =
    let k = drop p n c in
    let digits : size (n / c) ≤ p + suc j = size-le (n / c) (p + suc j) ((div-lt_iff_lt-mul C).1 h) in
    let near = closest_half n (c * 2 ^ k) (mul-pos C (pow_pos k)) in
    let e : kept p n c * (c * 2 ^ k) ≡ kept p n c * 2 ^ k * c = ap (λ (x : ℕ). kept p n c * x) (mul_comm c (2 ^ k)) ∙ sym (mul_assoc (kept p n c) (2 ^ k) c) in
    let l : c * 2 ^ k ≤ 2 * 2 ^ j * c = le_trans (le_of_eq (mul_comm c (2 ^ k))) (mul-le-mul_right c (le_trans (pow_mono {i = k} {j = 1 + j} (omega arith)) (le_of_eq (pow-add 2 1 j)))) in
    let t = mul_assoc 2 (2 ^ j) c in
    record { up = omega (arith, near.up); down = omega (arith, near.down) }

-- ---- a rounded fraction below 1

-- by how much it can be off
abbrev pub half_step : ℕ
half_step = two^_ 54

-- x is a / b units with the sign s, rounded
pub record Rounded (x : Float) (s : Bool) (a b : ℕ) : Type 0 where
  pub number : Counts x s (units_of x)
  pub apart : Apart (half_step * b) (units_of x * b) a

-- what is near a number below w is at most 2 w
under : (g n c w e : ℕ) → 0 < c → e ≤ w → n < w * c → g * c ≤ n + e * c → g ≤ 2 * w
under g n c w e C E h k =
    let z : (w + e) * c ≡ w * c + e * c = add-mul w e c in
    let l : g ≤ w + e = le_of_mul-le-mul_right {k = c} (omega arith) C in
    omega arith

-- the exact n / d, as n × 2 ^ 1074 / d units
pub rounded : (s : Bool) (n d : ℕ) → 0 < d → n < d → Rounded (round binary64 s n d) s (n * two^_ 0) d
rounded s n d D h =
    let one = two^_ 0 in
    let a = n * one in
    let x = round binary64 s n d in
    let l : a < one * d = lt_of_lt_of_le (mul-lt-mul_of_pos_right h (pow_pos 1074)) (le_of_eq (mul_comm d one)) in
    let g = kept 53 a d * 2 ^ drop 53 a d in
    let near : Apart (half_step * d) (g * d) a = kept_apart 53 1020 a d D l in
    let fine = lt_of_le_of_lt (under g a d one (half_step) D (lit≤ tt) l near.up) (lit< tt) in
    let v : Counts x s g = rw (round_is binary64 s n d) (units_val binary64 s (kept 53 a d) (drop 53 a d) fine) in
    record { number = rw (units_are x s g v) v; apart = rw (units_are x s g v) near }

-- the same where n / d is a / b units
module _ (s : Bool) (n d a b : ℕ) (D : 0 < d) (e : n * two^_ 0 * b ≡ a * d) (h : a < b * two^_ 0) where
  of_fraction : Rounded (round binary64 s n d) s a b
  of_fraction =
      let one = two^_ 0 in
      let u = units_of (round binary64 s n d) in
      let l : n * (one * b) < d * (one * b) =
      lt_of_le_of_lt (le_of_eq (sym (mul_assoc n one b) ∙ e)) (lt_of_lt_of_le (mul-lt-mul_of_pos_right h D) (le_of_eq (mul_comm (b * one) d ∙ ap (λ (z : ℕ). d * z) (mul_comm b one)))) in
      let r = rounded s n d D (lt_of_mul-lt-mul_right (one * b) l) in
      record { number = r.number; apart = apart_cancel d (half_step * b) (u * b) a D (rw (mul_right_comm (half_step) b d, mul_right_comm u b d, ← e) (apart_times b r.apart)) }

-- ---- the product of a fraction and a number in units

pub product : (x y : Float) (s : Bool) (a b k : ℕ) → HasValue x s a b → Counts y false k → a * k < b * two^_ 0 → Rounded (x ⊗ y) s (a * k) b
unfolding mul
product nan y s a b k h g l = absurd h
product (inf t) y s a b k h g l = absurd h
product (fin t m e) nan s a b k h g l = absurd g
product (fin t m e) (inf u) s a b k h g l = absurd g
product (fin t m e) (fin u n d) s a b k h g l =
    rw (h.0, g.0, alike s)
    (of_fraction s (m * up e * (n * up d)) (down e * down d) (a * k) b (mul-pos (down_pos e) (down_pos d)) (crossed (m * up e) (n * up d) (down e) (down d) a b k (two^_ 0) h.1 g.1) l)
  where
    alike : (t : Bool) → unlike t false ≡ t
    alike true = refl
    alike false = refl

    crossed : (x y c d a b k w : ℕ) → x * b ≡ a * c → y * w ≡ k * d → x * y * w * b ≡ a * k * (c * d)
    crossed x y c d a b k w p q =
        let l : x * y * w * b ≡ x * b * (y * w) = simp (mul_assoc, mul_comm, mul_left_comm) in
        let r : a * k * (c * d) ≡ a * c * (k * d) = simp (mul_assoc, mul_comm, mul_left_comm) in
        l ∙ rw (p, q) (sym r)

-- ---- sums and differences

-- x is rounded from a whole number of units
pub record RoundedWhole (x : Float) (a : ℕ) : Type 0 where
  pub number : Counts x false (units_of x)
  pub apart : Apart (half_step) (units_of x) a

whole : {x : Float} {a : ℕ} → Rounded x false a 1 → RoundedWhole x a
whole {x} r = record { number = r.number; apart = rw (mul-one (units_of x)) at r.apart }

pub plus : (x y : Float) (a k : ℕ) → Counts x false a → Counts y false k → a + k < two^_ 0 → RoundedWhole (x ⊕ y) (a + k)
unfolding add sum
plus nan y a k h g l = absurd h
plus (inf s) y a k h g l = absurd h
plus (fin s m e) nan a k h g l = absurd g
plus (fin s m e) (inf t) a k h g l = absurd g
plus (fin true m e) (fin t n d) a k h g l = absurd (true≢false h.0)
plus (fin false m e) (fin true n d) a k h g l = absurd (true≢false g.0)
plus (fin false m e) (fin false n d) a k h g l =
    whole
    (of_fraction false (m * up e * down d + n * up d * down e) (down e * down d) (a + k) 1 (mul-pos (down_pos e) (down_pos d))
    (added (m * up e) (n * up d) (down e) (down d) a k (two^_ 0) h.1 g.1) (rw (one-mul (two^_ 0)) l))

-- with a negative number that is at most as large
pub less : (x y : Float) (a k : ℕ) → Counts x false a → Counts y true k → k ≤ a → a - k < two^_ 0 → RoundedWhole (x ⊕ y) (a - k)
unfolding add sum
less nan y a k h g o l = absurd h
less (inf s) y a k h g o l = absurd h
less (fin s m e) nan a k h g o l = absurd g
less (fin s m e) (inf t) a k h g o l = absurd g
less (fin true m e) (fin t n d) a k h g o l = absurd (true≢false h.0)
less (fin false m e) (fin false n d) a k h g o l = absurd (false≢true g.0)
less (fin false m e) (fin true n d) a k h g o l =
    let x = m * up e in
    let y = n * up d in
    let one = two^_ 0 in
    rw (le-ltb (x * down d) (y * down e) (transfer y x (down d) (down e) k a one one (pow_pos 1074) (pow_pos 1074) g.1 h.1 (mul-le-mul_right one o)))
    (whole
    (of_fraction false (x * down d - y * down e) (down e * down d) (a - k) 1 (mul-pos (down_pos e) (down_pos d)) (taken x y (down e) (down d) a k one h.1 g.1) (rw (one-mul one) l)))

pub minus : (x y : Float) (a k : ℕ) → Counts x false a → Counts y false k → k ≤ a → a - k < two^_ 0 → RoundedWhole (x ⊖ y) (a - k)
unfolding sub neg
minus x nan a k h g o l = absurd g
minus x (inf s) a k h g o l = absurd g
minus x (fin true n d) a k h g o l = absurd (true≢false g.0)
minus x (fin false n d) a k h g o l = less x (fin true n d) a k h (refl, g.1) o l

-- ---- what a distance says (`OffBy`)

-- no distance: the number is the fraction
pub no_distance : (x : Float) (f : Fraction) → OffBy 0 x f → HasValue x false f.over (f.under * two^_ 0)
no_distance nan f h = absurd h.number
no_distance (inf s) f h = absurd h.number
no_distance (fin s m e) f h =
    let u = units_of (fin s m e) in
    let z = zero-mul f.under in
    let same : u * f.under ≡ f.over = le_antisymm (omega (arith, h.apart.up)) (omega (arith, h.apart.down)) in (
      h.number.0,
      rw (mul_comm f.under (two^_ 0), ← mul_assoc (m * up e) (two^_ 0) f.under, h.number.1, mul_right_comm u (down e) f.under, same),
    )

-- two numbers that are near one fraction are near each other
pub near_each_other : (d e : ℕ) (x y : Float) (f : Fraction) → OffBy d x f → OffBy e y f → Apart (d + e) (units_of x) (units_of y)
near_each_other d e x y f h k =
    let z = add-mul d e f.under in
    apart_cancel f.under (d + e) (units_of x) (units_of y) h.some (record { up = omega (arith, h.apart.up, k.apart.down); down = omega (arith, h.apart.down, k.apart.up) })
