-- SQRT is the nearest binary64 number to the exact root, for every finite x above zero, subnormal ones included. With r the whole number that `nearest_root` finds for s = w × 2 ^ 52 and u the root's last place, x is s × u², the root is r × u, and
-- every other binary64 number from 2 ^ 52 × u up is a multiple of u.
use mathlib.Core.Path.{◌≡◌, sym, ap, ◌∙◌, subst}
use mathlib.Core.Logic.{inl, inr}
use mathlib.Core.Bool.{Bool, true, false, cond}
use Prim.Native.Nat.{ℕ, zero, suc, ◌+◌, ◌-◌, ◌*◌, ◌/◌, ◌%◌, ◌^◌, ◌≤◌, ◌<◌}
use native.Mathlib.Nat.{mul_assoc, mul_comm, mul_right_comm, zero-mul, add-mul, mul-add, mul-mul-mul_comm, mul-pos, mul-le-mul, mul-le-mul_right, mul-le-mul_left, mul-lt-mul_of_pos_right, lt_of_mul-lt-mul_right, le_trans, le_of_eq, le_of_lt, lt_of_lt_of_le, lt_of_le_of_lt, mul-div_cancel, zero-lt-suc, eq-zero-or-pos, not-le_of_lt, lt_of_not-le}
use native.Mathlib.Decide.{dec_le, dec_lt, ℕ_discrete}
use native.Mathlib.Omega.{arith}
use lib.IntN.{ℤ}
use lib.Dec.{T, eqb, lit<}
use lib.Arith.{lt_of_le-ne}
use lib.Pow.{pow-add, pow_pos, pow_mono, shl_lt}
use lib.Ieee.{Float, nan, inf, fin, binary64, up, down, size, round, fits, minus}
use lib.Ieee.Digits.{back}
use lib.Ieee.Fits.{down_pos, mul-fits}
use lib.Ieee.Exact.{HasValue, round_exact}
use lib.Ieee.Positive.{positive, positive_of_value, mul_at}
use borrow.Author.Tests.{eq-eqb, ne_eqb}
use Rattle.elementary.specs.Arithmetic.{◌⊗◌, whole}
use Rattle.elementary.specs.Figures.{Taken}
use Rattle.elementary.specs.Split.{units, normalised, split_of, two^}
use Rattle.elementary.specs.Root.{root_of, nearest_root}
use Rattle.elementary.specs.Steps.{SQRT, sqrt_steps}
use Rattle.elementary.specs.Nearest.{units_of, NearestRoot}
use Rattle.elementary.proofs.Bits.{no_units, held, in_units, taken_units}
use Rattle.elementary.proofs.Powers.{raised, power_value}
use Rattle.elementary.proofs.Ranges.{whole_value}
use Rattle.elementary.proofs.Root.{Rooted, rooted, nearest_up, nearest_down}
use Rattle.elementary.proofs.Value.{normal_exact}

-- ---- the whole number nearest to a root

-- r is nearest to the root of s: the root is strictly between r - 1/2 and r + 1/2
pub record Near (s r : ℕ) : Type 0 where
  pub below : s ≤ r * r + r
  pub above : r * r < s + r

pub square_suc : (r : ℕ) → (r + 1) * (r + 1) ≡ r * r + 2 * r + 1
square_suc r =
    let a : (r + 1) * (r + 1) ≡ r * (r + 1) + 1 * (r + 1) = add-mul r 1 (r + 1) in
    let b : r * (r + 1) ≡ r * r + r * 1 = mul-add r r 1 in
    omega arith

near_up : (s r left : ℕ) → left + r * r ≡ s → left ≤ 2 * r → r < left → Near s (r + 1)
near_up s r left e h l = let q = square_suc r in record { below = omega arith; above = omega arith }

near_down : (s r left : ℕ) → 0 < s → left + r * r ≡ s → left ≤ r → Near s r
near_down s r left p e l =
    record { below = omega arith; above = elim (eq-zero-or-pos r) [ inl z ↦ (let q : r * r ≡ 0 = ap (λ (k : ℕ). k * r) z ∙ zero-mul r in omega arith) | inr q ↦ omega arith ] }

near : (k s : ℕ) → 0 < s → s < 4 ^ k → Near s (nearest_root k s)
near k s p h = go (rooted k s h)
  where
    go : (left : ℕ) × Rooted k s (root_of k s) left → Near s (nearest_root k s)
    go z =
        elim (dec_lt (root_of k s) z.0) [
          | yes l ↦ subst (Near s) (nearest_up k s (root_of k s) z.0 z.1 l) (near_up s (root_of k s) z.0 z.1.above z.1.near l)
          | no l ↦ (let d : z.0 ≤ root_of k s = omega arith in subst (Near s) (nearest_down k s (root_of k s) z.0 z.1 d) (near_down s (root_of k s) z.0 p z.1.above d))
        ]

-- no second number is near it
not_over : (s q r : ℕ) → Near s q → Near s r → r ≤ q
not_over s q r m n =
    elim (dec_le r q) [
      | yes l ↦ l
      | no l ↦
          (let p : (q + 1) * r ≤ r * r = mul-le-mul_right r (omega arith) in
          let e : (q + 1) * r ≡ q * r + 1 * r = add-mul q 1 r in
          let o : q * (q + 1) ≤ q * r = mul-le-mul_left q (omega arith) in
          let f : q * (q + 1) ≡ q * q + q * 1 = mul-add q q 1 in
          absurd (omega (arith, m.below, n.above)))
    ]

pub near_is : (k s r : ℕ) → 0 < s → s < 4 ^ k → Near s r → r ≡ nearest_root k s
near_is k s r p h n =
    let m = near k s p h in
    let a = not_over s r (nearest_root k s) n m in
    let b = not_over s (nearest_root k s) r m n in
    omega arith

-- between a² and b² - b the root is from a up, and below b
at_least : (s r a : ℕ) → Near s r → a * a ≤ s → a ≤ r
at_least s r a n h =
    elim (dec_le a r) [
      | yes l ↦ l
      | no l ↦
          (let p : r * (r + 1) ≤ r * a = mul-le-mul_left r (omega arith) in
          let q : r * a < a * a = mul-lt-mul_of_pos_right (omega arith) (omega arith) in
          let e : r * (r + 1) ≡ r * r + r * 1 = mul-add r r 1 in
          absurd (omega (arith, n.below)))
    ]

less : (s r b : ℕ) → Near s r → 0 < b → s + b ≤ b * b → r < b
less s r b n p h =
    lt_of_not-le
    (λ (l : b ≤ r).
    (let t = r - b in
    let q : b * (b + t) ≤ r * r = mul-le-mul l (omega arith) in
    let e : b * (b + t) ≡ b * b + b * t = mul-add b b t in
    let f : 1 * t ≤ b * t = mul-le-mul_right t p in
    omega (arith, n.above)))

-- ---- the neighbours of r × u

exponent_lt : (a b : ℕ) → 2 ^ a < 2 ^ b → a < b
exponent_lt a b h = lt_of_not-le (λ (g : b ≤ a). not-le_of_lt h (pow_mono g))

-- a larger multiple of u
over_multiple : (s r q u : ℕ) → Near s r → 0 < u → r < q → 4 * (s * (u * u)) < (r * u + q * u) * (r * u + q * u)
over_multiple s r q u n U h =
    let o = square_suc (2 * r) in
    let d : 2 * r * (2 * r) ≡ 4 * (r * r) = mul-mul-mul_comm 2 r 2 r in
    let l : (2 * r + 1) * (2 * r + 1) ≤ (r + q) * (r + q) = mul-le-mul (omega arith) (omega arith) in
    let f : 4 * s < (r + q) * (r + q) = omega (arith, n.below) in
    rw (← add-mul r q u, mul-mul-mul_comm (r + q) u (r + q) u, ← mul_assoc 4 s (u * u)) (mul-lt-mul_of_pos_right f (mul-pos U U))

-- a smaller multiple of u
under_multiple : (s r q u : ℕ) → Near s r → 0 < u → q < r → (r * u + q * u) * (r * u + q * u) < 4 * (s * (u * u))
under_multiple s r q u n U h =
    let v = 2 * r - 1 in
    let o : (v + 1) * (v + 1) ≡ v * v + 2 * v + 1 = square_suc v in
    let e : v + 1 ≡ 2 * r = omega arith in
    let d : (v + 1) * (v + 1) ≡ 4 * (r * r) = ap (λ (k : ℕ). k * k) e ∙ mul-mul-mul_comm 2 r 2 r in
    let l : (r + q) * (r + q) ≤ v * v = mul-le-mul (omega arith) (omega arith) in
    let f : (r + q) * (r + q) < 4 * s = omega (arith, n.above) in
    rw (← add-mul r q u, mul-mul-mul_comm (r + q) u (r + q) u, ← mul_assoc 4 s (u * u)) (mul-lt-mul_of_pos_right f (mul-pos U U))

-- any smaller number, where the root is not below r
under_any : (s r z u : ℕ) → r * r ≤ s → z < r * u → (r * u + z) * (r * u + z) < 4 * (s * (u * u))
under_any s r z u n h =
    let y = r * u in
    let a : (y + z) * (y + z) ≤ (y + z) * (2 * y) = mul-le-mul_left (y + z) (omega arith) in
    let b : (y + z) * (2 * y) < 2 * y * (2 * y) = mul-lt-mul_of_pos_right (omega arith) (omega arith) in
    let c : 2 * y * (2 * y) ≡ 4 * (r * r * (u * u)) = mul-mul-mul_comm 2 y 2 y ∙ ap (λ (k : ℕ). 4 * k) (mul-mul-mul_comm r u r u) in
    let d : r * r * (u * u) ≤ s * (u * u) = mul-le-mul_right (u * u) n in
    omega arith

-- a number of at most 53 digits, times a power of two, is a multiple of u = 2 ^ k from 2 ^ 52 × u up
multiple : (m i k : ℕ) → m < 2 ^ 53 → 2 ^ 52 * 2 ^ k ≤ m * 2 ^ i → (q : ℕ) × (m * 2 ^ i ≡ q * 2 ^ k)
multiple m i k h l =
    let e : 52 + k < 53 + i = exponent_lt (52 + k) (53 + i) (lt_of_le_of_lt (le_of_eq (pow-add 2 52 k)) (lt_of_le_of_lt l (shl_lt 53 i h))) in
    let up_to : k ≤ i = omega arith in
    (m * 2 ^ (i - k), ap (λ (a : ℕ). m * a) (ap (λ (a : ℕ). 2 ^ a) (sym (back i k up_to)) ∙ pow-add 2 (i - k) k) ∙ sym (mul_assoc m (2 ^ (i - k)) (2 ^ k)))

-- ---- x in units is s × u²

-- w and j of `sqrt_steps`: with u = 2 ^ (j + 485), w × 2 ^ 52 × u² is g × 2 ^ d × 2 ^ 1021, whether d is odd or even
square_of : (g d : ℕ) → 1 ≤ d → let j = (d - 1) / 2 in cond (eqb (d % 2) 1) g (2 * g) * 2 ^ 52 * (2 ^ (j + 485) * 2 ^ (j + 485)) ≡ g * 2 ^ d * 2 ^ 1021
square_of g d h =
    let j = (d - 1) / 2 in
    let u : 2 ^ 52 * (2 ^ (j + 485) * 2 ^ (j + 485)) ≡ 2 ^ (52 + (j + 485 + (j + 485))) = sym (pow-add 2 52 (j + 485 + (j + 485)) ∙ ap (λ (a : ℕ). 2 ^ 52 * a) (pow-add 2 (j + 485) (j + 485))) in
    let v : g * 2 ^ (d + 1021) ≡ g * 2 ^ d * 2 ^ 1021 = ap (λ (a : ℕ). g * a) (pow-add 2 d 1021) ∙ sym (mul_assoc g (2 ^ d) (2 ^ 1021)) in
    elim (ℕ_discrete (d % 2) 1) [
      | yes o ↦
          (let e : 52 + (j + 485 + (j + 485)) ≡ d + 1021 = omega arith in
          ap (λ (t : Bool). cond t g (2 * g) * 2 ^ 52 * (2 ^ (j + 485) * 2 ^ (j + 485))) (eq-eqb (d % 2) 1 o)
          ∙ mul_assoc g (2 ^ 52) (2 ^ (j + 485) * 2 ^ (j + 485))
          ∙ ap (λ (a : ℕ). g * a) (u ∙ ap (λ (a : ℕ). 2 ^ a) e)
          ∙ v)
      | no o ↦
          (let e : 1 + (52 + (j + 485 + (j + 485))) ≡ d + 1021 = omega arith in
          ap (λ (t : Bool). cond t g (2 * g) * 2 ^ 52 * (2 ^ (j + 485) * 2 ^ (j + 485))) (ne_eqb (d % 2) 1 o)
          ∙ mul_assoc (2 * g) (2 ^ 52) (2 ^ (j + 485) * 2 ^ (j + 485))
          ∙ ap (λ (a : ℕ). a * (2 ^ 52 * (2 ^ (j + 485) * 2 ^ (j + 485)))) (mul_comm 2 g)
          ∙ mul_assoc g 2 (2 ^ 52 * (2 ^ (j + 485) * 2 ^ (j + 485)))
          ∙ ap (λ (a : ℕ). g * a) (ap (λ (a : ℕ). 2 * a) u ∙ sym (pow-add 2 1 (52 + (j + 485 + (j + 485)))) ∙ ap (λ (a : ℕ). 2 ^ a) e)
          ∙ v)
    ]

-- ---- the answer in units

-- r × 2 ^ j / 2 ^ 589, rounded
pub root_rounds : (r j : ℕ) → 0 < r → r ≤ 2 ^ 53 → whole r ⊗ two^ (minus j 589) ≡ round binary64 false (r * 2 ^ j) (1 * 2 ^ 589)
root_rounds r j p h =
    let w = whole_value r h in
    mul_at binary64 (whole r) (two^ (minus j 589)) r 1 (2 ^ j) (2 ^ 589) (positive_of_value (whole r) r 1 w p) tt (zero-lt-suc 0) (pow_pos 589) w (power_value j 589)

-- for an r of 53 digits it is held exactly: it is r × 2 ^ (j + 485) units
root_value : (r j : ℕ) → 0 < r → r < 2 ^ 53 → j ≤ 1048 → HasValue (whole r ⊗ two^ (minus j 589)) false (r * 2 ^ j) (1 * 2 ^ 589)
root_value r j p h l =
    let scaled : r * 2 ^ j * 2 ^ 1074 ≡ r * 2 ^ (j + 485) * (1 * 2 ^ 589) =
    sym (mul_assoc (r * 2 ^ j) (2 ^ 485) (2 ^ 589)) ∙ ap (λ (a : ℕ). a * 2 ^ 589) (raised r j 485) in
    subst (λ (x : Float). HasValue x false (r * 2 ^ j) (1 * 2 ^ 589)) (sym (root_rounds r j p (le_of_lt h)))
    (round_exact binary64 false (r * 2 ^ j) (1 * 2 ^ 589) r (j + 485) (mul-pos (zero-lt-suc 0) (pow_pos 589)) h (lt_of_lt_of_le (shl_lt 53 (j + 485) h) (pow_mono {i = 53 + (j + 485)} {j = 2098} (omega arith))) scaled)

units_of_value : (y : Float) (a k : ℕ) → T (positive y) → HasValue y false (a * 2 ^ k) (1 * 2 ^ 589) → units_of y ≡ a * 2 ^ (k + 485)
units_of_value nan a k p v = absurd v
units_of_value (inf s) a k p v = absurd v
units_of_value (fin s m e) a k p v =
    ap (λ (z : ℕ). z / down e)
    (sym (mul_assoc (m * up e) (2 ^ 589) (2 ^ 485))
    ∙ ap (λ (z : ℕ). z * 2 ^ 485) v.1
    ∙ mul_right_comm (a * 2 ^ k) (down e) (2 ^ 485)
    ∙ ap (λ (z : ℕ). z * down e) (raised a k 485))
    ∙ mul-div_cancel (a * 2 ^ (k + 485)) (down_pos e)

-- ---- all of it together: r × 2 ^ k against any other number z of units, where x is s × 2 ^ k × 2 ^ k in the square's units

module _ (s r k : ℕ) (n : Near s r) (full : 2 ^ 52 ≤ r) (lo : 2 ^ 52 * 2 ^ 52 ≤ s) where
  -- z is m × 2 ^ i
  over_units : (m i : ℕ) → m < 2 ^ 53 → r * 2 ^ k < m * 2 ^ i → 4 * (s * (2 ^ k * 2 ^ k)) < (r * 2 ^ k + m * 2 ^ i) * (r * 2 ^ k + m * 2 ^ i)
  over_units m i h l =
      let z = multiple m i k h (le_trans (mul-le-mul_right (2 ^ k) full) (le_of_lt l)) in
      rw z.1 (over_multiple s r z.0 (2 ^ k) n (pow_pos k) (lt_of_mul-lt-mul_right (2 ^ k) (subst (λ (a : ℕ). r * 2 ^ k < a) z.1 l)))

  under_units : (m i : ℕ) → m < 2 ^ 53 → m * 2 ^ i < r * 2 ^ k → (r * 2 ^ k + m * 2 ^ i) * (r * 2 ^ k + m * 2 ^ i) < 4 * (s * (2 ^ k * 2 ^ k))
  under_units m i h l =
      elim (dec_le (r * r) s) [
        | yes a ↦ under_any s r (m * 2 ^ i) (2 ^ k) a l
        | no a ↦ under_near (dec_le (2 ^ 52 * 2 ^ k) (m * 2 ^ i)) a
      ]
    where
      -- the root is below r, so r is above 2 ^ 52, and r - 1 is a neighbour too
      above : ¬ (r * r ≤ s) → 2 ^ 52 < r
      above a = lt_of_le-ne full (λ (e : 2 ^ 52 ≡ r). a (subst (λ (b : ℕ). b * b ≤ s) e lo))

      under_near : Dec (2 ^ 52 * 2 ^ k ≤ m * 2 ^ i) → ¬ (r * r ≤ s) → (r * 2 ^ k + m * 2 ^ i) * (r * 2 ^ k + m * 2 ^ i) < 4 * (s * (2 ^ k * 2 ^ k))
      under_near (yes g) a =
          let z = multiple m i k h g in
          rw z.1 (under_multiple s r z.0 (2 ^ k) n (pow_pos k) (lt_of_mul-lt-mul_right (2 ^ k) (subst (λ (b : ℕ). b < r * 2 ^ k) z.1 l)))
      under_near (no g) a =
          let up_to : 2 ^ 52 ≤ r - 1 = omega (arith, above a) in
          let z : m * 2 ^ i ≤ (r - 1) * 2 ^ k = le_trans (le_of_lt (lt_of_not-le g)) (mul-le-mul_right (2 ^ k) up_to) in
          let y : r * 2 ^ k + m * 2 ^ i ≤ r * 2 ^ k + (r - 1) * 2 ^ k = omega arith in
          lt_of_le_of_lt (mul-le-mul y y) (under_multiple s r (r - 1) (2 ^ k) n (pow_pos k) (omega (arith, above a)))

-- ---- any number that binary64 holds, from 0 up, is m × 2 ^ i units with m below 2 ^ 53

units_of_lem : (m : ℕ) (e : ℤ) → T (fits binary64 (fin false m e)) → (a : ℕ) × (i : ℕ) × (a < 2 ^ 53) × (units m e ≡ a * 2 ^ i)
units_of_lem zero e h = (0, 0, lit< tt, no_units e)
units_of_lem (suc m) e h = let c = held false m e h in let u = in_units m e c in (suc m, u.exponent, c.narrow, u.whole)

doubled : (b : Bool) (g : ℕ) → 2 ^ 52 ≤ g → g < 2 ^ 53 → (2 ^ 52 ≤ cond b g (2 * g)) × (cond b g (2 * g) + 2 ≤ 2 ^ 54)
doubled true g a b = (a, omega arith)
doubled false g a b = (omega arith, omega arith)

-- the root of a w of 53 or 54 digits has 53
pub root_full : (w : ℕ) → 2 ^ 52 ≤ w → w < 2 ^ 54 → 2 ^ 52 ≤ nearest_root 53 (w * 2 ^ 52)
root_full w a b = at_least (w * 2 ^ 52) (nearest_root 53 (w * 2 ^ 52)) (2 ^ 52) (near 53 (w * 2 ^ 52) (omega arith) (omega arith)) (omega arith)

-- ---- the theorem

module _ (m : ℕ) (e : ℤ) (h : T (fits binary64 (fin false (suc m) e))) where
  -- the parts of x, and what `sqrt_steps` makes of them
  abbrev n : ℕ
  n = units (suc m) e

  abbrev g : ℕ
  g = normalised n (size n)

  abbrev w : ℕ
  w = cond (eqb (size n % 2) 1) g (2 * g)

  abbrev j : ℕ
  j = (size n - 1) / 2

  pub taken : Taken g (size n)
  taken = let u = in_units m e (held false m e h) in taken_units n u.some u.few

  pub w_range : (2 ^ 52 ≤ w) × (w + 2 ≤ 2 ^ 54)
  w_range = doubled (eqb (size n % 2) 1) g taken.full taken.narrow

  r_near : Near (w * 2 ^ 52) (nearest_root 53 (w * 2 ^ 52))
  r_near = near 53 (w * 2 ^ 52) (omega (arith, w_range)) (omega (arith, w_range))

  -- x in units, times 2 ^ 1074
  pub square : n * 2 ^ 1074 ≡ w * 2 ^ 52 * (2 ^ (j + 485) * 2 ^ (j + 485))
  square =
      sym (mul_assoc n (2 ^ 53) (2 ^ 1021))
      ∙ ap (λ (a : ℕ). a * 2 ^ 1021) (sym (normal_exact m e (held false m e h)))
      ∙ sym (square_of g (size n) taken.some)

  abbrev r : ℕ
  r = nearest_root 53 (w * 2 ^ 52)

  pub r_full : 2 ^ 52 ≤ r
  r_full = root_full w w_range.0 (omega (arith, w_range))

  r_narrow : r < 2 ^ 53
  r_narrow = less (w * 2 ^ 52) r (2 ^ 53) r_near (lit< tt) (omega (arith, w_range))

  pub y_fits : T (fits binary64 (whole r ⊗ two^ (minus j 589)))
  y_fits = mul-fits binary64 (whole r) (two^ (minus j 589))

  y_value : HasValue (whole r ⊗ two^ (minus j 589)) false (r * 2 ^ j) (1 * 2 ^ 589)
  y_value = root_value r j (omega (arith, r_full)) r_narrow (omega (arith, taken.few))

  pub y_above : T (positive (whole r ⊗ two^ (minus j 589)))
  y_above = positive_of_value (whole r ⊗ two^ (minus j 589)) (r * 2 ^ j) (1 * 2 ^ 589) y_value (mul-pos (omega (arith, r_full)) (pow_pos j))

  pub y_units : units_of (whole r ⊗ two^ (minus j 589)) ≡ r * 2 ^ (j + 485)
  y_units = units_of_value (whole r ⊗ two^ (minus j 589)) r j y_above y_value

  low : 2 ^ 52 * 2 ^ 52 ≤ w * 2 ^ 52
  low = omega (arith, w_range)

  nearest : NearestRoot (fin false (suc m) e) (whole r ⊗ two^ (minus j 589))
  nearest = record {
    held = y_fits;
    above = y_above;
    over = λ a b f l. (let z = units_of_lem a b f in
        rw (y_units, square, z.3) (over_units (w * 2 ^ 52) r (j + 485) r_near r_full low z.0 z.1 z.2 (rw (y_units, z.3) at l)));
    under = λ a b f l. (let z = units_of_lem a b f in
        rw (y_units, square, z.3) (under_units (w * 2 ^ 52) r (j + 485) r_near r_full low z.0 z.1 z.2 (rw (y_units, z.3) at l)));
  }

pub sqrt_nearest : (m : ℕ) (e : ℤ) → T (fits binary64 (fin false (suc m) e)) → NearestRoot (fin false (suc m) e) (SQRT (fin false (suc m) e))
unfolding SQRT split_of sqrt_steps
sqrt_nearest m e h = nearest m e h
