-- `root_of` is the whole part of the square root: two digits of the number give one of the root.
use mathlib.Core.Path.{◌≡◌, refl, sym, ap, ◌∙◌, subst, subst₂}
use mathlib.Core.Bool.{cond}
use Prim.Native.Nat.{ℕ, zero, suc, ◌+◌, ◌-◌, ◌*◌, ◌/◌, ◌%◌, ◌^◌, ◌≤◌, ◌<◌}
use native.Mathlib.Nat.{pow-suc, mul-add, add-mul, mul-mul-mul_comm, div-lt_iff_lt-mul, zero-lt-suc}
use lib.Arith.{lt-one}
use native.Mathlib.Decide.{dec_lt}
use native.Mathlib.Omega.{arith}
use lib.Dec.{ltb}
use borrow.Author.Tests.{lt-ltb, le-ltb}
use Rattle.elementary.specs.Root.{root_of, nearest_root}

-- root is the root of n by its first k digits, and left is what n has above root × root
pub record Rooted (k n root left : ℕ) : Type 0 where
  pub is : root ≡ root_of k n
  pub above : left + root * root ≡ n
  pub near : left ≤ 2 * root
  pub short : root < 2 ^ k

pub at_start : Rooted 0 0 0 0
unfolding root_of
at_start = record { is = refl; above = refl; near = omega arith; short = omega arith }

-- the squares of 2 r and of 2 r + 1
double : (r : ℕ) → 2 * r * (2 * r) ≡ 4 * (r * r)
double r = mul-mul-mul_comm 2 r 2 r

pub double_one : (r : ℕ) → (2 * r + 1) * (2 * r + 1) ≡ 4 * (r * r) + (4 * r + 1)
double_one r =
    let a : (2 * r + 1) * (2 * r + 1) ≡ 2 * r * (2 * r + 1) + 1 * (2 * r + 1) = add-mul (2 * r) 1 (2 * r + 1) in
    let b : 2 * r * (2 * r + 1) ≡ 2 * r * (2 * r) + 2 * r * 1 = mul-add (2 * r) (2 * r) 1 in
    omega (arith, double r)

module _ (k n root left p : ℕ) (h : Rooted k n root left) (small : p < 4) where
  -- the root of 4 n + p, from that of n
  next_root : root_of (suc k) (4 * n + p) ≡ cond (ltb (4 * n + p) ((2 * root + 1) * (2 * root + 1))) (2 * root) (2 * root + 1)
  unfolding root_of
  next_root =
      let q : (4 * n + p) / 4 ≡ n = omega arith in
      rw (q, ← h.is)

  pub next_even : 4 * left + p < 4 * root + 1 → Rooted (suc k) (4 * n + p) (2 * root) (4 * left + p)
  next_even t =
      let s = double root in
      let u = double_one root in
      let l : 4 * n + p < (2 * root + 1) * (2 * root + 1) = omega (arith, h.above) in
      record {
        is = sym (next_root ∙ rw (lt-ltb _ _ l));
        above = omega (arith, h.above);
        near = omega arith;
        short = rw (pow-suc 2 k) (omega (arith, h.short));
      }

  pub next_odd : 4 * root + 1 ≤ 4 * left + p → Rooted (suc k) (4 * n + p) (2 * root + 1) (4 * left + p - (4 * root + 1))
  next_odd t =
      let u = double_one root in
      let l : (2 * root + 1) * (2 * root + 1) ≤ 4 * n + p = omega (arith, h.above) in
      record {
        is = sym (next_root ∙ rw (le-ltb _ _ l));
        above = omega (arith, h.above);
        near = omega (arith, h.near);
        short = rw (pow-suc 2 k) (omega (arith, h.short));
      }

rooted_as : {k m n root left : ℕ} → m ≡ n → Rooted k m root left → (left : ℕ) × Rooted k n (root_of k n) left
rooted_as {k} {left = left} e r = (left, subst₂ (λ (a b : ℕ). Rooted k a b left) e (r.is ∙ ap (root_of k) e) r)

-- every n below 4 ^ k has such a root
pub rooted : (k n : ℕ) → n < 4 ^ k → (left : ℕ) × Rooted k n (root_of k n) left
unfolding root_of
rooted zero n h = (0, subst (λ (a : ℕ). Rooted 0 a 0 0) (sym (lt-one h)) at_start)
rooted (suc k) n h = go (rooted k (n / 4) ((div-lt_iff_lt-mul (zero-lt-suc 3)).1 (subst (λ (a : ℕ). n < a) (pow-suc 4 k) h)))
  where
    go : (left : ℕ) × Rooted k (n / 4) (root_of k (n / 4)) left → (left : ℕ) × Rooted (suc k) n (root_of (suc k) n) left
    go ih =
        let left = ih.0 in
        let r = ih.1 in
        let root = root_of k (n / 4) in
        let p = n % 4 in
        let whole : 4 * (n / 4) + p ≡ n = omega arith in
        elim (dec_lt (4 * left + p) (4 * root + 1)) [
          | yes a ↦ rooted_as whole (next_even k (n / 4) root left p r (omega arith) a)
          | no a ↦ rooted_as whole (next_odd k (n / 4) root left p r (omega arith) (omega arith))
        ]

-- the nearest whole number, by what is left
module _ (k n root left : ℕ) (h : Rooted k n root left) where
  pub nearest_up : root < left → root + 1 ≡ nearest_root k n
  nearest_up l = rw (← h.is, lt-ltb (root * root + root) n (omega (arith, h.above)))

  pub nearest_down : left ≤ root → root ≡ nearest_root k n
  nearest_down l = rw (← h.is, le-ltb (root * root + root) n (omega (arith, h.above)))

-- the root of w × 2 ^ 52 has at most 53 digits, and so has the number nearest to it, or is 2 ^ 53
pub nearest_short : (w : ℕ) → w < 2 ^ 54 → nearest_root 53 (w * 2 ^ 52) ≤ 2 ^ 53
nearest_short w h =
    let r = (rooted 53 (w * 2 ^ 52) (omega arith)).1 in
    elim (dec_lt (root_of 53 (w * 2 ^ 52)) (rooted 53 (w * 2 ^ 52) (omega arith)).0) [
      | yes l ↦ rw (← nearest_up 53 (w * 2 ^ 52) _ _ r l) (omega (arith, r.short))
      | no l ↦ rw (← nearest_down 53 (w * 2 ^ 52) _ _ r (omega arith)) (omega (arith, r.short))
    ]
