-- `floor_of` of a finite x is the greatest whole number that is at most x, for either sign: k ≤ x < k + 1.
use mathlib.Core.Path.{◌≡◌, refl}
use mathlib.Core.Bool.{Bool, true, false}
use Prim.Native.Nat.{ℕ, ◌+◌, ◌*◌, ◌/◌, ◌%◌, ◌<◌}
use native.Mathlib.Nat.{add-mul, div-add-mod', mod-lt}
use native.Mathlib.Omega.{arith}
use lib.IntN.{ℤ}
use lib.Dec.{eqb}
use lib.Ieee.{fin, up, down}
use lib.Ieee.Fits.{down_pos}
use borrow.Author.Tests.{eqb-true, eqb-false}
use Rattle.elementary.specs.Split.{floor_size, floor_of, Greatest}

greatest : (s : Bool) (a b : ℕ) → 0 < b → Greatest s a b (record { negative = s; size = floor_size s a b })
greatest false a b p =
    let whole : a / b * b + a % b ≡ a = div-add-mod' a b in
    let rest : a % b < b = mod-lt a p in
    let next : (a / b + 1) * b ≡ a / b * b + 1 * b = add-mul (a / b) 1 b in
    (refl, omega arith, omega arith)
greatest true a b p = go (eqb (a % b) 0) refl
  where
    go : (t : Bool) → eqb (a % b) 0 ≡ t → Greatest true a b (record { negative = true; size = floor_size true a b })
    go true e =
        let whole : a / b * b + a % b ≡ a = div-add-mod' a b in
        let none : a % b ≡ 0 = eqb-true (a % b) 0 e in
        rw e (refl, omega arith, omega arith)
    go false e =
        let whole : a / b * b + a % b ≡ a = div-add-mod' a b in
        let rest : a % b < b = mod-lt a p in
        let some : (a % b ≡ 0 → ⊥) = eqb-false (a % b) 0 e in
        let next : (a / b + 1) * b ≡ a / b * b + 1 * b = add-mul (a / b) 1 b in
        rw e (refl, omega arith, omega arith)

pub floor_greatest : (s : Bool) (m : ℕ) (e : ℤ) → Greatest s (m * up e) (down e) (floor_of (fin s m e))
unfolding floor_of
floor_greatest s m e = greatest s (m * up e) (down e) (down_pos e)
