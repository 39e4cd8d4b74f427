-- SQRT is the root of every binary64 number, and no other number is: of a finite x above zero the nearest to the exact root, of +0, -0 and +infinity the number
-- itself, of a NaN and a negative number a NaN.
use mathlib.Core.Path.{◌≡◌, refl, sym, ◌∙◌, subst}
use mathlib.Core.Bool.{true, false}
use Prim.Native.Nat.{ℕ, zero, suc, ◌*◌, ◌^◌, ◌≤◌, ◌<◌}
use native.Mathlib.Nat.{add_comm, le_antisymm, le_of_lt, le_of_suc-le-suc, lt_of_not-le, not-le_of_lt}
use lib.IntN.{ℤ}
use lib.Dec.{T}
use lib.Ieee.{Float, nan, inf, fin, binary64, fits}
use Rattle.elementary.specs.Split.{units, split_of}
use Rattle.elementary.specs.Steps.{SQRT}
use Rattle.elementary.specs.Nearest.{units_of, NearestRoot, RootOf}
use Rattle.elementary.proofs.Same.{same_units, zero_is}
use Rattle.elementary.proofs.Nearest.{sqrt_nearest}

-- ---- every number has its root

pub sqrt_is : (x : Float) → T (fits binary64 x) → RootOf x (SQRT x)
unfolding SQRT split_of
sqrt_is nan h = refl
sqrt_is (inf true) h = refl
sqrt_is (inf false) h = refl
sqrt_is (fin s zero e) h = sym (zero_is s e h)
sqrt_is (fin true (suc m) e) h = refl
sqrt_is (fin false (suc m) e) h = sqrt_nearest m e h

-- ---- and one only

-- of two, the lower would be nearer than the upper by the first's account, and farther by the second's
not_less : (x : Float) (m : ℕ) (e : ℤ) (n : ℕ) (d : ℤ) → NearestRoot x (fin false m e) → NearestRoot x (fin false n d) → units m e < units n d → ⊥
not_less x m e n d a b l =
    not-le_of_lt (a.over n d b.held l)
    (le_of_lt (subst (λ (k : ℕ). k * k < 4 * (units_of x * 2 ^ 1074)) (add_comm (units n d) (units m e)) (b.under m e a.held l)))

not_more : (x : Float) (m : ℕ) (e : ℤ) (n : ℕ) (d : ℤ) → NearestRoot x (fin false m e) → NearestRoot x (fin false n d) → units n d ≤ units m e
not_more x m e n d a b = le_of_suc-le-suc (lt_of_not-le (λ (l : units m e < units n d). not_less x m e n d a b l))

pub nearest_unique : (x y z : Float) → NearestRoot x y → NearestRoot x z → y ≡ z
nearest_unique x nan z a b = absurd a.above
nearest_unique x (inf s) z a b = absurd a.above
nearest_unique x (fin true m e) z a b = absurd a.above
nearest_unique x (fin false m e) nan a b = absurd b.above
nearest_unique x (fin false m e) (inf s) a b = absurd b.above
nearest_unique x (fin false m e) (fin true n d) a b = absurd b.above
nearest_unique x (fin false m e) (fin false n d) a b =
    same_units false m e n d a.held b.held (le_antisymm (not_more x n d m e b a) (not_more x m e n d a b))

pub root_unique : (x y z : Float) → RootOf x y → RootOf x z → y ≡ z
root_unique nan y z a b = a ∙ sym b
root_unique (inf true) y z a b = a ∙ sym b
root_unique (inf false) y z a b = a ∙ sym b
root_unique (fin s zero e) y z a b = a ∙ sym b
root_unique (fin true (suc m) e) y z a b = a ∙ sym b
root_unique (fin false (suc m) e) y z a b = nearest_unique (fin false (suc m) e) y z a b
