-- The root of a number of 1/4 or more is 1/2 or more, by what SQRT is: were it below, then 1/2 would be nearer.
use mathlib.Core.Path.{◌≡◌, refl, sym, subst}
use mathlib.Core.Bool.{true, false}
use Prim.Native.Nat.{ℕ, zero, suc, ◌+◌, ◌-◌, ◌*◌, ◌^◌, ◌≤◌, ◌<◌}
use native.Mathlib.Nat.{mul-le-mul, mul-le-mul_right, mul-pos, mul-le-mul_left, le_of_mul-le-mul_right, le-div_iff_mul-le, lt_of_not-le, le_of_suc-le-suc, zero-mul}
use native.Mathlib.Omega.{arith}
use lib.IntN.{ℤ, pos, negsuc}
use lib.Dec.{T, lit<, lit≤}
use lib.Pow.{pow_pos}
use lib.Ieee.{Float, nan, inf, fin, binary64, up, down, round, sum, add, sub, neg, le, fits, of_bits}
use lib.Ieee.Fits.{down_pos, sub-fits}
use lib.Ieee.Positive.{above, above_of_le, le→cross, le_trans_positive}
use borrow.Author.Tests.{le-ltb}
use Rattle.elementary.specs.Arithmetic.{◌⊖◌, ◌≼◌}
use Rattle.elementary.specs.Constants.{1·0}
use Rattle.elementary.specs.Split.{units}
use Rattle.elementary.specs.Steps.{SQRT}
use Rattle.elementary.specs.Nearest.{NearestRoot}
use Rattle.elementary.proofs.Bounds.{Least}
use Rattle.elementary.proofs.Same.{unsigned, sub_unsigned}
use Rattle.elementary.proofs.Ranges.{round_least}
use Rattle.elementary.proofs.Nearest.{sqrt_nearest}
use Rattle.elementary.proofs.Unique.{sqrt_is}

-- ---- 1/2 and 1/4 in units, over v units, which are 1/4

half : (v d z : ℕ) → 0 < v → 2 * v * d ≤ z * (4 * v) → d ≤ 2 * z
half v d z p h = let a : d * (2 * v) ≤ 2 * z * (2 * v) = omega arith in le_of_mul-le-mul_right a (mul-pos (lit< tt) p)

quarter : (v d z : ℕ) → d ≤ 4 * z → v * d ≤ z * (4 * v)
quarter v d z h = let a : v * d ≤ v * (4 * z) = mul-le-mul_left v h in omega arith

clash : (v x y : ℕ) → v ≤ x → y < 2 * v → 4 * (x * (4 * v)) < (y + 2 * v) * (y + 2 * v) → ⊥
clash v x y h l k =
    let a : y + 2 * v ≤ 4 * v = omega arith in
    let b : (y + 2 * v) * (y + 2 * v) ≤ 4 * v * (4 * v) = mul-le-mul a a in
    let c : v * (4 * v) ≤ x * (4 * v) = mul-le-mul_right (4 * v) h in
    omega arith

half_least : (m : ℕ) (e : ℤ) → 2 ^ 1073 ≤ units m e → Least 2 (fin false m e)
half_least m e h = half (2 ^ 1072) (down e) (m * up e) (pow_pos 1072) ((le-div_iff_mul-le (down_pos e)).0 h)

quarter_units : (m : ℕ) (e : ℤ) → Least 4 (fin false m e) → 2 ^ 1072 ≤ units m e
quarter_units m e h = (le-div_iff_mul-le (down_pos e)).1 (quarter (2 ^ 1072) (down e) (m * up e) h)

-- ---- the root

nearest_least : (m : ℕ) (e : ℤ) (y : Float) → NearestRoot (fin false m e) y → Least 4 (fin false m e) → Least 2 y
nearest_least m e nan r l = absurd r.above
nearest_least m e (inf s) r l = absurd r.above
nearest_least m e (fin true n d) r l = absurd r.above
nearest_least m e (fin false n d) r l =
    half_least n d
    (le_of_suc-le-suc
    (lt_of_not-le
    (λ (g : units n d < 2 ^ 1073). clash (2 ^ 1072) (units m e) (units n d) (quarter_units m e l) g (r.over 1 (negsuc 0) (unfold fits in tt) g))))

-- +infinity too
pub root_least : (x : Float) → T (fits binary64 x) → T (unsigned x) → Least 4 x → Least 2 (SQRT x)
root_least nan h u l = absurd l
root_least (inf true) h u l = absurd u
root_least (inf false) h u l = subst (Least 2) (sym (sqrt_is (inf false) h)) tt
root_least (fin true m e) h u l = absurd u
root_least (fin false zero e) h u l = let d = down_pos e in absurd (omega (arith, zero-mul (up e)))
root_least (fin false (suc m) e) h u l = nearest_least (suc m) e (SQRT (fin false (suc m) e)) (sqrt_nearest m e h) l

-- ---- y - 1 for a y of 5/4 or more

abbrev pub 5/4 : Float
5/4 = fin false 5 (negsuc 1)

one_quarter : round binary64 false 1 4 ≡ fin false 1 (negsuc 1)
unfolding round
one_quarter = refl

less_one_unsigned : (y : Float) → T (above y) → T (5/4 ≼ y) → T (unsigned (y ⊖ 1·0))
unfolding sub add neg of_bits
less_one_unsigned nan a h = absurd a
less_one_unsigned (inf true) a h = absurd a
less_one_unsigned (inf false) a h = tt
less_one_unsigned (fin true n d) a h = absurd a
less_one_unsigned (fin false n d) a h = sub_unsigned (fin false n d) (fin false 1 (pos 0)) a tt (le_trans_positive (fin false 1 (pos 0)) 5/4 (fin false n d) tt tt a (unfold le in tt) h)

less_one_least : (y : Float) → T (above y) → T (5/4 ≼ y) → Least 4 (y ⊖ 1·0)
unfolding sub add neg sum of_bits
less_one_least nan a h = absurd a
less_one_least (inf true) a h = absurd a
less_one_least (inf false) a h = tt
less_one_least (fin true n d) a h = absurd a
less_one_least (fin false n d) a h =
    let c : 5 * 1 * down d ≤ n * up d * 4 = le→cross 5/4 (fin false n d) tt a h in
    rw (le-ltb (n * up d * 1) (1 * 1 * down d) (omega arith))
    (round_least (fin false 1 (negsuc 1)) (n * up d * 1 - 1 * 1 * down d) (down d * 1) 4 (lit< tt) one_quarter tt (lit≤ tt) (mul-pos (down_pos d) (lit< tt)) (omega arith))

pub root_less_one_least : (y : Float) → T (5/4 ≼ y) → Least 2 (SQRT (y ⊖ 1·0))
root_less_one_least y h =
    let a = above_of_le 5/4 y tt h in
    root_least (y ⊖ 1·0) (sub-fits binary64 y 1·0) (less_one_unsigned y a h) (less_one_least y a h)
