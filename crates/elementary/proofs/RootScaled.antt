-- The root of a magnitude by the language's own root: what `sqrt_steps` does to a subnormal number. The root of its significand w is near, as `nearest_root` says, and
-- scaling it by a power of two loses nothing.
use mathlib.Core.Path.{◌≡◌, refl, sym, ap, ◌∙◌, subst}
use mathlib.Core.Bool.{true, false, true≢false}
use Prim.Native.Nat.{ℕ, zero, suc, ◌+◌, ◌*◌, ◌^◌, ◌≤◌, ◌<◌}
use native.Mathlib.Nat.{mul_assoc, mul_comm, mul_right_comm, mul-pos, mul-one, one-mul, zero-mul, le_of_lt, lt_of_lt_of_le}
use native.Mathlib.Omega.{arith}
use lib.Dec.{T, lit<}
use lib.Pow.{pow_pos, pow_mono, shl_lt}
use lib.Ieee.{Float, nan, inf, fin, binary64, up, down, minus, sqrt, fits, of_bits}
use lib.Ieee.Exact.{HasValue, round_exact}
use lib.Ieee.Fits.{down_pos}
use lib.Ieee.Positive.{positive_of_value, mul_at}
use lib.Ieee.Scale.{round_same}
use Rattle.elementary.specs.Arithmetic.{◌⊗◌, whole}
use Rattle.elementary.specs.Constants.{2·0}
use Rattle.elementary.specs.Root.{nearest_root}
use Rattle.elementary.specs.Split.{units, two^}
use Rattle.elementary.proofs.Bits.{held, units_are}
use Rattle.elementary.proofs.Nearest.{root_full, root_rounds}
use Rattle.elementary.proofs.Powers.{raised, power_value}
use Rattle.elementary.proofs.Ranges.{whole_value}
use Rattle.elementary.proofs.Root.{nearest_short}
use Rattle.elementary.proofs.RootOperation.{root_counts}

-- the root of a whole number of 53 or 54 digits, in units
whole_counts : (x : Float) (w : ℕ) → T (fits binary64 x) → HasValue x false w 1 → 2 ^ 52 ≤ w → w < 2 ^ 54 → HasValue (sqrt binary64 x) false (nearest_root 53 (w * 2 ^ 52) * 2 ^ 1048) (2 ^ 1074)
whole_counts nan w h v a b = absurd v
whole_counts (inf s) w h v a b = absurd v
whole_counts (fin true m e) w h v a b = absurd (true≢false v.0)
whole_counts (fin false zero e) w h v a b = absurd (omega (arith, v.1, zero-mul (up e), mul-pos {m = w} {n = down e} (omega arith) (down_pos e)))
whole_counts (fin false (suc m) e) w h v a b =
    let n : units (suc m) e ≡ w * 2 ^ 1074 =
    units_are (fin false (suc m) e) false (w * 2 ^ 1074)
    (refl, ap (λ (i : ℕ). i * 2 ^ 1074) (sym (mul-one (suc m * up e)) ∙ v.1) ∙ mul_right_comm w (down e) (2 ^ 1074)) in
    let p : 2 ^ 1074 * 2 ^ 1074 ≡ 2 ^ 52 * (2 ^ 1048 * 2 ^ 1048) = refl in
    root_counts m e (held false m e h) w 1048
    (ap (λ (i : ℕ). i * 2 ^ 1074) n ∙ mul_assoc w (2 ^ 1074) (2 ^ 1074) ∙ ap (λ (i : ℕ). w * i) p ∙ sym (mul_assoc w (2 ^ 52) (2 ^ 1048 * 2 ^ 1048))) a b (omega arith)

-- the root of w, scaled, is what SQRT says of w
pub scaled_root : (x : Float) (w j : ℕ) → T (fits binary64 x) → HasValue x false w 1 → 2 ^ 52 ≤ w → w < 2 ^ 54
    → sqrt binary64 x ⊗ two^ (minus (j + 460) 1023) ≡ whole (nearest_root 53 (w * 2 ^ 52)) ⊗ two^ (minus j 589)
scaled_root x w j h v a b =
    let r = nearest_root 53 (w * 2 ^ 52) in
    let some : 0 < r = omega (arith, root_full w a b) in
    let y = whole_counts x w h v a b in
    let e : r * 2 ^ 1048 * 2 ^ (j + 460) * (1 * 2 ^ 589) ≡ r * 2 ^ j * (2 ^ 1074 * 2 ^ 1023) =
    ap (λ (i : ℕ). i * (1 * 2 ^ 589)) (raised r 1048 (j + 460))
    ∙ ap (λ (i : ℕ). r * 2 ^ (1048 + (j + 460)) * i) (one-mul (2 ^ 589))
    ∙ raised r (1048 + (j + 460)) 589
    ∙ ap (λ (i : ℕ). r * 2 ^ i) (omega arith)
    ∙ sym (raised r j 2097) in
    mul_at binary64 (sqrt binary64 x) (two^ (minus (j + 460) 1023)) (r * 2 ^ 1048) (2 ^ 1074) (2 ^ (j + 460)) (2 ^ 1023)
    (positive_of_value (sqrt binary64 x) (r * 2 ^ 1048) (2 ^ 1074) y (mul-pos some (pow_pos 1048))) tt (pow_pos 1074) (pow_pos 1023) y (power_value (j + 460) 1023)
    ∙ round_same binary64 false (r * 2 ^ 1048 * 2 ^ (j + 460)) (2 ^ 1074 * 2 ^ 1023) (r * 2 ^ j) (1 * 2 ^ 589) (mul-pos (pow_pos 1074) (pow_pos 1023)) (mul-pos {m = 1} (lit< tt) (pow_pos 589)) e
    ∙ sym (root_rounds r j some (nearest_short w b))

-- twice a significand, as a float
pub doubled_value : (g : ℕ) → 0 < g → g < 2 ^ 53 → HasValue (2·0 ⊗ whole g) false (2 * g) 1
unfolding of_bits
doubled_value g p h =
    let v = whole_value g (le_of_lt h) in
    subst (λ (x : Float). HasValue x false (2 * g) 1)
    (sym (mul_at binary64 2·0 (whole g) 2 1 g 1 tt (positive_of_value (whole g) g 1 v p) (lit< tt) (lit< tt) (refl, refl) v))
    (round_exact binary64 false (2 * g) 1 g 1075 (lit< tt) h
    (lt_of_lt_of_le (shl_lt 53 1075 h) (pow_mono {i = 1128} {j = 2098} (omega arith)))
    (ap (λ (i : ℕ). i * 2 ^ 1074) (mul_comm 2 g) ∙ mul_assoc g 2 (2 ^ 1074) ∙ sym (mul-one (g * 2 ^ 1075))))
