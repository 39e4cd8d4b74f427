-- Which Mach numbers are beyond a table: those strictly above its last point's. At the last point's own Mach a table isn't left yet, and at the next
-- float up it is (`at_last`, `just_past_last`); beyond it the table answers the last value held (`beyond_held`).
use Rattle.std.specs.Prelude.{◌≡◌, false, ◌&&◌, ◌+◌, T, map, [], ◌∷◌, Float}
use Rattle.std.proofs.Math.Path.{refl}
use Rattle.std.proofs.Math.Bool.{not}
use Rattle.std.proofs.Common.{ap, subst}
use Prim.Native.Nat.{ℕ, ◌-◌}
use Rattle.std.specs.Float.{binary64, nan, inf, fin}
use Rattle.std.specs.Float.Ieee.{of_bits, to_bits, fits, round, lt}
use Rattle.std.specs.Float.Ieee.Fits.{and_l, and_r}
use Rattle.elementary.specs.Arithmetic.{◌≺◌, ◌≼◌, bits}
use Rattle.elementary.specs.Order.{lt_le}
use Rattle.stoney.specs.declared.StoneyNose.{StoneyNose}
use Rattle.stoney.specs.Tables.{noses}
use Rattle.stoney.specs.Points.{points, last_mach, every, holds_at}
use Rattle.stoney.specs.Lookup.{held, beyond, value_and_slope}
use Rattle.stoney.specs.Segments.{point_of, last_of, count_is}
use Rattle.stoney.proofs.Segments.{past_last_point}

-- the next float up
abbrev next_up : Float → Float
next_up x = bits (to_bits binary64 x + 1)

-- by computing
all_end : T (every (λ nose. not (beyond nose (last_mach nose)) && beyond nose (next_up (last_mach nose))) noses)
unfolding beyond points of_bits to_bits fits round lt
all_end = tt

ends : (nose : StoneyNose) → T (not (beyond nose (last_mach nose)) && beyond nose (next_up (last_mach nose)))
ends nose = holds_at (λ nose. not (beyond nose (last_mach nose)) && beyond nose (next_up (last_mach nose))) all_end nose

pub at_last : (nose : StoneyNose) → T (not (beyond nose (last_mach nose)))
at_last nose = and_l (not (beyond nose (last_mach nose))) (beyond nose (next_up (last_mach nose))) (ends nose)

pub just_past_last : (nose : StoneyNose) → T (beyond nose (next_up (last_mach nose)))
just_past_last nose = and_r (not (beyond nose (last_mach nose))) (beyond nose (next_up (last_mach nose))) (ends nose)

last_is : (nose : StoneyNose) → last_mach nose ≡ (last_of nose).mach
last_is nose = ap (λ (n : ℕ). (point_of nose (n - 1)).mach) (count_is nose)

-- "when a cell rests on a table held past its last point"
pub beyond_held : (nose : StoneyNose) (M : Float) → T (beyond nose M) → value_and_slope nose M ≡ held (last_of nose)
unfolding beyond
beyond_held nose M b = past_last_point nose M (subst (λ (m : Float). T (m ≼ M)) (last_is nose) (lt_le (last_mach nose) M b))

-- a NaN is held and isn't beyond
pub nan_not_beyond : (nose : StoneyNose) → beyond nose nan ≡ false
unfolding beyond lt
nan_not_beyond nose = by (last_mach nose)
  where
    by : (x : Float) → (x ≺ nan) ≡ false
    by nan = refl
    by (inf s) = refl
    by (fin s m e) = refl

-- the last Machs, in thousandths, in the order of `noses`
pub last_machs : map last_mach noses ≡ map (λ n. round binary64 false n 1000) (3587 ∷ 1941 ∷ 1967 ∷ 1968 ∷ 1968 ∷ 1975 ∷ 3587 ∷ 1977 ∷ 1994 ∷ [])
unfolding points
last_machs = refl
