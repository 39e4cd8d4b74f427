-- "A table that starts at 1.2 .. run down to 0 at Mach 0.8": below its first point such a table is the straight line from drag 0 at Mach 0.8 to that point.
use mathlib.Core.Path.{◌≡◌, ◌∙◌}
use lib.Dec.{T}
use lib.Ieee.{Float, binary64, of_bits, to_bits, fits, round, sum, neg, add, sub, mul, div, lt}
use lib.Ieee.Bits.{is_true}
use lib.Ieee.Fits.{mul-fits}
use lib.Ieee.Positive.{positive, between}
use Rattle.elementary.specs.Arithmetic.{◌⊕◌, ◌⊖◌, ◌⊗◌, ◌⊘◌, ◌≺◌, ◌≼◌}
use Rattle.elementary.specs.Constants.{0·0, 0·8}
use Rattle.elementary.specs.Equal.{same, same_is}
use Rattle.elementary.specs.Order.{lt_le}
use Rattle.elementary.proofs.Same.{sub_unsigned, mul_unsigned, zero_plus}
use Rattle.stoney.specs.declared.StoneyNose.{StoneyNose}
use Rattle.stoney.specs.declared.StoneyNose.TheVariants.{PowerQuarter, PowerHalf, PowerThreeQuarters, ParabolaHalf, ParabolaThreeQuarters, Parabola, Ellipsoid, LvHaack, VonKarman}
use Rattle.stoney.specs.Points.{Point, points, first_mach, from_1·2}
use Rattle.stoney.specs.Lookup.{before, line, value_and_slope}
use Rattle.stoney.specs.Segments.{point_of, at_limit}
use Rattle.stoney.proofs.Segments.{below_first}

-- what the two first points have, by computing
record Late (p : Point) : Type 0 where
  limit : T (positive 0·8)
  above : T (positive p.mach)
  after : T (0·8 ≺ p.mach)
  rising : T (positive (p.drag ⊘ (p.mach ⊖ 0·8)))
  whole : T (same (p.drag ⊖ 0·0) p.drag)

starts_late : (nose : StoneyNose) → T (from_1·2 nose) → Late (point_of nose 0)
unfolding points of_bits round sum neg add sub mul div lt fits to_bits
starts_late PowerQuarter t = record { limit = tt; above = tt; after = tt; rising = tt; whole = tt }
starts_late PowerHalf t = absurd t
starts_late PowerThreeQuarters t = absurd t
starts_late ParabolaHalf t = absurd t
starts_late ParabolaThreeQuarters t = absurd t
starts_late Parabola t = absurd t
starts_late Ellipsoid t = record { limit = tt; above = tt; after = tt; rising = tt; whole = tt }
starts_late LvHaack t = absurd t
starts_late VonKarman t = absurd t

-- the line's drag at Mach 0.8 is +0, and +0 added changes nothing
down : (p : Point) (M : Float) → Late p → T (0·8 ≼ M) → T (M ≺ p.mach) → before p M ≡ line at_limit p M
unfolding before line
down p M c l u =
    let slope = p.drag ⊘ (p.mach ⊖ 0·8) in
    let M-above : T (positive M) = between 0·8 M p.mach c.limit c.above l (lt_le M p.mach u) in
    let rest = slope ⊗ (M ⊖ 0·8) in
    let sum : 0·0 ⊕ rest ≡ rest =
    zero_plus rest (mul-fits binary64 slope (M ⊖ 0·8)) (mul_unsigned slope (M ⊖ 0·8) c.rising (sub_unsigned M 0·8 M-above c.limit l)) in
    rw (is_true (0·8 ≺ p.mach) c.after, is_true (0·8 ≼ M) l, same_is (p.drag ⊖ 0·0) p.drag c.whole, sum)

pub run_down : (nose : StoneyNose) (M : Float) → T (from_1·2 nose) → T (0·8 ≼ M) → T (M ≺ first_mach nose) → value_and_slope nose M ≡ line at_limit (point_of nose 0) M
run_down nose M t l u = below_first nose M u ∙ down (point_of nose 0) M (starts_late nose t) l u
