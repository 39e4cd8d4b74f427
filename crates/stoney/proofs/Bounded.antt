-- What a table says at a Mach number that is finite and not negative is finite: one computed test over all segments of all tables, and one law that carries it to
-- every such Mach number.
use mathlib.Core.Path.{◌≡◌, refl, sym, subst}
use mathlib.Core.Bool.{Bool, true, false, ◌&&◌, cond, false≢true}
use mathlib.Core.List.{List, [], ◌∷◌}
use Prim.Native.Nat.{ℕ, ◌*◌}
use native.Mathlib.Nat.{mul_right_comm, mul-le-mul_right, le_trans, le_of_eq, le_of_lt, le_of_mul-le-mul_right, zero-mul}
use native.Mathlib.Omega.{arith}
use lib.Dec.{T, leb, eqb, leb→le, ltb→lt, eqb→eq, lit<, lit≤}
use lib.ListN.{drop}
use lib.Ieee.{Float, nan, inf, fin, binary64, up, down, fits, of_bits, round, sum, neg, add, sub, div, lt, le, eq}
use lib.Ieee.Scale.{finite}
use lib.Ieee.Fits.{and_l, and_r, down_pos, add-fits}
use lib.Ieee.Positive.{positive}
use Rattle.elementary.specs.Arithmetic.{◌⊖◌, ◌⊗◌, ◌⊘◌, ◌≺◌, ◌≼◌}
use Rattle.elementary.specs.Constants.{0·0, 0·8}
use Rattle.elementary.specs.Split.{Within}
use Rattle.elementary.proofs.Sizes.{small, within_more}
use Rattle.elementary.proofs.Bounds.{add_within, sub_within, mul_within}
use Rattle.elementary.proofs.Ranges.{reaches}
use Rattle.stoney.specs.declared.StoneyNose.{StoneyNose}
use Rattle.stoney.specs.declared.ValueAndSlope.{ValueAndSlope}
use Rattle.stoney.specs.Tables.{noses}
use Rattle.stoney.specs.Points.{Point, points, every, holds_at}
use Rattle.stoney.specs.Lookup.{line, is_short_of, walk, value_and_slope}
use Rattle.stoney.proofs.Segments.{below_limit}
use Rattle.stoney.specs.BrokenLine.{start, corners}
use Rattle.stoney.proofs.Corners.{from_start, by_corners}

-- ---- the test

-- `Within`, as a test that computes
abbrev within : ℕ → Float → Bool
within n nan = false
within n (inf s) = false
within n (fin s m e) = leb (m * up e) (n * down e)

is_within : (n : ℕ) (x : Float) → T (within n x) → Within n x
is_within n nan t = absurd t
is_within n (inf s) t = absurd t
is_within n (fin s m e) t = leb→le (m * up e) (n * down e) t

-- a point's drag is at most 1 and its Mach at most 4; a slope, to the next point or from Mach 0.8, at most 8
abbrev small_point : Point → Bool
small_point p = fits binary64 p.drag && (within 1 p.drag && within 4 p.mach)

abbrev small_slopes : List Point → Bool
small_slopes [] = true
small_slopes (p ∷ []) = small_point p
small_slopes (p ∷ q ∷ rest) = small_point p && (within 8 ((q.drag ⊖ p.drag) ⊘ (q.mach ⊖ p.mach)) && small_slopes (q ∷ rest))

all_small : T (every (λ nose. small_slopes (corners nose)) noses)
unfolding points fits of_bits round sum neg add sub div lt le eq
all_small = tt

-- ---- the law

-- finite, and a number that binary64 holds
pub record Bounded (x : Float) : Type 0 where
  pub within : Within 65 x
  pub fits : T (fits binary64 x)

either : (t : Bool) (a b : ValueAndSlope) → (t ≡ true → Bounded a.value) → (t ≡ false → Bounded b.value) → Bounded (cond t a b).value
either true a b f g = f refl
either false a b f g = g refl

-- a Mach number below a small one is small
below_within : (M q : Float) (n : ℕ) → T (finite M) → T (0·0 ≼ M) → (M ≺ q) ≡ true → Within n q → Within n M
unfolding lt le eq of_bits
below_within nan q n f z h w = absurd f
below_within (inf s) q n f z h w = absurd f
below_within (fin s m e) nan n f z h w = absurd w
below_within (fin s m e) (inf t) n f z h w = absurd w
below_within (fin false m e) (fin true k d) n f z h w = absurd (false≢true h)
below_within (fin false m e) (fin false k d) n f z h w =
    le_of_mul-le-mul_right
    (le_trans (le_of_lt (ltb→lt (m * up e * down d) (k * up d * down e) (subst T (sym h) tt)))
    (le_trans (mul-le-mul_right (down e) w) (le_of_eq (mul_right_comm n (down d) (down e)))))
    (down_pos d)
below_within (fin true m e) (fin t k d) n f z h w =
    let a : 0 * 1 * down e ≡ m * up e * 1 = eqb→eq (0 * 1 * down e) (m * up e * 1) (and_l (eqb (0 * 1 * down e) (m * up e * 1)) _ z) in
    omega (arith, zero-mul (down e))

first_small : (q : Point) (rest : List Point) → T (small_slopes (q ∷ rest)) → T (small_point q)
first_small q [] t = t
first_small q (r ∷ rest) t = and_l (small_point q) _ t

limit_positive : T (positive 0·8)
unfolding of_bits
limit_positive = tt

zero_bounded : Bounded 0·0
unfolding of_bits fits
zero_bounded = record { within = lit≤ tt; fits = tt }

module _ (M : Float) (f : T (finite M)) (z : T (0·0 ≼ M)) where
  drag_bounded : (p : Point) → T (small_point p) → Bounded p.drag
  drag_bounded p t = record {
    within = within_more p.drag 1 65 (lit≤ tt) (is_within 1 p.drag (and_l (within 1 p.drag) (within 4 p.mach) (and_r (fits binary64 p.drag) _ t)));
    fits = and_l (fits binary64 p.drag) _ t;
  }

  mach_within : (p : Point) → T (small_point p) → Within 4 p.mach
  mach_within p t = is_within 4 p.mach (and_r (within 1 p.drag) (within 4 p.mach) (and_r (fits binary64 p.drag) _ t))

  -- a slope of at most 8 over a Mach number of at most 4
  rise_within : (slope from : Float) → Within 8 slope → Within 4 from → Within 4 M → Within 64 (slope ⊗ (M ⊖ from))
  rise_within slope from a b c = mul_within slope (M ⊖ from) 8 8 (small 64 (lit< tt)) a (sub_within M from 4 4 (small 8 (lit< tt)) c b)

  walk_bounded : (p : Point) (rest : List Point) → T (small_slopes (p ∷ rest)) → Bounded (walk p rest M).value
  unfolding walk line
  walk_bounded p [] t = drag_bounded p t
  walk_bounded p (q ∷ rest) t =
      let slope = (q.drag ⊖ p.drag) ⊘ (q.mach ⊖ p.mach) in
      let own = and_l (small_point p) (within 8 slope && small_slopes (q ∷ rest)) t in
      let others = and_r (small_point p) (within 8 slope && small_slopes (q ∷ rest)) t in
      let next = and_r (within 8 slope) (small_slopes (q ∷ rest)) others in
      either (is_short_of M q) (line p q M) (walk q rest M)
      (λ e. record {
        within = add_within p.drag (slope ⊗ (M ⊖ p.mach)) 1 64 (small 65 (lit< tt)) (is_within 1 p.drag (and_l (within 1 p.drag) (within 4 p.mach) (and_r (fits binary64 p.drag) _ own)))
            (rise_within slope p.mach (is_within 8 slope (and_l (within 8 slope) _ others)) (mach_within p own) (below_within M q.mach 4 f z e (mach_within q (first_small q rest next))));
        fits = add-fits binary64 p.drag (slope ⊗ (M ⊖ p.mach));
      })
      (λ e. walk_bounded q rest next)

pub table_bounded : (nose : StoneyNose) (M : Float) → T (finite M) → T (0·0 ≼ M) → Bounded (value_and_slope nose M).value
table_bounded nose M f z = by (M ≺ 0·8) refl
  where
    t : T (small_slopes (start ∷ drop 1 (corners nose)))
    t = subst (λ (ps : List Point). T (small_slopes ps)) (from_start nose) (holds_at (λ nose. small_slopes (corners nose)) all_small nose)

    by : (b : Bool) → (M ≺ 0·8) ≡ b → Bounded (value_and_slope nose M).value
    by true l = rw (below_limit nose M (subst T (sym l) tt)) zero_bounded
    by false l = rw (by_corners nose M (reaches 0·8 M limit_positive f l)) (walk_bounded M f z start (drop 1 (corners nose)) t)
