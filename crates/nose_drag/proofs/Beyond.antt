-- Which shapes can be marked, and above which Mach number: `by_hand` computes it on either side of a table's end. Of every curve that `new_curve` makes of a nose with a
-- length, at every Mach number that a curve takes, `tables_where` says that it is marked where a table of its shape is left, `marked_where` from which Mach number on, and
-- `flat_never` that one without a length never is. Of any tables the one that ends first decides (`any_left`).
use Rattle.std.specs.Prelude.{Ok, Err, Some, None, Option}
use Rattle.std.proofs.Math.Bool.{or-false}
use Rattle.aero_error.specs.Checks.{◌for_value◌, Coefficient}
use Rattle.aero_error.specs.declared.AeroError.TheVariants.{Broken}
use Rattle.aero_error.specs.declared.Rule.TheVariants.{OgiveRadiusRatio}
use Rattle.drag.specs.Friction.{mach_checked}
use Rattle.drag.specs.Answered.{mach_passed}
use Rattle.nose_drag.specs.Methods.{ogive_pressure_drag_factor}
use Rattle.nose_drag.specs.Answered.{curve_answered}
use mathlib.Core.Path.{◌≡◌, refl, sym, ap, ◌∙◌, subst}
use mathlib.Core.Bool.{Bool, true, false, cond, ◌||◌, ◌&&◌}
use lib.Dec.{T}
use mathlib.Core.List.{List, [], ◌∷◌, map}
use Prim.Native.Nat.{ℕ}
use lib.Ieee.{Float, nan, inf, fin, of_bits, round, sum, neg, add, sub, mul, div, lt, eq, le}
use lib.Ieee.Fits.{and_l, and_r}
use lib.Ieee.Scale.{finite}
use lib.Ieee.Positive.{positive, above, above_of_le, le_trans_positive, positive-finite}
use lib.Ieee.Bits.{is_true}
use Rattle.elementary.specs.Arithmetic.{◌≺◌, ◌≼◌, ◌≈◌, ◌⊘◌, ◌⊕◌}
use Rattle.elementary.specs.Constants.{ln_2, 0·0, 0·5, 0·8, 1·0}
use Rattle.elementary.specs.Steps.{LN}
use Rattle.nose_drag.specs.Forms.{sin_half_angle}
use Rattle.elementary.specs.Order.{not_above, lt_le, lt_through}
use Rattle.elementary.proofs.Floats.{true_t}
use Rattle.elementary.proofs.Ranges.{reaches}
use Rattle.elementary.specs.Tests.{between}
use Rattle.aero_error.specs.Checks.{dimension}
use Rattle.drag.specs.Pressure.{joint_pressure_drag_coefficient}
use Rattle.drag.specs.Constants.{0·25, 3·0}
use Rattle.shapes.specs.declared.NoseShape.{NoseShape}
use Rattle.shapes.specs.declared.NoseShape.TheVariants.{Conical, Ogive, Elliptical, PowerSeries, ParabolicSeries, Haack}
use Rattle.stoney.specs.declared.StoneyNose.{StoneyNose}
use Rattle.stoney.specs.declared.StoneyNose.TheVariants.{PowerQuarter, PowerHalf, PowerThreeQuarters, ParabolaHalf, ParabolaThreeQuarters, Parabola, Ellipsoid, LvHaack, VonKarman}
use Rattle.stoney.specs.Tables.{noses}
use Rattle.stoney.specs.Points.{points, first_mach, last_mach, every, holds_at}
use Rattle.stoney.specs.Lookup.{beyond}
use Rattle.nose_drag.specs.declared.curve.Reference.{Reference}
use Rattle.nose_drag.specs.declared.curve.Transonic.{Transonic}
use Rattle.nose_drag.specs.declared.builder.Bracket.{Bracket}
use Rattle.nose_drag.specs.declared.curve.PressureDragCurve.{PressureDragCurve}
use Rattle.nose_drag.specs.Constants.{0·75}
use Rattle.nose_drag.specs.Curves.{power_bracket, parabolic_bracket, weight_of, interpolated, between_references, cone_curve, step_curve, from_transonic, shaped, ogive, power, parabolic, haack, build, recorded, new_curve, curve_at, Curve}
use Rattle.nose_drag.specs.Between.{Between, between_method, between_low, power_between, parabolic_between, haack_between, made, own_shape, made_same, built, none_built}
use Rattle.nose_drag.specs.Beyond.{reference_beyond, ellipsoid_beyond, method_beyond, curve_beyond, drag_of, tables_read, thousandths, marked_above, lower_of, least, any_beyond, is_above}

-- ---- by hand: a nose of fineness 3 with a smooth joint, at one Mach number

abbrev marked : Curve → Float → Bool
marked (Ok curve) M = curve_beyond curve M
marked (Err e) M = false

abbrev asked : NoseShape → ℕ → Bool
asked shape M = marked (new_curve shape 3·0 0·0) (thousandths M)

-- the table of weight 0 counts: at 1/4 that of x^1/2, at K' = 3/4 the three-quarter parabola's beside the full one's, at C = 0 that of L-V Haack; and none does at or below its last Mach
pub by_hand :
    asked (PowerSeries 0·25) 1941 ∷ asked (PowerSeries 0·25) 1942 ∷ asked (PowerSeries 0·0) 3587 ∷ asked (PowerSeries 0·0) 3588 ∷
    asked (PowerSeries 1·0) 1967 ∷ asked (PowerSeries 1·0) 1968 ∷ asked (ParabolicSeries 1·0) 1968 ∷ asked (ParabolicSeries 1·0) 1969 ∷
    asked (Haack 0·0) 1977 ∷ asked (Haack 0·0) 1978 ∷ asked Elliptical 1100 ∷ asked Elliptical 3587 ∷ asked Elliptical 3588 ∷ asked Conical 9000 ∷ asked (Ogive 1·0) 9000 ∷ []
    ≡
    false ∷ true ∷ false ∷ true ∷
    false ∷ true ∷ false ∷ true ∷
    false ∷ true ∷ false ∷ false ∷ true ∷ false ∷ false ∷ []
unfolding curve_beyond ellipsoid_beyond beyond points new_curve build recorded power parabolic haack ogive cone_curve power_bracket parabolic_bracket between_references weight_of interpolated from_transonic
    ogive_pressure_drag_factor joint_pressure_drag_coefficient dimension between of_bits round sub add sum neg mul div lt le eq
by_hand = refl

-- ---- the tables that a shape's curve reads

-- by the test b, and by its answer
either_way : {P : Type 0} (b : Bool) → (b ≡ true → P) → (b ≡ false → P) → P
either_way true first other = first refl
either_way false first other = other refl

-- a parameter below 1/2 is below 3/4
half_facts : T (positive 0·5) × T (positive 0·75) × T (0·5 ≼ 0·75)
unfolding of_bits lt le
half_facts = (tt, tt, tt)

-- "least last Mach": by computing
pub least_last : (shape : NoseShape) → marked_above shape ≡ least (map last_mach (tables_read shape))
unfolding least points round lt
least_last Conical = refl
least_last (Ogive radius-ratio) = refl
least_last Elliptical = refl
least_last (PowerSeries n) =
    either_way (n ≺ 0·25) (λ a. rw a refl)
    (λ a. either_way (n ≺ 0·5) (λ b. rw (a, b, is_true _ (lt_through n 0·5 0·75 half_facts.0 half_facts.1 (true_t b) half_facts.2)) refl)
    (λ b. either_way (n ≺ 0·75) (λ c. rw (a, b, c) refl) (λ c. rw (a, b, c) refl)))
least_last (ParabolicSeries k) = either_way (k ≺ 0·5) (λ a. rw a refl) (λ a. either_way (k ≺ 0·75) (λ b. rw (a, b) refl) (λ b. rw (a, b) refl))
least_last (Haack c) = refl

-- the ellipsoid's table begins before it ends
ellipsoid_facts : T (positive (first_mach Ellipsoid)) × T (first_mach Ellipsoid ≼ last_mach Ellipsoid) × (beyond Ellipsoid (first_mach Ellipsoid) ≡ false)
unfolding beyond points round lt le
ellipsoid_facts = (tt, tt, refl)

-- ---- of any tables the one that ends first decides

limit_positive : T (positive 0·8)
unfolding round of_bits
limit_positive = tt

-- each table ends above Mach 0.8: by computing
all_late : T (every (λ nose. positive (last_mach nose) && 0·8 ≺ last_mach nose) noses)
unfolding points round of_bits lt
all_late = tt

ends_positive : (nose : StoneyNose) → T (positive (last_mach nose))
ends_positive nose = and_l (positive (last_mach nose)) (0·8 ≺ last_mach nose) (holds_at (λ nose. positive (last_mach nose) && 0·8 ≺ last_mach nose) all_late nose)

ends_late : (nose : StoneyNose) → T (0·8 ≺ last_mach nose)
ends_late nose = and_r (positive (last_mach nose)) (0·8 ≺ last_mach nose) (holds_at (λ nose. positive (last_mach nose) && 0·8 ≺ last_mach nose) all_late nose)

endless : (a : Float) → T (positive a) → T (a ≺ inf false)
unfolding lt
endless nan p = absurd p
endless (inf s) p = absurd p
endless (fin true m e) p = absurd p
endless (fin false m e) p = tt

-- above a positive number is above every positive one that isn't higher
above_lower : (a b M : Float) → T (positive a) → T (positive b) → T (a ≼ b) → T (b ≺ M) → T (a ≺ M)
above_lower a b M p q h k = go M (above_of_le b M q (lt_le b M k)) k
  where
    go : (w : Float) → T (above w) → T (b ≺ w) → T (a ≺ w)
    go nan r l = absurd r
    go (inf true) r l = absurd r
    go (inf false) r l = endless a p
    go (fin true n d) r l = absurd r
    go (fin false n d) r l =
        let w : Float = fin false n d in
        either_way (a ≺ w) (λ e. true_t e)
        (λ e. absurd (subst T (not_above w b (le_trans_positive w a b r p q (reaches w a r (positive-finite a p) e) h)) l))

or_lower : (x y : Bool) → (T y → T x) → (x || y) ≡ x
or_lower true y h = refl
or_lower false true h = absurd (h tt)
or_lower false false h = refl

or_higher : (x y : Bool) → (T x → T y) → (x || y) ≡ y
or_higher true true h = refl
or_higher true false h = absurd (h tt)
or_higher false y h = refl

abbrev Positive : Option Float → Type 0
Positive None = Unit {0}
Positive (Some m) = T (positive m)

least_positive : (noses : List StoneyNose) → Positive (least (map last_mach noses))
unfolding least
least_positive [] = tt
least_positive (nose ∷ rest) = by (least (map last_mach rest)) (least_positive rest)
  where
    by : (o : Option Float) → Positive o → Positive (lower_of (last_mach nose) o)
    by None h = ends_positive nose
    by (Some y) h = either_way (last_mach nose ≺ y) (λ e. rw e (ends_positive nose)) (λ e. rw e h)

module _ (M : Float) where
  lower_decides : (x : Float) (o : Option Float) → T (positive x) → Positive o → ((x ≺ M) || is_above o M) ≡ is_above (lower_of x o) M
  lower_decides x None p h = or-false (x ≺ M)
  lower_decides x (Some y) p h =
      either_way (x ≺ y)
      (λ e. rw e (or_lower (x ≺ M) (y ≺ M) (above_lower x y M p h (lt_le x y (true_t e)))))
      (λ e. rw e (or_higher (x ≺ M) (y ≺ M) (above_lower y x M h p (reaches y x h (positive-finite x p) e))))

  -- any of these tables is left above their least last Mach
  any_left : (noses : List StoneyNose) → any_beyond noses M ≡ is_above (least (map last_mach noses)) M
  unfolding least beyond
  any_left [] = refl
  any_left (nose ∷ rest) = ap (λ (b : Bool). last_mach nose ≺ M || b) (any_left rest) ∙ lower_decides (last_mach nose) (least (map last_mach rest)) (ends_positive nose) (least_positive rest)

  -- below Mach 0.8 none is
  none_left : (noses : List StoneyNose) → T (M ≺ 0·8) → any_beyond noses M ≡ false
  unfolding beyond
  none_left [] h = refl
  none_left (nose ∷ rest) h = rw (not_above M (last_mach nose) (lt_le M (last_mach nose) (lt_through M 0·8 (last_mach nose) limit_positive (ends_positive nose) h (lt_le 0·8 (last_mach nose) (ends_late nose))))) (none_left rest h)

  from_limit : (noses : List StoneyNose) → cond (M ≺ 0·8) false (any_beyond noses M) ≡ any_beyond noses M
  from_limit noses = either_way (M ≺ 0·8) (λ e. rw e (sym (none_left noses (true_t e)))) (λ e. rw e refl)

  -- ---- and they are the tables that a method reads

  abbrev both_beyond : Bracket → Bool
  both_beyond b = reference_beyond b.lower M || reference_beyond b.upper M

  power_reads : (n : Float) → both_beyond (power_bracket n) ≡ any_beyond (tables_read (PowerSeries n)) M
  unfolding power_bracket
  power_reads n =
      either_way (n ≺ 0·25) (λ a. rw a (sym (or-false (beyond PowerQuarter M))))
      (λ a. either_way (n ≺ 0·5) (λ b. rw (a, b, or-false (beyond PowerHalf M)) refl)
      (λ b. either_way (n ≺ 0·75) (λ c. rw (a, b, c, or-false (beyond PowerThreeQuarters M)) refl) (λ c. rw (a, b, c) refl)))

  parabolic_reads : (k : Float) → both_beyond (parabolic_bracket k) ≡ any_beyond (tables_read (ParabolicSeries k)) M
  unfolding parabolic_bracket
  parabolic_reads k =
      either_way (k ≺ 0·5) (λ a. rw a (sym (or-false (beyond ParabolaHalf M))))
      (λ a. either_way (k ≺ 0·75) (λ b. rw (a, b, or-false (beyond ParabolaThreeQuarters M)) refl) (λ b. rw (a, b, or-false (beyond Parabola M)) refl))

  haack_reads : (c : Float) → (beyond VonKarman M || beyond LvHaack M) ≡ any_beyond (tables_read (Haack c)) M
  haack_reads c = rw (or-false (beyond LvHaack M)) refl

  -- what isn't at its first point yet isn't beyond its last
  before_first : (first_mach Ellipsoid ≼ M) ≡ false → any_beyond (Ellipsoid ∷ []) M ≡ false
  unfolding beyond
  before_first e =
      either_way (last_mach Ellipsoid ≺ M)
      (λ l. absurd (subst T e (lt_le (first_mach Ellipsoid) M (above_lower (first_mach Ellipsoid) (last_mach Ellipsoid) M ellipsoid_facts.0 (ends_positive Ellipsoid) ellipsoid_facts.1 (true_t l)))))
      (λ l. rw l refl)

  from_first : cond (first_mach Ellipsoid ≼ M) (beyond Ellipsoid M) (beyond Ellipsoid (first_mach Ellipsoid)) ≡ any_beyond (Ellipsoid ∷ []) M
  from_first = either_way (first_mach Ellipsoid ≼ M) (λ e. rw e (sym (or-false (beyond Ellipsoid M)))) (λ e. rw (e, ellipsoid_facts.2) (sym (before_first e)))

  ellipsoid_reads : ellipsoid_beyond M ≡ any_beyond (tables_read Elliptical) M
  unfolding ellipsoid_beyond
  ellipsoid_reads = ap (λ (b : Bool). cond (M ≺ 0·8) false b) from_first ∙ from_limit (Ellipsoid ∷ [])

-- ---- every curve

-- a method that reads no table is never marked
never : (curve : PressureDragCurve) (M : Float) → method_beyond curve.transonic M ≡ false → curve_beyond curve M ≡ false
unfolding curve_beyond
never curve M h = rw h (by (M ≺ curve.mach_low))
  where
    by : (b : Bool) → cond b false false ≡ false
    by true = refl
    by false = refl

pub step_never : (M : Float) → curve_beyond step_curve M ≡ false
unfolding step_curve from_transonic
step_never M = never step_curve M refl

-- "fineness 0 then gives the step whatever the shape parameter is"
pub flat_never : (shape : NoseShape) (f φ : Float) (curve : PressureDragCurve) (M : Float) → new_curve shape f φ ≡ Ok curve → (f ≈ 0·0) ≡ true → curve_beyond curve M ≡ false
unfolding step_curve from_transonic
flat_never shape f φ curve M e z =
    let m = made shape f φ curve e in
    let step : step_curve ≡ m.inner = ap built (rw z at m.own) in
    let method : curve.transonic ≡ Transonic.Blunt = (made_same m).method ∙ ap (λ (c : PressureDragCurve). c.transonic) (sym step) in
    never curve M (ap (λ (t : Transonic). method_beyond t M) method)

cone_never : (rest f factor M : Float) → method_beyond (cone_curve rest f factor).transonic M ≡ false
unfolding cone_curve from_transonic
cone_never rest f factor M = by (1·0 ≼ f)
  where
    by : (b : Bool) → method_beyond (cond b (from_transonic rest (Transonic.Cone (sin_half_angle f) factor) 1·0) (from_transonic rest (Transonic.Scaled Reference.Blunt (Reference.Cone 1·0 factor rest) 1·0 (LN (f ⊕ 1·0) ⊘ ln_2)) 0·0)).transonic M ≡ false
    by true = refl
    by false = refl

-- the ogive's cone, where its radius ratio is taken
ogive_never : (rest f radius-ratio : Float) (curve : PressureDragCurve) (M : Float) → ogive rest f radius-ratio ≡ Ok curve → method_beyond curve.transonic M ≡ false
unfolding ogive
ogive_never rest f radius-ratio curve M e = by (finite radius-ratio && 1·0 ≼ radius-ratio) (ogive_pressure_drag_factor (1·0 ⊘ radius-ratio)) e
  where
    by : (b : Bool) (factor : Coefficient) → cond b (factor for_value λ x. Ok (cone_curve rest f x)) (Err (Broken OgiveRadiusRatio)) ≡ Ok curve → method_beyond curve.transonic M ≡ false
    by true (Ok x) e = subst (λ (c : Curve). method_beyond (built c).transonic M ≡ false) e (cone_never rest f x M)
    by true (Err r) e = none_built e
    by false factor e = none_built e

module _ (shape : NoseShape) (f φ : Float) (curve : PressureDragCurve) (e : new_curve shape f φ ≡ Ok curve) (n : (f ≈ 0·0) ≡ false) where
  -- a curve whose own method reads no table
  without_table : (M : Float) → ((rest : Float) (inner : PressureDragCurve) → shaped shape f rest ≡ Ok inner → method_beyond inner.transonic M ≡ false) → curve_beyond curve M ≡ false
  without_table M none =
      let m = made shape f φ curve e in
      never curve M (ap (λ (t : Transonic). method_beyond t M) (made_same m).method ∙ none m.rest m.inner (own_shape m n))

  -- a curve between two references that are these tables, or read none
  between_tables : {lower upper : Reference} {weight : Float} → Between shape lower upper weight → (M : Float)
      → (reference_beyond lower M || reference_beyond upper M) ≡ any_beyond (tables_read shape) M → curve_beyond curve M ≡ any_beyond (tables_read shape) M
  unfolding curve_beyond
  between_tables b M h = rw (between_low b f φ curve e n, between_method b f φ curve e n, h) (from_limit M (tables_read shape))

-- "if any table that the Rust reads for it at that Mach did": every curve of a nose that has a length is marked where a table of its shape is left. Below M_L, where none is
-- read, none is left either
pub tables_where : (shape : NoseShape) (f φ : Float) (curve : PressureDragCurve) (M : Float) → new_curve shape f φ ≡ Ok curve → (f ≈ 0·0) ≡ false → mach_checked M ≡ Ok tt
    → curve_beyond curve M ≡ any_beyond (tables_read shape) M
unfolding curve_beyond from_transonic
tables_where Conical f φ curve M e n ok = without_table Conical f φ curve e n M (λ rest inner own. subst (λ (c : Curve). method_beyond (built c).transonic M ≡ false) own (cone_never rest f 1·0 M))
tables_where (Ogive radius-ratio) f φ curve M e n ok = without_table (Ogive radius-ratio) f φ curve e n M (λ rest inner own. ogive_never rest f radius-ratio inner M own)
tables_where Elliptical f φ curve M e n ok =
    let m = made Elliptical f φ curve e in
    let own : m.inner ≡ from_transonic m.rest (Transonic.Ellipsoid f m.rest) 0·0 = ap built (sym (own_shape m n)) in
    let low : curve.mach_low ≡ 0·0 = (made_same m).low ∙ ap (λ (c : PressureDragCurve). c.mach_low) own in
    let method : curve.transonic ≡ Transonic.Ellipsoid f m.rest = (made_same m).method ∙ ap (λ (c : PressureDragCurve). c.transonic) own in
    rw (low, method, not_above 0·0 M (mach_passed M ok).not_negative) (ellipsoid_reads M)
tables_where (PowerSeries x) f φ curve M e n ok = between_tables (PowerSeries x) f φ curve e n (power_between x) M (power_reads M x)
tables_where (ParabolicSeries k) f φ curve M e n ok = between_tables (ParabolicSeries k) f φ curve e n (parabolic_between k) M (parabolic_reads M k)
tables_where (Haack c) f φ curve M e n ok = between_tables (Haack c) f φ curve e n (haack_between c) M (haack_reads M c)

-- "a computed table": exactly above this Mach
pub marked_where : (shape : NoseShape) (f φ : Float) (curve : PressureDragCurve) (M : Float) → new_curve shape f φ ≡ Ok curve → (f ≈ 0·0) ≡ false → mach_checked M ≡ Ok tt
    → curve_beyond curve M ≡ is_above (marked_above shape) M
marked_where shape f φ curve M e n ok = tables_where shape f φ curve M e n ok ∙ any_left M (tables_read shape) ∙ ap (λ (o : Option Float). is_above o M) (sym (least_last shape))

-- ---- the mark is beside the value and changes none

-- a curve's answer at every Mach number that it takes: its coefficient, and the mark
pub answer_at : (curve : PressureDragCurve) (M : Float) → mach_checked M ≡ Ok tt → drag_of curve M ≡ Ok (record { value = (curve_at curve M).value; beyond = curve_beyond curve M })
unfolding drag_of
answer_at curve M ok = rw (curve_answered curve M ok)
