-- `elementary::split::split` meets its contract: each answer is what `split_class` says of the bits in the class that `classify` named.
use mathlib.Core.Path.{◌≡◌, sym, ap, ◌∙◌, subst}
use mathlib.Core.Bool.{Bool}
use Prim.Native.Nat.{ℕ, ◌+◌, ◌^◌}
use native.Mathlib.Omega.{arith}
use lib.Ieee.{Float, binary64, size, to_bits}
use Rattle.elementary.specs.declared.class.FloatClass.{FloatClass}
use Rattle.elementary.specs.declared.class.FloatClass.TheVariants.{Zero, Subnormal, Normal, Infinity, NaN}
use Rattle.elementary.specs.Classes.{InClass, split_class}
use Rattle.elementary.specs.declared.split.Parts.TheVariants as parts-of
use Rattle.elementary.specs.Split.{normalised, finite_parts, split_of}
use Rattle.elementary.proofs.Bits.{split_class_lem, room, Room}
use Rattle.elementary.proofs.Classes.{field_narrow}
use Rattle.elementary.proofs.Floats.{only_nan, true_t}
use Rattle.elementary.proofs.split.split.Goals as goal
use Rattle.elementary.proofs.split.split.Goals.{After-classify, In-Subnormal}

-- a NaN has no bits to ask for
pub returns-then-is_nan : goal.returns-then-is_nan
unfolding split_of
returns-then-is_nan c = rw (only_nan c.args.x (sym c.is_nan.ensures.value ∙ c.if-is_nan.true))

-- the class that was named holds of the bits, and the split is that class's
holds : (x : Float) (r k : FloatClass) → InClass r (to_bits binary64 x) → r ≡ k → InClass k (to_bits binary64 x)
holds x r k h named = subst (λ (k : FloatClass). InClass k (to_bits binary64 x)) named h

parts : (c : After-classify) (k : FloatClass) → c.classify.result ≡ k → split_of c.args.x ≡ split_class k (to_bits binary64 c.args.x)
parts c k named = split_class_lem c.args.x (true_t c.well_formed.0.1) k (holds c.args.x _ k c.classify.ensures named)

finite : {s s' : Bool} {g g' d d' : ℕ} → s ≡ s' → g ≡ g' → d ≡ d' → finite_parts s g d ≡ finite_parts s' g' d'
finite p q r = rw (p, q, r)

pub returns-in-Zero : goal.returns-in-Zero
returns-in-Zero c = ap parts-of.Zero c.sign_bit-negative.ensures ∙ sym (parts (goal.at.returns-in-Zero c).After-classify Zero c.in-Zero.is)

field_room : (c : In-Subnormal) → Room c.significand_field-field.result
field_room c =
    subst Room (sym c.significand_field-field.ensures) (room _ (holds c.args.x _ Subnormal c.classify.ensures c.in-Subnormal.is).1 (field_narrow _))

pub overflow_sub-shift : goal.overflow_sub-shift
overflow_sub-shift c = let r = field_room (goal.at.overflow_sub-shift c).In-Subnormal in omega arith

pub invariant_of-result : goal.invariant_of-result
invariant_of-result c = let r = field_room (goal.at.invariant_of-result c).In-Subnormal in rw (r.kept, r.digits) r.taken

pub returns-in-Subnormal : goal.returns-in-Subnormal
returns-in-Subnormal c =
    let r = field_room (goal.at.returns-in-Subnormal c).In-Subnormal in
    let t = c.significand_field-field.ensures in
    finite c.sign_bit-negative.ensures (r.kept ∙ ap (λ (t : ℕ). normalised t (size t)) t) (r.digits ∙ ap size t) ∙ sym (parts (goal.at.returns-in-Subnormal c).After-classify Subnormal c.in-Subnormal.is)

pub returns-in-Normal : goal.returns-in-Normal
returns-in-Normal c =
    finite c.sign_bit-negative.ensures (ap (λ (t : ℕ). 2 ^ 52 + t) c.significand_field-field.ensures) (ap (λ (f : ℕ). f + 52) c.exponent_field.ensures)
    ∙ sym (parts (goal.at.returns-in-Normal c).After-classify Normal c.in-Normal.is)

pub returns-in-Infinity : goal.returns-in-Infinity
returns-in-Infinity c = ap parts-of.Infinite c.sign_bit-negative.ensures ∙ sym (parts (goal.at.returns-in-Infinity c).After-classify Infinity c.in-Infinity.is)

pub returns-in-NaN : goal.returns-in-NaN
returns-in-NaN c = sym (parts (goal.at.returns-in-NaN c).After-classify NaN c.in-NaN.is)
