-- Where the tests of a sheet pass, the formulas of friction (proofs/Answered.antt), base and boattail give a number: an accepted sheet leaves them nothing to refuse.
use Rattle.std.specs.Prelude.{◌≡◌, refl, Bool, true, false, ◌&&◌, ◌||◌, ℕ, ◌*◌, T, eqb, pos, Float, Ok}
use Rattle.std.proofs.Common.{sym, ap, subst, eqb→eq}
use Rattle.std.specs.Bool.{beq}
use Rattle.std.proofs.lemmas.Bool.{false≢true}
use Rattle.std.specs.Float.{nan, inf, fin}
use Rattle.std.specs.Float.Ieee.{up, down, lt, le, eq, level, neg, of_bits}
use Rattle.std.specs.Float.Ieee.Scale.{finite}
use Rattle.std.specs.Float.Ieee.Fits.{and_l, and_r}
use Rattle.elementary.specs.Arithmetic.{◌⊕◌, ◌⊖◌, ◌⊗◌, ◌⊘◌, ◌≺◌, ◌≼◌, ◌≈◌}
use Rattle.elementary.specs.Steps.{POW}
use Rattle.elementary.specs.Tests.{between}
use Rattle.elementary.specs.Constants.{0·0, 0·5, 1·0}
use Rattle.aero_error.specs.declared.Quantity.TheVariants.{Mach, BodyFineness}
use Rattle.aero_error.specs.Checks.{Check, required, dimension, ◌and_then◌}
use Rattle.aero_error.specs.CheckLaws.{required_passed}
use Rattle.drag.specs.Constants.{51·0, 1·039, low_reynolds}
use Rattle.drag.specs.Friction.{mach_checked, body_friction_form_factor}
use Rattle.drag.specs.Pressure.{base_drag, base_drag_coefficient, boattail_share, boattail_factor}

-- ---- from 0 to a bound

both : (a b : Bool) → (a && b) ≡ true → (a ≡ true) × (b ≡ true)
both true b h = (refl, h)
both false b h = absurd (false≢true h)

either : (a b c : Bool) → (b ≡ true → c ≡ true) → (a || b) ≡ true → (a || c) ≡ true
either true b c f h = refl
either false b c f h = f h

signs : (s t : Bool) → beq s t ≡ beq t s
signs true true = refl
signs true false = refl
signs false true = refl
signs false false = refl

level_back : (s t : Bool) (a b : ℕ) → level s a t b ≡ true → level t b s a ≡ true
level_back s t a b h =
    let p = both (eqb a b) (beq s t || eqb a 0) h in
    let e : a ≡ b = eqb→eq a b (subst T (sym p.0) tt) in
    let own : eqb a a ≡ true = subst (λ (n : ℕ). eqb a n ≡ true) (sym e) p.0 in
    subst (λ (n : ℕ). level t n s a ≡ true) e (rw (own, signs t s) p.1)

-- whoever is equal to 0 has 0 equal to it
zero_back : (x : Float) → (0·0 ≈ x) ≡ true → (x ≈ 0·0) ≡ true
unfolding of_bits eq
zero_back nan h = absurd (false≢true h)
zero_back (inf s) h = absurd (false≢true h)
zero_back (fin s m e) h = level_back false s (0 * up (pos 0) * down e) (m * up e * down (pos 0)) h

bounded : (x high : Float) → finite high ≡ true → between 0·0 x high ≡ true → finite x ≡ true
unfolding between of_bits lt le eq
bounded nan high f h = absurd (false≢true h)
bounded (inf true) high f h = absurd (false≢true h)
bounded (inf false) nan f h = absurd (false≢true f)
bounded (inf false) (inf t) f h = absurd (false≢true f)
bounded (inf false) (fin t n d) f h = absurd (false≢true h)
bounded (fin s m e) high f h = refl

-- from 0 of either sign to a finite number: what the formulas ask of a length and of a roughness
pub in_interval_lem : (x high : Float) → finite high ≡ true → between 0·0 x high ≡ true → dimension x true ≡ true
unfolding dimension between le
in_interval_lem x high f h = rw (bounded x high f h) (either (0·0 ≺ x) (0·0 ≈ x) (x ≈ 0·0) (zero_back x) (both (0·0 ≼ x) (x ≼ high) h).0)

pub one_finite : finite 1·0 ≡ true
unfolding of_bits
one_finite = refl

-- ---- a Mach number that passed its test

pub record MachPassed (M : Float) : Type 0 where
  pub is_finite : T (finite M)
  pub not_negative : T (0·0 ≼ M)

pub mach_passed : (M : Float) → mach_checked M ≡ Ok tt → MachPassed M
unfolding mach_checked
mach_passed M h =
    let t : T (finite M && 0·0 ≼ M) = subst T (sym (required_passed (finite M && 0·0 ≼ M) Mach M h)) tt in
    record { is_finite = and_l (finite M) (0·0 ≼ M) t; not_negative = and_r (finite M) (0·0 ≼ M) t }

-- ---- friction

-- the roughness limits the friction from Reynolds 10000 and from the critical number on
abbrev pub limits : Float → Float → Bool
limits k R = low_reynolds ≼ R && 51·0 ⊗ POW k (neg 1·039) ≼ R

pub form_answered : (B : Float) → dimension B false ≡ true → body_friction_form_factor B ≡ Ok (1·0 ⊕ 0·5 ⊘ B)
unfolding body_friction_form_factor
form_answered B h = ap (λ (ok : Bool). required ok BodyFineness B and_then Ok (1·0 ⊕ 0·5 ⊘ B)) h

-- ---- base and boattail

pub base_answered : (M : Float) → mach_checked M ≡ Ok tt → base_drag_coefficient M ≡ Ok (base_drag M)
unfolding base_drag_coefficient
base_answered M h = ap (λ (check : Check). check and_then Ok (base_drag M)) h

-- a length and two diameters from 0 to a bound, the second diameter the smaller one
pub boattail_answered : (l f d high : Float) → finite high ≡ true → between 0·0 l high ≡ true → between 0·0 f high ≡ true → between 0·0 d high ≡ true → (d ≺ f) ≡ true
    → boattail_factor l f d ≡ Ok (boattail_share (l ⊘ (f ⊖ d)))
unfolding boattail_factor
boattail_answered l f d high h a b c narrows = rw (in_interval_lem l high h a, in_interval_lem d high h c, bounded f high h b, narrows)
