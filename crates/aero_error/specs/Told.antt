-- What an answer says in the words of docs/REFERENCE.md, Refusals: nothing where it is accepted, else the refusal's number, and the code and the value that 1
-- adds. `told_apart` shows that no two outcomes say the same.
use Rattle.std.specs.Prelude.{Ok, Err}
use Rattle.aero_error.specs.Checks.{Check, Coefficient}
use Rattle.std.specs.Prelude.{◌≡◌, refl, cond, List, [], ◌∷◌, map, ℕ, ◌-◌, eqb, get_or, Float}
use Rattle.std.proofs.Common.{sym, ap, ◌∙◌}
use Rattle.std.proofs.Math.Option.{Option, none, some}
use Rattle.aero_error.specs.declared.Quantity.{Quantity}
use Rattle.aero_error.specs.declared.Quantity.TheVariants.{Mach, Fineness, JointAngle, PowerExponent, ParabolicParameter, HaackParameter, EllipsoidFineness, EllipsoidMach, OgiveKappa, FinenessThreeDrag, BluntDrag, TransonicLowerBound, DragAtRest, DragAtLowerBound, SlopeAtLowerBound, MachBelowLowerBound, Reynolds, Roughness, BodyFineness, BoattailLength, BoattailAft, BoattailFore}
use Rattle.aero_error.specs.declared.AeroError.{AeroError}
use Rattle.aero_error.specs.declared.AeroError.TheVariants.{Domain, Broken}
use Rattle.aero_error.specs.declared.Rule.{Rule}
use Rattle.aero_error.specs.declared.Rule.TheVariants.{OgiveRadiusRatio, HaackAboveThird, CardEnds, ReservedBit, FieldMissing, TooManyColumns, NoSuchPlace, DesignFull, TooFewCells, OutsideInterval, FallingMach, FinishCount}
use Rattle.aero_error.specs.Refusals.{number_of, number_of_rule, code_of, refused_value, code_of_quantity}

pub record Told : Type 0 where
  pub number : ℕ
  pub code : ℕ
  pub value : Float

abbrev pub told_of : AeroError → Told
told_of e = record { number = number_of e; code = code_of e; value = refused_value e }

-- a call's or a test's outcome
abbrev pub told : Check → Option Told
told (Ok _) = none
told (Err e) = some (told_of e)

-- a formula's answer
abbrev pub told_of_coefficient : Coefficient → Option Told
told_of_coefficient (Ok v) = none
told_of_coefficient (Err e) = some (told_of e)

-- ---- no two outcomes say the same: from what was told the outcome comes back

-- in the order of the codes, from 1 on
abbrev quantities : List Quantity
quantities =
    Mach ∷ Fineness ∷ JointAngle ∷ PowerExponent ∷ ParabolicParameter ∷ HaackParameter ∷ EllipsoidFineness ∷ EllipsoidMach ∷ OgiveKappa ∷
    FinenessThreeDrag ∷ BluntDrag ∷ TransonicLowerBound ∷ DragAtRest ∷ DragAtLowerBound ∷ SlopeAtLowerBound ∷ MachBelowLowerBound ∷ Reynolds ∷
    Roughness ∷ BodyFineness ∷ BoattailLength ∷ BoattailAft ∷ BoattailFore ∷ []

abbrev quantity_of : ℕ → Quantity
quantity_of code = get_or quantities (code - 1) Mach

quantity_back : (what : Quantity) → quantity_of (code_of_quantity what) ≡ what
quantity_back Mach = refl
quantity_back Fineness = refl
quantity_back JointAngle = refl
quantity_back PowerExponent = refl
quantity_back ParabolicParameter = refl
quantity_back HaackParameter = refl
quantity_back EllipsoidFineness = refl
quantity_back EllipsoidMach = refl
quantity_back OgiveKappa = refl
quantity_back FinenessThreeDrag = refl
quantity_back BluntDrag = refl
quantity_back TransonicLowerBound = refl
quantity_back DragAtRest = refl
quantity_back DragAtLowerBound = refl
quantity_back SlopeAtLowerBound = refl
quantity_back MachBelowLowerBound = refl
quantity_back Reynolds = refl
quantity_back Roughness = refl
quantity_back BodyFineness = refl
quantity_back BoattailLength = refl
quantity_back BoattailAft = refl
quantity_back BoattailFore = refl

abbrev rules : List Rule
rules =
    OgiveRadiusRatio ∷ HaackAboveThird ∷ CardEnds ∷ ReservedBit ∷ FieldMissing ∷ TooManyColumns ∷ NoSuchPlace ∷ DesignFull ∷ TooFewCells ∷
    OutsideInterval ∷ FallingMach ∷ FinishCount ∷ []

-- the rule that has a number
abbrev rule_of : ℕ → List Rule → Rule
rule_of n [] = OgiveRadiusRatio
rule_of n (rule ∷ rest) = cond (eqb (number_of_rule rule) n) rule (rule_of n rest)

abbrev error_of : Told → AeroError
error_of t = cond (eqb t.number 1) (Domain (quantity_of t.code) t.value) (Broken (rule_of t.number rules))

rule_back : (rule : Rule) → error_of (told_of (Broken rule)) ≡ Broken rule
rule_back OgiveRadiusRatio = refl
rule_back HaackAboveThird = refl
rule_back CardEnds = refl
rule_back ReservedBit = refl
rule_back FieldMissing = refl
rule_back TooManyColumns = refl
rule_back NoSuchPlace = refl
rule_back DesignFull = refl
rule_back TooFewCells = refl
rule_back OutsideInterval = refl
rule_back FallingMach = refl
rule_back FinishCount = refl

error_back : (e : AeroError) → error_of (told_of e) ≡ e
error_back (Domain what value) = ap (λ (q : Quantity). Domain q value) (quantity_back what)
error_back (Broken rule) = rule_back rule

abbrev check_of : Option Told → Check
check_of none = Ok tt
check_of (some t) = Err (error_of t)

check_back : (c : Check) → check_of (told c) ≡ c
check_back (Ok _) = refl
check_back (Err e) = ap Err (error_back e)

pub told_apart : (a b : Check) → told a ≡ told b → a ≡ b
told_apart a b e = sym (check_back a) ∙ ap check_of e ∙ check_back b

pub all_told_apart : (cs ds : List Check) → map told cs ≡ map told ds → cs ≡ ds
all_told_apart cs ds e = sym (all_back cs) ∙ ap (map check_of) e ∙ all_back ds
  where
    all_back : (cs : List Check) → map check_of (map told cs) ≡ cs
    all_back [] = refl
    all_back (c ∷ cs) = rw (check_back c, all_back cs)
