-- Refusals (docs/REFERENCE.md, Refusals and Codes): the number of each refusal, and the code and the value that refusal 1 adds.
-- Each case of the enums is named here once; later promises speak of a refusal through these definitions.
use Rattle.std.specs.Prelude.{◌≡◌, ◌⊎◌, ℕ, ◌<◌, Float, Result, MatchResult}
use Rattle.std.proofs.Common.{arith}
use Rattle.elementary.specs.Arithmetic.{bits}
use Rattle.aero_error.specs.declared.Quantity.{Quantity}
use Rattle.aero_error.specs.declared.Quantity.TheVariants.{Mach, Fineness, JointAngle, PowerExponent, ParabolicParameter, HaackParameter, EllipsoidFineness, EllipsoidMach, OgiveKappa, FinenessThreeDrag, BluntDrag, TransonicLowerBound, DragAtRest, DragAtLowerBound, SlopeAtLowerBound, MachBelowLowerBound, Reynolds, Roughness, BodyFineness, BoattailLength, BoattailAft, BoattailFore}
use Rattle.aero_error.specs.declared.NoSuchQuantity.{NoSuchQuantity}
use Rattle.aero_error.specs.declared.AeroError.{AeroError}
use Rattle.aero_error.specs.declared.AeroError.TheVariants.{Domain, Broken}
use Rattle.aero_error.specs.declared.Rule.{Rule}
use Rattle.aero_error.specs.declared.Rule.TheVariants.{OgiveRadiusRatio, HaackAboveThird, CardEnds, ReservedBit, FieldMissing, TooManyColumns, NoSuchPlace, DesignFull, TooFewCells, OutsideInterval, FallingMach, FinishCount}

-- "Codes of 1, each for the Rust `what`"
abbrev pub code_of_quantity : Quantity → ℕ
code_of_quantity Mach = 1
code_of_quantity Fineness = 2
code_of_quantity JointAngle = 3
code_of_quantity PowerExponent = 4
code_of_quantity ParabolicParameter = 5
code_of_quantity HaackParameter = 6
code_of_quantity EllipsoidFineness = 7
code_of_quantity EllipsoidMach = 8
code_of_quantity OgiveKappa = 9
code_of_quantity FinenessThreeDrag = 10
code_of_quantity BluntDrag = 11
code_of_quantity TransonicLowerBound = 12
code_of_quantity DragAtRest = 13
code_of_quantity DragAtLowerBound = 14
code_of_quantity SlopeAtLowerBound = 15
code_of_quantity MachBelowLowerBound = 16
code_of_quantity Reynolds = 17
code_of_quantity Roughness = 18
code_of_quantity BodyFineness = 19
code_of_quantity BoattailLength = 20
code_of_quantity BoattailAft = 21
code_of_quantity BoattailFore = 22

-- the quantity of a code, or the code where it has none
abbrev pub Coded : ℕ → Result Quantity NoSuchQuantity → Type 0
Coded code r = MatchResult r (λ what. code_of_quantity what ≡ code) (λ e. (e.0 ≡ code) × ((code ≡ 0) ⊎ (22 < code)))

-- the table's column N from 2 on
abbrev pub number_of_rule : Rule → ℕ
number_of_rule OgiveRadiusRatio = 2
number_of_rule HaackAboveThird = 3
number_of_rule CardEnds = 4
number_of_rule ReservedBit = 5
number_of_rule FieldMissing = 6
number_of_rule TooManyColumns = 7
number_of_rule NoSuchPlace = 8
number_of_rule DesignFull = 9
number_of_rule TooFewCells = 10
number_of_rule OutsideInterval = 11
number_of_rule FallingMach = 16
number_of_rule FinishCount = 19

-- "1: `Domain`; adds a code and the value". Any other refusal adds neither, here code 0 and value +0.
abbrev pub number_of : AeroError → ℕ
number_of (Domain what value) = 1
number_of (Broken rule) = number_of_rule rule

abbrev pub code_of : AeroError → ℕ
code_of (Domain what value) = code_of_quantity what
code_of (Broken rule) = 0

abbrev pub refused_value : AeroError → Float
refused_value (Domain what value) = value
refused_value (Broken rule) = bits 0

-- no number has more than two digits
rule_small : (rule : Rule) → number_of_rule rule < 100
rule_small OgiveRadiusRatio = omega arith
rule_small HaackAboveThird = omega arith
rule_small CardEnds = omega arith
rule_small ReservedBit = omega arith
rule_small FieldMissing = omega arith
rule_small TooManyColumns = omega arith
rule_small NoSuchPlace = omega arith
rule_small DesignFull = omega arith
rule_small TooFewCells = omega arith
rule_small OutsideInterval = omega arith
rule_small FallingMach = omega arith
rule_small FinishCount = omega arith

pub number_small : (e : AeroError) → number_of e < 100
number_small (Domain what value) = omega arith
number_small (Broken rule) = rule_small rule
