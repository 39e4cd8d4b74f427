-- A range test, then refusal 1 with a code and the value (error.rs), tests one after another, and how a formula goes on after a test or after
-- another formula: Rust's `?`.
use Rattle.std.specs.Prelude.{Bool, true, false, ◌&&◌, ◌||◌, ℕ, zero, suc, Float, Result, Ok, Err}
use Rattle.std.specs.Float.Ieee.Scale.{finite}
use Rattle.elementary.specs.Arithmetic.{◌≺◌, ◌≈◌, bits}
use Rattle.aero_error.specs.declared.Quantity.{Quantity}
use Rattle.aero_error.specs.declared.AeroError.{AeroError}
use Rattle.aero_error.specs.declared.AeroError.TheVariants.{Domain, Broken}
use Rattle.aero_error.specs.declared.Rule.{Rule}

infixr 20 ◌then◌ ◌and_then◌ ◌for_value◌
-- the answer of a test, and of a call on a sheet
abbrev pub Check : Type 0
Check = Result (Unit {0}) AeroError

-- the answer of a formula
abbrev pub Coefficient : Type 0
Coefficient = Result Float AeroError

-- the one form of a range test: it passes, or it is refusal 1 with what was tested
abbrev pub required : Bool → Quantity → Float → Check
required true what value = Ok tt
required false what value = Err (Domain what value)

-- "Zero of either sign passes where zero is allowed": `≈` does not tell -0 from +0.
unfoldable pub dimension : Float → Bool → Bool
dimension value allow-zero = finite value && (bits 0 ≺ value || (allow-zero && value ≈ bits 0))

-- one test after another: the first that fails is the answer
abbrev pub ◌then◌ : Check → Check → Check
Ok _ then next = next
Err refusal then next = Err refusal

-- a rule's refusal where it is broken
abbrev pub unless : Bool → Rule → Check
unless true rule = Err (Broken rule)
unless false rule = Ok tt

-- tests 0, 1, .. one after another, n of them
unfoldable pub up_to : ℕ → (ℕ → Check) → Check
up_to zero test = Ok tt
up_to (suc n) test = up_to n test then test n

-- Rust's `?` for an answer of any type, with what it is where the check fails
abbrev pub after : {A : Type 0} → (AeroError → A) → Check → A → A
after refused (Ok _) answer = answer
after refused (Err refusal) answer = refused refusal

-- `check?; answer`
abbrev pub ◌and_then◌ : {A : Type 0} → Check → Result A AeroError → Result A AeroError
Ok _ and_then answer = answer
Err refusal and_then answer = Err refusal

-- `let value = first?; rest(value)`
abbrev pub ◌for_value◌ : {A B : Type 0} → Result A AeroError → (A → Result B AeroError) → Result B AeroError
Ok value for_value rest = rest value
Err refusal for_value rest = Err refusal
