-- What a function that fills cells says, from what it found: a refusal, or all of them.
use Rattle.std.specs.Prelude.{Ok, Err, Result}
use Rattle.aero_error.specs.Checks.{Check}
use mathlib.Core.Path.{◌≡◌, sym, ◌∙◌}
use mathlib.Core.List.{List}
use Prim.Native.Nat.{ℕ}
use native.Mathlib.Omega.{arith}
use Rattle.aero_error.specs.declared.AeroError.{AeroError}
use Rattle.drag_sheet.specs.Writing.{Filled, chosen}

-- no answer is both refused and given
pub never : {A B E : Type 0} {r : Result A E} {e : E} {x : A} → r ≡ Err e → r ≡ Ok x → B
never h p = let z : ◌≡◌ {A = ℕ} 0 1 = cc in absurd (omega arith)

pub filled_refused : {A : Type 0} {test r : Check} {e : AeroError} {cells out : List A} → test ≡ Err e → r ≡ Err e → Filled test cells r out
filled_refused h k = record { verdict = k ∙ sym h; made = λ p. never h p }

pub filled_passed : {A : Type 0} {test : Check} {cells out : List A} → test ≡ Ok tt → out ≡ cells → Filled test cells (Ok tt) out
filled_passed h e = record { verdict = sym h; made = λ p. e }

pub filled_same : {A : Type 0} {test other r : Check} {cells others out : List A} → test ≡ other → cells ≡ others → Filled test cells r out → Filled other others r out
filled_same p q f = record { verdict = f.verdict ∙ p; made = λ e. f.made (p ∙ e) ∙ q }

pub chosen_passed : {A : Type 0} {test : Check} (given left : A) → test ≡ Ok tt → left ≡ chosen test given left
chosen_passed given left h = rw h
