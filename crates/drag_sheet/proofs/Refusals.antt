-- Tests one after another, taken apart by which of them refuses.
use Rattle.std.specs.Prelude.{Ok, Err}
use Rattle.aero_error.specs.Checks.{◌then◌, unless, up_to, Check}
use mathlib.Core.Path.{◌≡◌, refl}
use mathlib.Core.Logic.{◌⊎◌, inl, inr, ⊎_elim}
use mathlib.Core.Bool.{Bool, true, false}
use Prim.Native.Nat.{ℕ, zero, suc, ◌<◌}
use native.Mathlib.Omega.{arith}
use Rattle.aero_error.specs.declared.AeroError.{AeroError}
use Rattle.aero_error.specs.declared.Rule.{Rule}
use Rattle.drag_sheet.proofs.Verdicts.{never}

-- the first refuses, or it passes and the second one refuses
pub then_failed : (a b : Check) {e : AeroError} → (a then b) ≡ Err e → (a ≡ Err e) ⊎ ((a ≡ Ok tt) × (b ≡ Err e))
then_failed (Ok _) b h = inr (refl, h)
then_failed (Err x) b h = inl h

-- the second one passes where the first does
pub then_first : (a b : Check) → (a ≡ Ok tt → b ≡ Ok tt) → (a then b) ≡ a
then_first (Ok _) b h = h refl
then_first (Err e) b h = refl

pub unless_failed : (broken : Bool) (rule : Rule) {e : AeroError} → unless broken rule ≡ Err e → broken ≡ true
unless_failed true rule h = refl
unless_failed false rule h = never h refl

-- one of them refuses
pub up_refused : (test : ℕ → Check) (n : ℕ) {e : AeroError} → up_to n test ≡ Err e → (i : ℕ) × (i < n) × (test i ≡ Err e)
unfolding up_to
up_refused test zero h = never h refl
up_refused test (suc n) h =
    ⊎_elim
    (λ a. let r = up_refused test n a in (r.0, omega (arith, r.1), r.2))
    (λ b. (n, omega arith, b.1))
    (then_failed (up_to n test) (test n) h)
