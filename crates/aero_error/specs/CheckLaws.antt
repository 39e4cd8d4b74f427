-- Laws of tests one after another: what a loop over them knows, and which tests decide where the others pass.
use Rattle.std.specs.Prelude.{Ok, Err}
use Rattle.aero_error.specs.Checks.{Check}
use Rattle.std.specs.Prelude.{◌≡◌, ◌≢◌, Bool, true, false, Float}
use Rattle.std.proofs.Math.Path.{refl}
use Rattle.std.proofs.Common.{sym, add-one, arith}
use Rattle.std.proofs.Math.Logic.{dite}
use Prim.Native.Nat.{ℕ, zero, suc, ◌+◌, ◌≤◌, ◌<◌}
use Rattle.std.proofs.Math.Decide.{ℕ_discrete}
use Rattle.aero_error.specs.declared.Quantity.{Quantity}
use Rattle.aero_error.specs.declared.AeroError.{AeroError}
use Rattle.aero_error.specs.declared.Rule.{Rule}
use Rattle.aero_error.specs.Checks.{required, ◌then◌, unless, up_to}

-- ---- two tests

pub record Both (a b : Check) : Type 0 where
  pub first : a ≡ Ok tt
  pub second : b ≡ Ok tt

pub both_passed : (a b : Check) → (a then b) ≡ Ok tt → Both a b
both_passed (Ok _) b e = record { first = refl; second = e }
both_passed (Err r) b e = let z : ◌≡◌ {A = ℕ} 0 1 = cc in absurd (omega arith)

pub then_assoc : (a b c : Check) → ((a then b) then c) ≡ (a then b then c)
then_assoc (Ok _) b c = refl
then_assoc (Err r) b c = refl

pub then_passed : (a : Check) → (a then Ok tt) ≡ a
then_passed (Ok _) = refl
then_passed (Err r) = refl

pub unless_passed : (broken : Bool) (rule : Rule) → unless broken rule ≡ Ok tt → broken ≡ false
unless_passed true rule e = let z : ◌≡◌ {A = ℕ} 0 1 = cc in absurd (omega arith)
unless_passed false rule e = refl

pub required_passed : (ok : Bool) (what : Quantity) (x : Float) → required ok what x ≡ Ok tt → ok ≡ true
required_passed true what x e = refl
required_passed false what x e = let z : ◌≡◌ {A = ℕ} 0 1 = cc in absurd (omega arith)

-- ---- n tests

module _ (test : ℕ → Check) where
  pub up_none : up_to 0 test ≡ Ok tt
  unfolding up_to
  up_none = refl

  pub up_one : up_to 1 test ≡ test 0
  unfolding up_to
  up_one = refl

  pub up_more : {i : ℕ} → up_to i test ≡ Ok tt → test i ≡ Ok tt → up_to (i + 1) test ≡ Ok tt
  unfolding up_to
  up_more {i} h e = rw (add-one i, h) e

  pub up_end : {i n : ℕ} → i ≤ n → n ≤ i → up_to i test ≡ Ok tt → Ok tt ≡ up_to n test
  up_end {i} {n} a b h = let e : n ≡ i = omega arith in rw (e, h)

  pub up_failed : (i n : ℕ) (refusal : AeroError) → up_to i test ≡ Ok tt → test i ≡ Err refusal → i < n → up_to n test ≡ Err refusal
  unfolding up_to
  up_failed i zero r h e l = absurd (omega arith)
  up_failed i (suc n) r h e l = dite (ℕ_discrete i n) (λ q. rw (← q, h) e) (λ q. rw (up_failed i n r h e (omega arith)))

  pub up_each : (n : ℕ) → up_to n test ≡ Ok tt → (i : ℕ) → i < n → test i ≡ Ok tt
  unfolding up_to
  up_each zero h i l = absurd (omega arith)
  up_each (suc n) h i l =
      let b = both_passed (up_to n test) (test n) h in
      dite (ℕ_discrete i n) (λ q. rw q b.second) (λ q. up_each n b.first i (omega arith))

  pub up_all : (n : ℕ) → ((i : ℕ) → i < n → test i ≡ Ok tt) → up_to n test ≡ Ok tt
  unfolding up_to
  up_all zero h = refl
  up_all (suc n) h = rw (up_all n (λ i l. h i (omega arith))) (h n (omega arith))

  -- all others pass
  pub up_only : (k n : ℕ) → k < n → ((i : ℕ) → i < n → i ≢ k → test i ≡ Ok tt) → up_to n test ≡ test k
  unfolding up_to
  up_only k zero l h = absurd (omega arith)
  up_only k (suc n) l h =
      dite (ℕ_discrete k n)
      (λ q. rw (up_all n (λ i m. h i (omega arith) (λ e. omega arith)), q))
      (λ q. rw (h n (omega arith) (λ e. q (sym e)), then_passed (up_to n test)) (up_only k n (omega arith) (λ i m. h i (omega arith))))

  -- all others than two that follow one another pass
  pub up_two : (k n : ℕ) → k + 1 < n → ((i : ℕ) → i < n → i ≢ k → i ≢ k + 1 → test i ≡ Ok tt) → up_to n test ≡ (test k then test (k + 1))
  unfolding up_to
  up_two k zero l h = absurd (omega arith)
  up_two k (suc n) l h =
      dite (ℕ_discrete (k + 1) n)
      (λ q. rw (up_only k n (omega arith) (λ i m e. h i (omega arith) e (λ f. omega arith)), q))
      (λ q. rw (h n (omega arith) (λ e. omega arith) (λ e. q (sym e)), then_passed (up_to n test)) (up_two k n (omega arith) (λ i m. h i (omega arith))))

pub up_same : (test other : ℕ → Check) (n : ℕ) → ((i : ℕ) → i < n → test i ≡ other i) → up_to n test ≡ up_to n other
unfolding up_to
up_same test other zero h = refl
up_same test other (suc n) h = rw (up_same test other n (λ i l. h i (omega arith)), h n (omega arith))
