-- "7 at the count byte", "19 .. in a card at the count byte": a count of columns above 32 is refused with 7, and one of finishes that is 0 or above 4 with 19,
-- whatever bytes follow it, none too.
use Rattle.std.specs.Prelude.{Err}
use mathlib.Core.Path.{◌≡◌}
use mathlib.Core.List.{List}
use mathlib.Core.Logic.{◌⊎◌}
use Prim.Native.Nat.{ℕ, ◌<◌}
use borrow.Author.Tests.{lt-ltb}
use Rattle.aero_error.specs.declared.AeroError.{AeroError}
use Rattle.aero_error.specs.declared.AeroError.TheVariants.{Broken}
use Rattle.aero_error.specs.declared.Rule.TheVariants.{TooManyColumns, FinishCount}
use Rattle.aero_error.specs.Checks.{Check, ◌and_then◌}
use Rattle.sheet_data.specs.Tests.{finishes_test}
use Rattle.sheet_data.proofs.Order.{finishes_refused}
use Rattle.cards.specs.Fields.{Read}
use Rattle.cards.specs.Cards.{columns_at, roughnesses_at}

pub count_refused : (n : ℕ) (s : List ℕ) (at : ℕ) → 32 < n → columns_at n s at ≡ Err (Broken TooManyColumns)
unfolding columns_at
count_refused n s at h = rw (lt-ltb 32 n h)

refused_first : {A : Type 0} (test : Check) (e : AeroError) (r : Read A) → test ≡ Err e → (test and_then r) ≡ Err e
refused_first test e r h = rw h

pub finishes_count_refused : (n : ℕ) (s : List ℕ) (at : ℕ) → (n ≡ 0) ⊎ (4 < n) → roughnesses_at n s at ≡ Err (Broken FinishCount)
unfolding roughnesses_at
finishes_count_refused n s at h = refused_first (finishes_test n) _ _ (finishes_refused n h)
