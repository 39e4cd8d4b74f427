-- Where a place is absent or the design full: of a call's arguments the tests of its place and of the count answer 8 and 9, and none of settings, parts or numbers does (`Other`).
use Rattle.std.specs.Prelude.{Some, Option, Ok, None, Err}
use Rattle.aero_error.specs.Checks.{required, dimension, ◌then◌, unless, up_to, Check}
use mathlib.Core.Path.{◌≡◌, refl, subst}
use mathlib.Core.Logic.{◌≢◌, ◌↔◌, ⊎_elim}
use mathlib.Core.Bool.{Bool, true, false, cond, ◌&&◌}
use mathlib.Core.List.{List}
use Prim.Native.Nat.{ℕ, zero, suc, ◌≤◌, ◌<◌}
use native.Mathlib.Omega.{arith}
use lib.ListN.{length}
use lib.Dec.{ltb, leb}
use lib.Ieee.{Float}
use lib.Ieee.Scale.{finite}
use borrow.Author.Tests.{ltb-true, ltb-false, leb-true, lt-ltb, le-ltb, le-leb}
use Rattle.elementary.specs.Arithmetic.{◌≼◌}
use Rattle.elementary.specs.Tests.{between}
use Rattle.elementary.specs.Constants.{0·0}
use Rattle.aero_error.specs.declared.Quantity.{Quantity}
use Rattle.aero_error.specs.declared.Quantity.TheVariants.{Mach, Reynolds, BodyFineness}
use Rattle.aero_error.specs.declared.AeroError.{AeroError}
use Rattle.aero_error.specs.declared.AeroError.TheVariants.{Broken}
use Rattle.aero_error.specs.declared.Rule.{Rule}
use Rattle.aero_error.specs.declared.Rule.TheVariants.{TooManyColumns, NoSuchPlace, DesignFull, TooFewCells, FinishCount}
use Rattle.aero_error.specs.Refusals.{number_of_rule, number_of}
use Rattle.aero_error.specs.CheckLaws.{unless_passed}
use Rattle.drag.specs.Friction.{mach_checked, flow_checked}
use Rattle.sheet_data.specs.declared.Settings.{Settings}
use Rattle.sheet_data.specs.declared.Part.{Part}
use Rattle.sheet_data.specs.Layout.{most_parts, most_columns, needed}
use Rattle.sheet_data.specs.Contents.{part_at}
use Rattle.sheet_data.specs.Tests.{in_interval, own_test, finishes_wrong, finishes_test, roughnesses_test, body_test, columns_test, settings_test, part_test, parts_test}
use Rattle.drag_sheet.specs.Calls.{Call, replace, insert, remove, set_column, ignite, burnout, arguments_test}
use Rattle.drag_sheet.proofs.Verdicts.{never}
use Rattle.drag_sheet.proofs.Refusals.{then_failed, unless_failed}

-- ---- tests that don't give refusal n, for n from 8 to 9

abbrev pub Other : ℕ → Check → Type 0
Other n (Ok _) = Unit {0}
Other n (Err e) = number_of e ≢ n

pub other_then : (n : ℕ) (a b : Check) → Other n a → Other n b → Other n (a then b)
other_then n (Ok _) b h k = k
other_then n (Err e) b h k = h

pub other_up : (n m : ℕ) (test : ℕ → Check) → ((i : ℕ) → Other n (test i)) → Other n (up_to m test)
unfolding up_to
other_up n zero test h = tt
other_up n (suc m) test h = other_then n (up_to m test) (test m) (other_up n m test h) (h m)

pub other_unless : (n : ℕ) (broken : Bool) (rule : Rule) → number_of_rule rule ≢ n → Other n (unless broken rule)
other_unless n true rule h = h
other_unless n false rule h = tt

pub other_cond : (n : ℕ) (b : Bool) (one other : Check) → Other n one → Other n other → Other n (cond b one other)
other_cond n true one other h k = h
other_cond n false one other h k = k

-- it is not that refusal
pub apart : {n : ℕ} {check : Check} {e : AeroError} {A : Type 0} → Other n check → number_of e ≡ n → check ≡ Err e → A
apart {n} h q f = absurd (subst (Other n) f h q)

module _ (n : ℕ) (low : 8 ≤ n) (high : n ≤ 9) where
  pub other_required : (ok : Bool) (what : Quantity) (x : Float) → Other n (required ok what x)
  other_required true what x = tt
  other_required false what x = λ q. omega arith

  pub other_interval : (a x b : Float) → Other n (in_interval a x b)
  other_interval a x b = other_cond n (between a x b) _ _ tt (λ q. omega arith)

  pub other_mach : (M : Float) → Other n (mach_checked M)
  unfolding mach_checked
  other_mach M = other_required (finite M && 0·0 ≼ M) Mach M

  pub other_flow : (M R : Float) → Other n (flow_checked M R)
  other_flow M R = other_then n (mach_checked M) _ (other_mach M) (other_required (dimension R true) Reynolds R)

  pub other_settings : (s : Settings) (cells : ℕ) → Other n (settings_test s cells)
  unfolding settings_test columns_test roughnesses_test
  other_settings s cells =
      other_then n (unless (ltb most_columns s.count) TooManyColumns) _ (other_unless n (ltb most_columns s.count) TooManyColumns (λ q. omega arith))
      (other_then n (body_test s) _
      (other_then n (in_interval _ s.reference_diameter _) _ (other_interval _ _ _)
      (other_then n (finishes_test s.finishes) _ (other_unless n (finishes_wrong s.finishes) FinishCount (λ q. omega arith))
      (other_then n (roughnesses_test s) _ (other_up n s.finishes _ (λ j. other_interval _ _ _)) (other_required (dimension s.body_fineness false) BodyFineness _))))
      (other_then n (columns_test s) _ (other_up n s.count _ (λ k. other_flow _ _)) (other_unless n (ltb cells (needed s.finishes s.count)) TooFewCells (λ q. omega arith))))

  other_own : (k : Option Float) → Other n (own_test k)
  other_own None = tt
  other_own (Some x) = other_interval _ _ _

  pub other_part : (p : Part) → Other n (part_test p)
  other_part p =
      other_then n (in_interval _ p.length _) _ (other_interval _ _ _)
      (other_then n (in_interval _ p.aft_diameter _) _ (other_interval _ _ _)
      (other_then n (in_interval _ p.wetted_ratio _) _ (other_interval _ _ _) (other_own p.roughness)))

  pub other_parts : (ps : List Part) → Other n (parts_test ps)
  unfolding parts_test
  other_parts ps = other_up n (length ps) _ (λ i. other_part (part_at ps i))

-- ---- where a place isn't there, and where the design is full

-- "8": the place of a part that isn't there, a place past the end for a new one, a column that isn't there
abbrev pub Absent : Call → Settings → ℕ → Type 0
Absent (replace place p) s count = count ≤ place
Absent (insert place p) s count = count < place
Absent (remove place) s count = count ≤ place
Absent (set_column k M R) s count = s.count ≤ k
Absent (ignite n) s count = ⊥
Absent burnout s count = ⊥

-- "9": a new part where 16 stand
abbrev pub Full : Call → ℕ → Type 0
Full (replace place p) count = ⊥
Full (insert place p) count = (place ≤ count) × (count ≡ 16)
Full (remove place) count = ⊥
Full (set_column k M R) count = ⊥
Full (ignite n) count = ⊥
Full burnout count = ⊥

other_8 : (broken : Bool) → Other 9 (unless broken NoSuchPlace)
other_8 broken = other_unless 9 broken NoSuchPlace (λ q. omega arith)

-- 9 is the answer exactly where a part is put in and 16 stand, in a design of 16 at most
pub arguments_9 : (call : Call) (s : Settings) (count : ℕ) → count ≤ most_parts → (arguments_test call s count ≡ Err (Broken DesignFull)) ↔ Full call count
arguments_9 (replace place p) s count few =
    ((λ e. apart (other_then 9 (unless (leb count place) NoSuchPlace) _ (other_8 (leb count place)) (other_part 9 (omega arith) (omega arith) p)) refl e), (λ h. absurd h))
arguments_9 (insert place p) s count few = (
  (λ e.
      ⊎_elim (λ a. apart (other_8 (ltb count place)) refl a)
      (λ b. (
        ltb-false count place (unless_passed _ NoSuchPlace b.0),
        ⊎_elim (λ d. let h = leb-true most_parts count (unless_failed _ DesignFull d) in omega arith) (λ d. apart (other_part 9 (omega arith) (omega arith) p) refl d.1) (then_failed (unless (leb most_parts count) DesignFull) _ b.1),
      ))
      (then_failed (unless (ltb count place) NoSuchPlace) _ e)),
  (λ h. rw (le-ltb count place h.0, le-leb most_parts count (omega (arith, h.1)))),
)
arguments_9 (remove place) s count few = ((λ e. apart (other_8 (leb count place)) refl e), (λ h. absurd h))
arguments_9 (set_column k M R) s count few =
    ((λ e. apart (other_then 9 (unless (leb s.count k) NoSuchPlace) _ (other_8 (leb s.count k)) (other_flow 9 (omega arith) (omega arith) M R)) refl e), (λ h. absurd h))
arguments_9 (ignite n) s count few = ((λ e. apart (other_interval 9 (omega arith) (omega arith) _ n _) refl e), (λ h. absurd h))
arguments_9 burnout s count few = ((λ e. never e refl), (λ h. absurd h))

-- 8 is the answer exactly where the place or the column isn't there
pub arguments_8 : (call : Call) (s : Settings) (count : ℕ) → (arguments_test call s count ≡ Err (Broken NoSuchPlace)) ↔ Absent call s count
arguments_8 (replace place p) s count = (
  (λ e. ⊎_elim (λ a. leb-true count place (unless_failed _ NoSuchPlace a)) (λ b. apart (other_part 8 (omega arith) (omega arith) p) refl b.1) (then_failed (unless (leb count place) NoSuchPlace) _ e)),
  (λ h. rw (le-leb count place h)),
)
arguments_8 (insert place p) s count = (
  (λ e.
      ⊎_elim (λ a. ltb-true count place (unless_failed _ NoSuchPlace a))
      (λ b. apart (other_then 8 (unless (leb most_parts count) DesignFull) _ (other_unless 8 (leb most_parts count) DesignFull (λ q. omega arith)) (other_part 8 (omega arith) (omega arith) p)) refl b.1)
      (then_failed (unless (ltb count place) NoSuchPlace) _ e)),
  (λ h. rw (lt-ltb count place h)),
)
arguments_8 (remove place) s count = ((λ e. leb-true count place (unless_failed _ NoSuchPlace e)), (λ h. rw (le-leb count place h)))
arguments_8 (set_column k M R) s count = (
  (λ e. ⊎_elim (λ a. leb-true s.count k (unless_failed _ NoSuchPlace a)) (λ b. apart (other_flow 8 (omega arith) (omega arith) M R) refl b.1) (then_failed (unless (leb s.count k) NoSuchPlace) _ e)),
  (λ h. rw (le-leb s.count k h)),
)
arguments_8 (ignite n) s count = ((λ e. apart (other_interval 8 (omega arith) (omega arith) _ n _) refl e), (λ h. absurd h))
arguments_8 burnout s count = ((λ e. never e refl), (λ h. absurd h))
