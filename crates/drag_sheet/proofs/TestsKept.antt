-- The tests of a sheet hold of the contents that a call leaves, where they held before and the call's own arguments passed theirs; so they hold of the model after
-- an accepted open and every list of calls.
use Rattle.std.specs.Prelude.{Ok, Err}
use Rattle.aero_error.specs.Checks.{required, dimension, unless, Check}
use mathlib.Core.Path.{◌≡◌, refl}
use mathlib.Core.Bool.{true}
use mathlib.Core.List.{List, [], ◌∷◌, ◌++◌}
use Prim.Native.Nat.{ℕ, zero, suc, ◌+◌, ◌<◌}
use native.Mathlib.Nat.{le_of_suc-le-suc, not-suc-le-zero}
use native.Mathlib.Omega.{arith}
use lib.ListN.{length, get_or, take, drop, set}
use lib.Dec.{ltb, leb}
use lib.Ieee.{Float, nan, lt, le, eq, of_bits}
use borrow.Author.Tests.{ltb-false, le-ltb}
use Rattle.elementary.specs.Tests.{between}
use Rattle.elementary.specs.Constants.{0·0}
use Rattle.aero_error.specs.declared.Quantity.TheVariants.{Reynolds}
use Rattle.aero_error.specs.declared.Rule.TheVariants.{TooManyColumns, DesignFull, NoSuchPlace}
use Rattle.aero_error.specs.CheckLaws.{both_passed, unless_passed, up_none, up_each, up_all}
use Rattle.drag.specs.Friction.{mach_checked, flow_checked}
use Rattle.sheet_data.specs.declared.Settings.{Settings}
use Rattle.sheet_data.specs.declared.Part.{Part}
use Rattle.sheet_data.specs.Layout.{most_parts, most_columns}
use Rattle.sheet_data.specs.Contents.{Contents, no_part, mach_at, reynolds_at}
use Rattle.sheet_data.specs.Tests.{roughnesses_test, body_test, columns_test, settings_test, nozzle_test, part_test, parts_test, sheet_test}
use Rattle.drag_sheet.specs.Calls.{Call, replace, insert, remove, set_column, ignite, burnout, with_column, applied, arguments_test}
use Rattle.drag_sheet.specs.Model.{opened_model, model_decision, moved, model_after}
use Rattle.drag_sheet.proofs.Nozzle.{nozzle_after, nozzle_left}
use Rattle.drag_sheet.proofs.Answers.{bounds}
use Rattle.drag_sheet.proofs.CallLaws.{parts_few}

-- the contents pass the tests of a sheet given, with so many cells lent
abbrev pub Tested : Contents → ℕ → Type 0
Tested c cells = sheet_test c cells (length c.parts) ≡ Ok tt

-- ---- what holds of each element

module _ {A : Type 0} (P : A → Type 0) where
  abbrev All : List A → Type 0
  All [] = Unit {0}
  All (x ∷ xs) = P x × All xs

  all_append : (xs ys : List A) → All xs → All ys → All (xs ++ ys)
  all_append [] ys a b = b
  all_append (x ∷ xs) ys a b = (a.0, all_append xs ys a.1 b)

  all_take : (n : ℕ) (xs : List A) → All xs → All (take n xs)
  all_take zero xs a = tt
  all_take (suc n) [] a = tt
  all_take (suc n) (x ∷ xs) a = (a.0, all_take n xs a.1)

  all_drop : (n : ℕ) (xs : List A) → All xs → All (drop n xs)
  all_drop zero xs a = a
  all_drop (suc n) [] a = tt
  all_drop (suc n) (x ∷ xs) a = all_drop n xs a.1

  all_set : (xs : List A) (k : ℕ) (v : A) → P v → All xs → All (set xs k v)
  all_set [] k v p a = tt
  all_set (x ∷ xs) zero v p a = (p, a.1)
  all_set (x ∷ xs) (suc k) v p a = (a.0, all_set xs k v p a.1)

  all_at : (xs : List A) (d : A) → All xs → (i : ℕ) → i < length xs → P (get_or xs i d)
  all_at [] d a i h = absurd (not-suc-le-zero h)
  all_at (x ∷ xs) d a zero h = a.0
  all_at (x ∷ xs) d a (suc i) h = all_at xs d a.1 i (le_of_suc-le-suc h)

  at_all : (xs : List A) (d : A) → ((i : ℕ) → i < length xs → P (get_or xs i d)) → All xs
  at_all [] d h = tt
  at_all (x ∷ xs) d h = (h 0 (omega arith), at_all xs d (λ i l. h (suc i) (omega arith)))

  -- one element put anew
  put_at : (xs : List A) (k i : ℕ) (v d : A) → P v → P (get_or xs i d) → P (get_or (set xs k v) i d)
  put_at [] k i v d p h = h
  put_at (x ∷ xs) zero zero v d p h = p
  put_at (x ∷ xs) zero (suc i) v d p h = h
  put_at (x ∷ xs) (suc k) zero v d p h = h
  put_at (x ∷ xs) (suc k) (suc i) v d p h = put_at xs k i v d p h

-- ---- the parts

abbrev Fine : Part → Type 0
Fine p = part_test p ≡ Ok tt

each_part : (ps : List Part) → parts_test ps ≡ Ok tt → All Fine ps
unfolding parts_test
each_part ps h = at_all Fine ps no_part (up_each _ (length ps) h)

all_parts : (ps : List Part) → All Fine ps → parts_test ps ≡ Ok tt
unfolding parts_test
all_parts ps a = up_all _ (length ps) (all_at Fine ps no_part a)

parts_kept : (call : Call) (c : Contents) → arguments_test call c.settings (length c.parts) ≡ Ok tt → All Fine c.parts → All Fine (applied call c).parts
parts_kept (replace place p) c e a = all_set Fine c.parts place p (both_passed (unless (leb (length c.parts) place) _) _ e).second a
parts_kept (insert place p) c e a =
    let b = both_passed (unless (ltb (length c.parts) place) NoSuchPlace) _ e in
    let d = both_passed (unless (leb most_parts (length c.parts)) DesignFull) _ b.second in
    all_append Fine (take place c.parts) (p ∷ drop place c.parts) (all_take Fine place c.parts a) (d.second, all_drop Fine place c.parts a)
parts_kept (remove place) c e a = all_append Fine (take place c.parts) (drop (place + 1) c.parts) (all_take Fine place c.parts a) (all_drop Fine (place + 1) c.parts a)
parts_kept (set_column k M R) c e a = a
parts_kept (ignite n) c e a = a
parts_kept burnout c e a = a

-- ---- the settings

flow_kept : (s : Settings) (k i : ℕ) (M R : Float) → flow_checked M R ≡ Ok tt → flow_checked (mach_at s i) (reynolds_at s i) ≡ Ok tt
    → flow_checked (mach_at (with_column s k M R) i) (reynolds_at (with_column s k M R) i) ≡ Ok tt
flow_kept s k i M R e h =
    let new = both_passed (mach_checked M) _ e in
    let old = both_passed (mach_checked (mach_at s i)) _ h in
    rw (put_at (λ x. mach_checked x ≡ Ok tt) s.machs k i M nan new.first old.first)
    (put_at (λ x. required (dimension x true) Reynolds x ≡ Ok tt) s.reynolds k i R nan new.second old.second)

column_kept : (s : Settings) (cells k : ℕ) (M R : Float) → flow_checked M R ≡ Ok tt → settings_test s cells ≡ Ok tt → settings_test (with_column s k M R) cells ≡ Ok tt
unfolding settings_test columns_test roughnesses_test
column_kept s cells k M R e h =
    let a = both_passed (unless (ltb most_columns s.count) TooManyColumns) _ h in
    let b = both_passed (body_test s) _ a.second in
    let d = both_passed (columns_test s) _ b.second in
    let columns : columns_test (with_column s k M R) ≡ Ok tt = up_all _ s.count (λ i l. flow_kept s k i M R e (up_each _ s.count d.first i l)) in
    rw (a.first, b.first, columns) d.second

settings_kept : (call : Call) (c : Contents) (cells : ℕ) → arguments_test call c.settings (length c.parts) ≡ Ok tt → settings_test c.settings cells ≡ Ok tt → settings_test (applied call c).settings cells ≡ Ok tt
settings_kept (replace place p) c cells e h = h
settings_kept (insert place p) c cells e h = h
settings_kept (remove place) c cells e h = h
settings_kept (set_column k M R) c cells e h = column_kept c.settings cells k M R (both_passed (unless (leb c.settings.count k) NoSuchPlace) _ e).second h
settings_kept (ignite n) c cells e h = h
settings_kept burnout c cells e h = h

-- ---- the nozzle diameter

pub zero_passes : nozzle_test 0·0 ≡ Ok tt
unfolding between of_bits lt le eq
zero_passes = refl

nozzle_kept : (call : Call) (c : Contents) → arguments_test call c.settings (length c.parts) ≡ Ok tt → nozzle_test c.nozzle ≡ Ok tt → nozzle_test (applied call c).nozzle ≡ Ok tt
nozzle_kept call c e h = rw (nozzle_left call c) (by call e)
  where
    by : (call : Call) → arguments_test call c.settings (length c.parts) ≡ Ok tt → nozzle_test (nozzle_after call c.nozzle) ≡ Ok tt
    by (replace place p) e = h
    by (insert place p) e = h
    by (remove place) e = h
    by (set_column k M R) e = h
    by (ignite n) e = e
    by burnout e = zero_passes

-- ---- all

pub tested_after : (call : Call) (c : Contents) (cells : ℕ) → Tested c cells → arguments_test call c.settings (length c.parts) ≡ Ok tt → Tested (applied call c) cells
unfolding sheet_test
tested_after call c cells t e =
    let a = both_passed (settings_test c.settings cells) _ t in
    let n = both_passed (nozzle_test c.nozzle) _ a.second in
    let b = both_passed (unless (ltb most_parts (length c.parts)) DesignFull) _ n.second in
    let few = parts_few call c (bounds call c.settings (length c.parts) e) (ltb-false most_parts _ (unless_passed _ DesignFull b.first)) in
    rw (settings_kept call c cells e a.first, nozzle_kept call c e n.first, le-ltb most_parts (length (applied call c).parts) few)
    (all_parts (applied call c).parts (parts_kept call c e (each_part c.parts b.second)))

-- ---- an open, and a list of calls

pub tested_open : (s : Settings) (cells : ℕ) → settings_test s cells ≡ Ok tt → Tested (opened_model s) cells
unfolding sheet_test parts_test
tested_open s cells h = rw (h, zero_passes) (up_none _)

-- after every list the model passes the tests of a sheet given
pub tested_through : (cells : ℕ) (calls : List Call) (m : Contents) → Tested m cells → Tested (model_after cells calls m) cells
unfolding model_after
tested_through cells [] m t = t
tested_through cells (call ∷ calls) m t = tested_through cells calls (moved cells call m) (by (model_decision cells call m) refl)
  where
    by : (d : Check) → model_decision cells call m ≡ d → Tested (moved cells call m) cells
    by (Err e) p = rw p t
    by (Ok _) p =
        let a = both_passed (sheet_test m cells (length m.parts)) _ p in
        rw p (tested_after call m cells t (both_passed (arguments_test call m.settings (length m.parts)) _ a.second).first)
