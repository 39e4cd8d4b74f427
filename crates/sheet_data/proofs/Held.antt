-- What passed tests have shown: "F = 1 to 4" finishes; "(17 + 2 × F) × C" cells; and of numbers in a house interval "in [0, 1]" a roughness of the settings in any finish and a
-- part's own, given or held at any place, and "[0, 100]" a nozzle diameter held.
use Rattle.std.specs.Prelude.{Ok, Err, Some, Option}
use Rattle.aero_error.specs.Checks.{Check, unless}
use mathlib.Core.Path.{◌≡◌, refl, sym, ◌∙◌}
use mathlib.Core.Bool.{Bool, true, false, cond, false≢true}
use mathlib.Core.List.{List}
use Prim.Native.Nat.{ℕ, ◌+◌, ◌*◌, ◌≤◌, ◌<◌}
use native.Mathlib.Omega.{arith}
use lib.ListN.{length}
use lib.Ieee.{Float}
use lib.Dec.{ltb, eqb}
use borrow.Author.Tests.{ltb-false, eqb-false}
use Rattle.elementary.specs.Tests.{between}
use Rattle.elementary.specs.Constants.{0·0, 1·0}
use Rattle.drag.specs.Constants.{10000·0}
use Rattle.aero_error.specs.declared.AeroError.TheVariants.{Broken}
use Rattle.aero_error.specs.declared.Rule.TheVariants.{TooManyColumns, TooFewCells, OutsideInterval, FinishCount}
use Rattle.aero_error.specs.CheckLaws.{both_passed, unless_passed, up_each}
use Rattle.sheet_data.specs.declared.Part.{Part}
use Rattle.sheet_data.specs.declared.Settings.{Settings}
use Rattle.sheet_data.specs.Layout.{most_columns, needed}
use Rattle.sheet_data.specs.Contents.{Contents, part_at, roughness_at}
use Rattle.sheet_data.specs.Tests.{0·001, 100·0, in_interval, own_test, finishes_test, roughnesses_test, body_test, columns_test, settings_test, nozzle_test, part_test, parts_test, sheet_test}
use Rattle.sheet_data.proofs.Order.{nozzle_before_parts}

pub inside : (low x high : Float) → in_interval low x high ≡ Ok tt → between low x high ≡ true
inside low x high h = by_test (between low x high) h
  where
    by_test : (ok : Bool) → ◌≡◌ {A = Check} (cond ok (Ok tt) (Err (Broken OutsideInterval))) (Ok tt) → ok ≡ true
    by_test true e = refl
    by_test false e = let z : ◌≡◌ {A = ℕ} 0 1 = cc in absurd (omega arith)

own_inside : (k : Option Float) (x : Float) → own_test k ≡ Ok tt → k ≡ Some x → between 0·0 x 1·0 ≡ true
own_inside k x h e = inside 0·0 x 1·0 (rw e at h)

-- ---- the settings

pub finishes_passed : (F : ℕ) → finishes_test F ≡ Ok tt → (1 ≤ F) × (F ≤ 4)
finishes_passed F h = by_test (eqb F 0) (ltb 4 F) refl refl (unless_passed _ FinishCount h)
  where
    by_test : (none many : Bool) → eqb F 0 ≡ none → ltb 4 F ≡ many → cond none true many ≡ false → (1 ≤ F) × (F ≤ 4)
    by_test true many n m e = absurd (false≢true (sym e))
    by_test false many n m e = (omega (arith, eqb-false F 0 n), ltb-false 4 F (m ∙ e))

module _ (s : Settings) where
  pub held_finishes : body_test s ≡ Ok tt → (1 ≤ s.finishes) × (s.finishes ≤ 4)
  held_finishes h =
      let a = both_passed (in_interval 0·001 s.reference_diameter 100·0) _ h in
      finishes_passed s.finishes (both_passed (finishes_test s.finishes) _ a.second).first

  pub held_roughness : (j : ℕ) → body_test s ≡ Ok tt → j < s.finishes → between 0·0 (roughness_at s j) 1·0 ≡ true
  unfolding roughnesses_test
  held_roughness j h l =
      let a = both_passed (in_interval 0·001 s.reference_diameter 100·0) _ h in
      let b = both_passed (finishes_test s.finishes) _ a.second in
      inside 0·0 (roughness_at s j) 1·0 (up_each _ s.finishes (both_passed (roughnesses_test s) _ b.second).first j l)

  pub held_cells : (cells : ℕ) → settings_test s cells ≡ Ok tt → (17 + 2 * s.finishes) * s.count ≤ cells
  unfolding settings_test
  held_cells cells h =
      let a = both_passed (unless (ltb most_columns s.count) TooManyColumns) _ h in
      let b = both_passed (body_test s) _ a.second in
      let d = both_passed (columns_test s) _ b.second in
      ltb-false cells (needed s.finishes s.count) (unless_passed _ TooFewCells d.second)

-- ---- parts and nozzle

-- of a part
pub given_own : (p : Part) (x : Float) → part_test p ≡ Ok tt → p.roughness ≡ Some x → between 0·0 x 1·0 ≡ true
given_own p x h e =
    let a = both_passed (in_interval 0·0 p.length 100·0) _ h in
    let b = both_passed (in_interval 0·0 p.aft_diameter 100·0) _ a.second in
    let d = both_passed (in_interval 0·0 p.wetted_ratio 10000·0) _ b.second in
    own_inside p.roughness x d.second e

-- of every part held
pub held_own : (ps : List Part) (i : ℕ) (x : Float) → parts_test ps ≡ Ok tt → i < length ps → (part_at ps i).roughness ≡ Some x → between 0·0 x 1·0 ≡ true
unfolding parts_test
held_own ps i x h l e = given_own (part_at ps i) x (up_each _ (length ps) h i l) e

-- "An n outside [0, 100], NaN too, is refusal 11": of a nozzle diameter held
pub held_nozzle : (c : Contents) (cells count : ℕ) → sheet_test c cells count ≡ Ok tt → between 0·0 c.nozzle 100·0 ≡ true
unfolding sheet_test
held_nozzle c cells count h = inside 0·0 c.nozzle 100·0 (by (nozzle_test c.nozzle) refl)
  where
    by : (test : Check) → nozzle_test c.nozzle ≡ test → nozzle_test c.nozzle ≡ Ok tt
    by (Ok _) p = p
    by (Err e) p = let f = nozzle_before_parts c cells count e (both_passed (settings_test c.settings cells) _ h).first p in let z : ◌≡◌ {A = ℕ} 0 1 = cc in absurd (omega arith)
