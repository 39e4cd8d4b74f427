-- Orders of tests that code and definition could get wrong alike. 19 comes "after D and before 11 for any roughness". "1 for each column (M, R), 10": a column's refusal
-- comes before that of the cells, however few are lent. "a held one right after 10": a nozzle diameter's refusal comes after it, and before that of the parts, however many
-- there are.
use Rattle.std.specs.Prelude.{Ok, Err}
use mathlib.Core.Path.{◌≡◌, refl}
use mathlib.Core.Bool.{false}
use mathlib.Core.Logic.{◌⊎◌, inl, inr}
use Prim.Native.Nat.{ℕ, ◌<◌}
use native.Mathlib.Omega.{arith}
use borrow.Author.Tests.{lt-ltb, ne_eqb}
use lib.Dec.{ltb}
use Rattle.aero_error.specs.declared.AeroError.{AeroError}
use Rattle.aero_error.specs.declared.AeroError.TheVariants.{Broken}
use Rattle.aero_error.specs.declared.Rule.TheVariants.{FinishCount}
use Rattle.sheet_data.specs.declared.Settings.{Settings}
use Rattle.sheet_data.specs.Layout.{most_columns}
use Rattle.sheet_data.specs.Contents.{Contents}
use Rattle.sheet_data.specs.Tests.{0·001, 100·0, in_interval, finishes_test, body_test, columns_test, settings_test, nozzle_test, sheet_test}

pub columns_first : (s : Settings) (cells : ℕ) (e : AeroError) → ltb most_columns s.count ≡ false → body_test s ≡ Ok tt → columns_test s ≡ Err e → settings_test s cells ≡ Err e
unfolding settings_test
columns_first s cells e few body columns = rw (few, body, columns)

-- "F of 0 or above 4"
pub finishes_refused : (F : ℕ) → (F ≡ 0) ⊎ (4 < F) → finishes_test F ≡ Err (Broken FinishCount)
finishes_refused F (inl z) = rw z refl
finishes_refused F (inr l) = rw (ne_eqb F 0 (λ e. omega arith), lt-ltb 4 F l)

module _ (s : Settings) (cells : ℕ) (few : ltb most_columns s.count ≡ false) where
  pub diameter_first : (e : AeroError) → in_interval 0·001 s.reference_diameter 100·0 ≡ Err e → settings_test s cells ≡ Err e
  unfolding settings_test
  diameter_first e D = rw (few, D)

  pub finishes_next : in_interval 0·001 s.reference_diameter 100·0 ≡ Ok tt → (s.finishes ≡ 0) ⊎ (4 < s.finishes) → settings_test s cells ≡ Err (Broken FinishCount)
  unfolding settings_test
  finishes_next D h = rw (few, D, finishes_refused s.finishes h)

module _ (c : Contents) (cells count : ℕ) (e : AeroError) where
  pub settings_before_nozzle : settings_test c.settings cells ≡ Err e → sheet_test c cells count ≡ Err e
  unfolding sheet_test
  settings_before_nozzle settings = rw settings

  pub nozzle_before_parts : settings_test c.settings cells ≡ Ok tt → nozzle_test c.nozzle ≡ Err e → sheet_test c cells count ≡ Err e
  unfolding sheet_test
  nozzle_before_parts settings nozzle = rw (settings, nozzle)
