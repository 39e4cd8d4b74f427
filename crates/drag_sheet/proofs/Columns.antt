-- "Set column puts the new M and R at its column": the new numbers stand there, and the other columns are as they were.
use mathlib.Core.Path.{◌≡◌}
use mathlib.Core.Logic.{◌≢◌}
use Prim.Native.Nat.{ℕ, ◌<◌}
use lib.ListN.{length}
use lib.Seq.{get_or-set_same, get_or-set_other}
use lib.Ieee.{Float, nan}
use Rattle.sheet_data.specs.declared.Settings.{Settings}
use Rattle.sheet_data.specs.Contents.{mach_at, reynolds_at}
use Rattle.drag_sheet.specs.Calls.{with_column}

module _ (s : Settings) (k : ℕ) (M R : Float) where
  pub new_mach : k < length s.machs → mach_at (with_column s k M R) k ≡ M
  new_mach h = get_or-set_same s.machs k M nan h

  pub new_reynolds : k < length s.reynolds → reynolds_at (with_column s k M R) k ≡ R
  new_reynolds h = get_or-set_same s.reynolds k R nan h

  pub same_mach : (i : ℕ) → i ≢ k → mach_at (with_column s k M R) i ≡ mach_at s i
  same_mach i u = get_or-set_other s.machs k i M nan u

  pub same_reynolds : (i : ℕ) → i ≢ k → reynolds_at (with_column s k M R) i ≡ reynolds_at s i
  same_reynolds i u = get_or-set_other s.reynolds k i R nan u
