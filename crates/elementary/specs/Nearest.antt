-- What "the binary64 number nearest the exact root" says, without real numbers. Every finite binary64 number is a whole number of units of 2 ^ -1074 (`units_of`).
-- Of two numbers y and z the root of x is nearer to y where the middle (y + z) / 2 lies on z's side of the root, that is, where (y + z)² compares with 4 x.
-- In units x is X × 2 ^ -1074, and 4 x compares with (y + z)² as 4 X × 2 ^ 1074 with (Y + Z)².
use Rattle.std.specs.Prelude.{◌≡◌, true, false, ℕ, zero, suc, ◌+◌, ◌*◌, ◌^◌, ◌<◌, ℤ, T, Float}
use Rattle.std.specs.Float.{nan, inf, fin, binary64}
use Rattle.std.specs.Float.Ieee.{fits}
use Rattle.std.specs.Float.Ieee.Positive.{positive}
use Rattle.elementary.specs.Split.{units}

abbrev pub units_of : Float → ℕ
units_of nan = 0
units_of (inf s) = 0
units_of (fin s m e) = units m e

-- y is the binary64 number nearest the root of x: nearer than every other one z ≥ 0, larger (`over`) or smaller (`under`). Both are strict, so there is
-- never a tie for the even significand to decide.
pub record NearestRoot (x y : Float) : Type 0 where
  pub held : T (fits binary64 y)
  pub above : T (positive y)
  pub over : (m : ℕ) (e : ℤ) → T (fits binary64 (fin false m e)) → units_of y < units m e → 4 * (units_of x * 2 ^ 1074) < (units_of y + units m e) * (units_of y + units m e)
  pub under : (m : ℕ) (e : ℤ) → T (fits binary64 (fin false m e)) → units m e < units_of y → (units_of y + units m e) * (units_of y + units m e) < 4 * (units_of x * 2 ^ 1074)

-- y is what docs/REFERENCE.md, Fixed steps, says of x ("of +0, -0 and +infinity, itself"; "NaN is the answer to a NaN argument .. to a negative x"): every x has a case
abbrev pub RootOf : Float → Float → Type 0
RootOf nan y = y ≡ nan
RootOf (inf true) y = y ≡ nan
RootOf (inf false) y = y ≡ inf false
RootOf (fin s zero e) y = y ≡ fin s zero e
RootOf (fin true (suc m) e) y = y ≡ nan
RootOf (fin false (suc m) e) y = NearestRoot (fin false (suc m) e) y
