-- How far a float is from a fraction of whole numbers, exactly. Numbers are counted in units of 2 ^ -1074 (`units_of`, Nearest.antt), so that nothing is rounded:
-- every number that binary64 holds is a whole number of them.
use Rattle.std.specs.Prelude.{ℕ, ◌+◌, ◌-◌, ◌*◌, ◌^◌, ◌≤◌, ◌<◌, Bool, false, Float}
use Rattle.std.specs.Float.Ieee.Exact.{HasValue}
use Rattle.elementary.specs.Nearest.{units_of}

-- 2 ^ -k in units, for a k of at most 1074; 1 is `two^_ 0`
abbrev pub two^_ : ℕ → ℕ
two^_ k = 2 ^ (1074 - k)

-- x is finite, has the sign s, and is u units in size
abbrev pub Counts : Float → Bool → ℕ → Type 0
Counts x s u = HasValue x s u (two^_ 0)

-- over / under
pub record Fraction : Type 0 where
  pub over : ℕ
  pub under : ℕ

-- x and y differ by at most e
pub record Apart (e x y : ℕ) : Type 0 where
  pub up : x ≤ y + e
  pub down : y ≤ x + e

-- x is a number from +0 up, and at most e units from over / under units: | x - over / under | ≤ e, with both sides times `under`, which is above zero
pub record OffBy (e : ℕ) (x : Float) (f : Fraction) : Type 0 where
  pub some : 0 < f.under
  pub number : Counts x false (units_of x)
  pub apart : Apart (e * f.under) (units_of x * f.under) f.over
