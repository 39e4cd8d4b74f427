-- The size of a finite number other than zero, significand × 2 ^ (digits - 1127): what contracts have of the program's `Magnitude`, and what holds of every one.
use Rattle.std.specs.Prelude.{ℕ, ◌^◌, ◌≤◌, ◌<◌}

pub record Figures : Type 0 where
  pub significand : ℕ
  pub digits : ℕ

-- the significand and the digits of a finite number other than zero
pub record Taken (significand digits : ℕ) : Type 0 where
  pub full : 2 ^ 52 ≤ significand
  pub narrow : significand < 2 ^ 53
  pub some : 1 ≤ digits
  pub few : digits ≤ 2098
