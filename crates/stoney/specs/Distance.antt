-- "How far from Stoney": what is claimed of the lookup's value, in `value_and_slope`, which the contract of `StoneyNose::value_and_slope` cites. The proof is
-- proofs/Distance.antt.
use Rattle.std.specs.Prelude.{ℕ, ◌<◌, T, length, get_or, Float}
use Rattle.std.specs.Float.{binary64}
use Rattle.std.specs.Float.Ieee.{fits}
use Rattle.std.specs.Float.Ieee.Scale.{finite}
use Rattle.elementary.specs.Arithmetic.{◌≼◌}
use Rattle.elementary.specs.Constants.{0·0}
use Rattle.elementary.specs.Distance.{two^_, OffBy}
use Rattle.stoney.specs.declared.StoneyNose.{StoneyNose}
use Rattle.stoney.specs.Points.{no_point}
use Rattle.stoney.specs.Lookup.{value_and_slope}
use Rattle.stoney.specs.BrokenLine.{corners, broken_line}

-- the bound, in units
abbrev pub bound : ℕ
bound = two^_ 50

pub record HowFar (nose : StoneyNose) : Type 0 where
  -- every finite number from 0 up that binary64 holds, -0 among them
  pub within : (M : Float) → T (fits binary64 M) → T (finite M) → T (0·0 ≼ M) → OffBy bound (value_and_slope nose M).value (broken_line nose M)
  -- the tabled ones, and Mach 0.8
  pub at_corners : (k : ℕ) → k < length (corners nose) → let M = (get_or (corners nose) k no_point).mach in OffBy 0 (value_and_slope nose M).value (broken_line nose M)
