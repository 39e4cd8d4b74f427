-- Two tests and a choice that Rust has on `f64` and the drag formulas share. (Finiteness is `finite` of `lib.Ieee.Scale`.)
use Rattle.std.specs.Prelude.{Bool, cond, ◌&&◌}
use lib.Ieee.{Float, ne}
use Rattle.elementary.specs.Arithmetic.{◌≺◌, ◌≼◌}

-- `(low..=high).contains(&x)`
unfoldable pub between : Float → Float → Float → Bool
between low x high = low ≼ x && x ≼ high

-- Rust's `max`: the other one where one is a NaN. Of two zeros of unlike sign Rust leaves open which it is; here it is the first.
-- The formulas meet neither: both numbers are +0 or more where they ask.
unfoldable pub max_of : Float → Float → Float
max_of a b = cond (a ≺ b) b (cond (ne a a) b a)
