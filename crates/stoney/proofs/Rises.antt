-- "Within each nose Mach strictly rises": the test of specs/Points.antt, computed over all nine tables.
use Rattle.std.specs.Prelude.{T}
use Rattle.std.specs.Float.Ieee.{round, lt}
use Rattle.stoney.specs.declared.StoneyNose.{StoneyNose}
use Rattle.stoney.specs.Tables.{noses}
use Rattle.stoney.specs.Points.{points, every, holds_at, rises}

pub all_rise : T (every (λ nose. rises (points nose)) noses)
unfolding points round lt
all_rise = tt

pub nose_rises : (nose : StoneyNose) → T (rises (points nose))
nose_rises nose = holds_at (λ nose. rises (points nose)) all_rise nose
