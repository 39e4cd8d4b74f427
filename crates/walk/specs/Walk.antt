-- The walk along a table, query by query: "The walk starts at the first point; a query is set against the current point, moves one on while that point is at
-- or below it, and ends at a higher point or past the last." Each query begins where the one before ended.
use Rattle.std.specs.Prelude.{Bool, cond, List, [], ◌∷◌, ℕ, suc, ◌+◌, Float, Option, Some, None}
use Rattle.elementary.specs.Arithmetic.{◌≼◌}
use Rattle.stoney.specs.declared.StoneyNose.{StoneyNose}
use Rattle.stoney.specs.declared.ValueAndSlope.{ValueAndSlope}
use Rattle.stoney.specs.Points.{Point, points, no_point}
use Rattle.stoney.specs.Lookup.{before, line, held}

-- Where the walk stands: the last point that it passed, if it passed any, and the points from the current one on.
pub record Stand : Type 0 where
  pub passed : Option Point
  pub ahead : List Point

-- What a query comes to: how many times it was set against a point, and where it ends.
pub record Went : Type 0 where
  pub compared : ℕ
  pub ends : Stand

-- set against one point more
abbrev pub once_more : Went → Went
once_more w = record { compared = suc w.compared; ends = w.ends }

-- "at or below it"
abbrev pub reached : Point → Float → Bool
reached p M = p.mach ≼ M

-- one query, from the last point passed and the current one on: it moves one on while the current point is at or below it, and ends at a higher one. Past the last
-- point it is set against none.
unfoldable pub leg : Option Point → List Point → Float → Went
leg passed [] M = record { compared = 0; ends = record { passed = passed; ahead = [] } }
leg passed (p ∷ ahead) M =
    cond (reached p M)
    (once_more (leg (Some p) ahead M))
    (record { compared = 1; ends = record { passed = passed; ahead = p ∷ ahead } })

abbrev pub went : Stand → Float → Went
went stand M = leg stand.passed stand.ahead M

-- what the table says at M where its query ends: on the line between the two points there, before the first one, or past the last
abbrev pub read_at : Stand → Float → ValueAndSlope
read_at stand M = between stand.passed stand.ahead
  where
    between : Option Point → List Point → ValueAndSlope
    between None [] = held no_point
    between None (first ∷ rest) = before first M
    between (Some last) [] = held last
    between (Some p) (q ∷ rest) = line p q M

-- The values of all queries, and the number of times that a query was set against a point.
pub record Walk : Type 0 where
  pub values : List Float
  pub compared : ℕ

unfoldable pub walk_from : Stand → List Float → Walk
walk_from stand [] = record { values = []; compared = 0 }
walk_from stand (M ∷ Ms) =
    let one = went stand M in
    let rest = walk_from one.ends Ms in
    record { values = (read_at one.ends M).value ∷ rest.values; compared = one.compared + rest.compared }

abbrev pub start : StoneyNose → Stand
start nose = record { passed = None; ahead = points nose }

unfoldable pub walk_of : StoneyNose → List Float → Walk
walk_of nose Ms = walk_from (start nose) Ms
