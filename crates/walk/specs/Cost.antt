-- What a walk costs, told without walking: each point at or below the last query is met once on the way past it, and each query that doesn't reach the last point
-- once more, where it ends.
use Rattle.std.specs.Prelude.{cond, List, [], ◌∷◌, ℕ, suc, ◌+◌, Float}
use Rattle.stoney.specs.declared.StoneyNose.{StoneyNose}
use Rattle.stoney.specs.Points.{Point, points, no_point}
use Rattle.walk.specs.Walk.{reached}

-- the points at or below M
unfoldable pub reached_by : Float → List Point → ℕ
reached_by M [] = 0
reached_by M (p ∷ ps) = cond (reached p M) (suc (reached_by M ps)) (reached_by M ps)

-- the queries below the point p
unfoldable pub short_of : Point → List Float → ℕ
short_of p [] = 0
short_of p (M ∷ Ms) = cond (reached p M) (short_of p Ms) (suc (short_of p Ms))

-- (no table is empty)
abbrev pub last : List Point → Point
last [] = no_point
last (p ∷ []) = p
last (p ∷ q ∷ rest) = last (q ∷ rest)

-- of the queries M and Ms
abbrev pub cost : List Point → Float → List Float → ℕ
cost ps M [] = reached_by M ps
cost ps M (N ∷ Ms) = cost ps N Ms

abbrev pub cost_of : StoneyNose → List Float → ℕ
cost_of nose [] = 0
cost_of nose (M ∷ Ms) = cost (points nose) M Ms + short_of (last (points nose)) (M ∷ Ms)
