-- The walk as the program makes it: where its walker stands, what a query does to it, and what all of them come to.
use Rattle.std.specs.Prelude.{◌≡◌, List, ℕ, ◌+◌, Float, None}
use Rattle.std.proofs.lemmas.List.Edits.{sets}
use Rattle.stoney.specs.Points.{Point}
use Rattle.walk.specs.declared.Walker.{Walker}
use Rattle.walk.specs.Walk.{Stand, Went, Walk}

abbrev pub stand : Walker → Stand
stand w = record { passed = w.passed; ahead = w.ahead.now }

-- what all queries so far came to
abbrev pub stood : Walker → Went
stood w = record { compared = w.compared; ends = stand w }

-- a query, with n comparisons before it
abbrev pub after : ℕ → Went → Went
after n w = record { compared = n + w.compared; ends = w.ends }

-- before the first of these points
abbrev pub at_first : List Point → Stand
at_first ps = record { passed = None; ahead = ps }

-- a walk's count r, and its values put into the cells xs, which are ys then
abbrev pub WalkMade : Walk → List Float → ℕ → List Float → Type 0
WalkMade walk xs r ys = (r ≡ walk.compared) × (ys ≡ sets xs 0 walk.values)
