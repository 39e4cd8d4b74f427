-- The lines of the input.
use Rattle.std.specs.Prelude.{ℕ, ◌<◌, ◌≤◌, List, length}
use Rattle.std.specs.List.{All, FoldsTo}

-- a line has a byte, and at most the 189 of a whole one
abbrev pub IsTaken : List ℕ → Type 0
IsTaken line = (0 < length line) × (length line ≤ 189)

-- some lines, taken in order and nothing else, lead from `before` to `after`; which lines the input has, no contract can say
abbrev pub Replayed : {S : Type 0} → (S → List ℕ → S → Type 0) → S → S → Type 0
Replayed takes before after = (lines : List (List ℕ)) × All IsTaken lines × FoldsTo takes before lines after
