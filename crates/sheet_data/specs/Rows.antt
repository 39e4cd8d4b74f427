-- Cells of any kind, lying row after row, C to a row: a row read, a row written, rows written one after the other.
use Rattle.std.specs.Prelude.{◌≢◌, List, [], ◌∷◌, ◌++◌, ℕ, zero, suc, ◌+◌, ◌*◌, ◌<◌, length, take, drop}

-- the numbers of n rows from `at` on, the last first
abbrev pub from : ℕ → ℕ → List ℕ
from at zero = []
from at (suc n) = (at + n) ∷ from at n

-- a row that is none of these
abbrev pub Unnamed : List ℕ → ℕ → Type 0
Unnamed [] r = Unit {0}
Unnamed (n ∷ ns) r = (r ≢ n) × Unnamed ns r

-- rows among the first n
abbrev pub Below : ℕ → List ℕ → Type 0
Below n [] = Unit {0}
Below n (r ∷ rs) = (r < n) × Below n rs

module _ {A : Type 0} where
  -- row r
  abbrev pub row_at : ℕ → List A → ℕ → List A
  row_at C xs r = take C (drop (r * C) xs)

  -- the cells with some of them, from `at` on, written anew
  abbrev pub written : ℕ → List A → List A → List A
  written at row xs = take at xs ++ (row ++ drop (length row) (drop at xs))

  -- the cells with these rows written anew, the first of the list last
  unfoldable pub rows_written : ℕ → (ℕ → List A) → List ℕ → List A → List A
  rows_written C f [] xs = xs
  rows_written C f (r ∷ rs) xs = written (r * C) (f r) (rows_written C f rs xs)

  -- n rows laid one after the other
  unfoldable pub laid : ℕ → (ℕ → List A) → List A
  laid zero f = []
  laid (suc n) f = f zero ++ laid n (λ r. f (suc r))
