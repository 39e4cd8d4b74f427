-- Where the cells of a sheet lie (docs/REFERENCE.md, Sheet), as functions of how many finishes F and columns C there are: "16 part rows", then "friction and total get a
-- row for each, all friction rows before base and all totals after it".
use Rattle.std.specs.Prelude.{◌≡◌, ℕ, ◌+◌, ◌*◌, ◌≤◌}
use Rattle.std.proofs.Common.{mul-le-mul, arith}

abbrev pub most_parts : ℕ
most_parts = 16

abbrev pub most_columns : ℕ
most_columns = 32

abbrev pub most_finishes : ℕ
most_finishes = 4

-- the friction row of finish j, the base row, and the total row of finish j
abbrev pub friction_row : ℕ → ℕ
friction_row j = most_parts + j

abbrev pub base_row : ℕ → ℕ
base_row F = most_parts + F

abbrev pub total_row : ℕ → ℕ → ℕ
total_row F j = base_row F + 1 + j

abbrev pub all_rows : ℕ → ℕ
all_rows F = most_parts + 1 + 2 * F

-- the cells that a sheet of F finishes and C columns needs
abbrev pub needed : ℕ → ℕ → ℕ
needed F C = all_rows F * C

abbrev pub most_cells : ℕ
most_cells = needed most_finishes most_columns

-- where a row begins among C columns, with room for it
pub record RowPlace (F C row at : ℕ) : Type 0 where
  pub place : at ≡ row * C
  pub inside : at + C ≤ needed F C
  pub small : at + C ≤ most_cells

pub needed_few : (F C : ℕ) → F ≤ most_finishes → C ≤ most_columns → needed F C ≤ most_cells
needed_few F C f c = mul-le-mul {n₂ = all_rows most_finishes} {m₂ = most_columns} (omega arith) c
