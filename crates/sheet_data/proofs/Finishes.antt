-- The rows of F finishes: parts, frictions, base, totals, in this order (`in_order`), each by its number (`row_numbers`); of one finish the 19 rows of document 01 (`one_finish`).
use mathlib.Core.Path.{◌≡◌, refl}
use Prim.Native.Nat.{ℕ, ◌+◌, ◌*◌, ◌≤◌, ◌<◌}
use native.Mathlib.Omega.{arith}
use Rattle.sheet_data.specs.Layout.{friction_row, base_row, total_row, all_rows, needed}

pub in_order : (F j : ℕ) → j < F → (16 ≤ friction_row j) × (friction_row j < base_row F) × (base_row F < total_row F j) × (total_row F j < all_rows F)
in_order F j h = (omega arith, omega arith, omega arith, omega arith)

pub row_numbers : (F j : ℕ) → (friction_row j ≡ 16 + j) × (base_row F ≡ 16 + F) × (total_row F j ≡ 17 + F + j) × (all_rows F ≡ 17 + 2 * F)
row_numbers F j = (refl, refl, omega arith, refl)

-- "16 part rows, friction, base, total", "19 × C"
pub one_finish : (C : ℕ) → (friction_row 0 ≡ 16) × (base_row 1 ≡ 17) × (total_row 1 0 ≡ 18) × (needed 1 C ≡ 19 * C)
one_finish C = (refl, refl, refl, refl)

-- "(17 + 2 × F) × C"
pub cells_needed : (F C : ℕ) → needed F C ≡ (17 + 2 * F) * C
cells_needed F C = refl
