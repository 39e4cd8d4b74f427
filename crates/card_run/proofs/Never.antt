-- Two tests of docs/REFERENCE.md, Order of tests, never fail in a run: a part inserted last has its place (8), and the cells of the largest sheet are enough
-- for any (10). So `sheet` never prints `refused 8` or `refused 10` for them.
use Rattle.std.specs.Prelude.{Ok}
use mathlib.Core.Path.{◌≡◌}
use Prim.Native.Nat.{ℕ, ◌≤◌}
use native.Mathlib.Omega.{arith}
use lib.Dec.{leb, ltb}
use borrow.Author.Tests.{le-ltb}
use Rattle.aero_error.specs.declared.Rule.TheVariants.{DesignFull, TooFewCells}
use Rattle.aero_error.specs.Checks.{◌then◌, unless}
use Rattle.sheet_data.specs.declared.Settings.{Settings}
use Rattle.sheet_data.specs.declared.Part.{Part}
use Rattle.sheet_data.specs.declared.Sheet.{Sheet}
use Rattle.sheet_data.specs.Layout.{most_parts, most_columns, most_finishes, most_cells, needed, needed_few}
use Rattle.sheet_data.specs.Tests.{part_test}
use Rattle.drag_sheet.specs.Calls.{insert, arguments_test}
use Rattle.card_run.specs.Run.{last_place, insert_last}

present : (place : ℕ) (s : Settings) (count : ℕ) (part : Part) → place ≤ count → arguments_test (insert place part) s count ≡ (unless (leb most_parts count) DesignFull then part_test part)
present place s count part h = rw (le-ltb count place h)

-- of the tests of insert's arguments, 9 and 11 are left
pub place_present : (sheet : Sheet) (part : Part) → arguments_test (insert_last sheet part) sheet.settings sheet.design.count
    ≡ (unless (leb most_parts sheet.design.count) DesignFull then part_test part)
place_present sheet part = present (last_place sheet) sheet.settings sheet.design.count part (omega arith)

pub cells_enough : (F C : ℕ) → F ≤ most_finishes → C ≤ most_columns → unless (ltb most_cells (needed F C)) TooFewCells ≡ Ok tt
cells_enough F C f c = rw (le-ltb most_cells (needed F C) (needed_few F C f c))
