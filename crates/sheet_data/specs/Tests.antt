-- What a call tests of the sheet that it is given, in the order of docs/REFERENCE.md, Order of tests, with each refusal's number, code and value. The first
-- test that fails is the refusal.
use Rattle.std.specs.Prelude.{◌≡◌, refl, Bool, true, false, cond, List, [], ◌∷◌, map, ℕ, length, ltb, eqb, Float, Ok, Err, Some, Option, None}
use Rattle.aero_error.specs.Checks.{◌then◌, unless, up_to, required, dimension, Check}
use Rattle.std.specs.Float.Ieee.{round, of_bits}
use Rattle.elementary.specs.Arithmetic.{bits}
use Rattle.elementary.specs.Tests.{between}
use Rattle.elementary.specs.Constants.{0·0, 1·0, stored, nearest}
use Rattle.drag.specs.Constants.{10000·0}
use Rattle.aero_error.specs.declared.AeroError.TheVariants.{Broken}
use Rattle.aero_error.specs.declared.Rule.TheVariants.{TooManyColumns, DesignFull, TooFewCells, OutsideInterval, FinishCount}
use Rattle.aero_error.specs.declared.Quantity.TheVariants.{BodyFineness}
use Rattle.drag.specs.Friction.{flow_checked}
use Rattle.sheet_data.specs.declared.Settings.{Settings}
use Rattle.sheet_data.specs.declared.Part.{Part}
use Rattle.sheet_data.specs.Layout.{most_parts, most_columns, most_finishes, needed}
use Rattle.sheet_data.specs.Contents.{Contents, part_at, roughness_at, mach_at, reynolds_at}

-- 0.001 and 100, ends of the house intervals
abbrev pub 0·001 : Float
0·001 = bits 0x3f50_624d_d2f1_a9fc

abbrev pub 100·0 : Float
100·0 = bits 0x4059_0000_0000_0000

abbrev house_ends : List (Float × ℕ × ℕ)
house_ends = (0·001, 1, 1000) ∷ (100·0, 100, 1) ∷ []

-- each is the binary64 number nearest to its decimal
pub constants_nearest : map stored house_ends ≡ map nearest house_ends
unfolding round of_bits
constants_nearest = refl

-- 11: outside a house interval, NaN too
abbrev pub in_interval : Float → Float → Float → Check
in_interval low x high = cond (between low x high) (Ok tt) (Err (Broken OutsideInterval))

-- "1 for each column (M, R)"
unfoldable pub columns_test : Settings → Check
columns_test s = up_to s.count (λ k. flow_checked (mach_at s k) (reynolds_at s k))

-- 19: "F of 0 or above 4"
abbrev pub finishes_wrong : ℕ → Bool
finishes_wrong F = cond (eqb F 0) true (ltb most_finishes F)

abbrev pub finishes_test : ℕ → Check
finishes_test F = unless (finishes_wrong F) FinishCount

-- 11 for each roughness, by finish
unfoldable pub roughnesses_test : Settings → Check
roughnesses_test s = up_to s.finishes (λ j. in_interval 0·0 (roughness_at s j) 1·0)

-- "11 for D, then roughness, 1 for B", and 19 "after D and before 11 for any roughness"
abbrev pub body_test : Settings → Check
body_test s =
    in_interval 0·001 s.reference_diameter 100·0
    then finishes_test s.finishes
    then roughnesses_test s
    then required (dimension s.body_fineness false) BodyFineness s.body_fineness

-- "Open: 7, 11 for D, then roughness, 1 for B, 1 for each column (M, R), 10", with the number of cells lent, and 19 after D
unfoldable pub settings_test : Settings → ℕ → Check
settings_test s cells =
    unless (ltb most_columns s.count) TooManyColumns
    then body_test s
    then columns_test s
    then unless (ltb cells (needed s.finishes s.count)) TooFewCells

-- "An n outside [0, 100], NaN too, is refusal 11"
abbrev pub nozzle_test : Float → Check
nozzle_test n = in_interval 0·0 n 100·0

-- a roughness of a part's own: "in [0, 1]"
abbrev pub own_test : Option Float → Check
own_test None = Ok tt
own_test (Some x) = in_interval 0·0 x 1·0

-- "11 for L, d, w", and "checked after w" the roughness
abbrev pub part_test : Part → Check
part_test p =
    in_interval 0·0 p.length 100·0
    then in_interval 0·0 p.aft_diameter 100·0
    then in_interval 0·0 p.wetted_ratio 10000·0
    then own_test p.roughness

-- "11 for held L, d, w by place", and the roughness after w
unfoldable pub parts_test : List Part → Check
parts_test ps = up_to (length ps) (λ i. part_test (part_at ps i))

-- "Edits and set column first test the sheet given: its settings as at open (10 last), 9 for a count above 16, 11 for held L, d, w by place", and 11 for the held
-- nozzle diameter "right after 10". The number of cells lent and the count are those of the sheet given
unfoldable pub sheet_test : Contents → ℕ → ℕ → Check
sheet_test c cells count =
    settings_test c.settings cells
    then nozzle_test c.nozzle
    then unless (ltb most_parts count) DesignFull
    then parts_test c.parts
