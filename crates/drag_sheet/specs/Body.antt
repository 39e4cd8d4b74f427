-- The rows of the whole body as the code works them out: the base with its share of the reference area, the friction with what each column and each roughness
-- decides worked out once, and the totals' marks taken from one part row after the other.
use Rattle.std.specs.Prelude.{◌≡◌, Bool, true, false, cond, eqb, List, ℕ, ◌≤◌, ◌<◌, length, get_or, replicate, Float, is_some, Option, Some, None, Result, Ok}
use Rattle.std.specs.Float.{nan}
use Rattle.std.specs.List.{list_any}
use Rattle.elementary.specs.Arithmetic.{◌⊕◌, ◌⊗◌}
use Rattle.elementary.specs.Constants.{0·0}
use Rattle.aero_error.specs.declared.AeroError.{AeroError}
use Rattle.drag.specs.declared.Wall.{Wall}
use Rattle.drag.specs.declared.Flow.{Flow}
use Rattle.drag.specs.declared.Flow.TheVariants.{Subsonic}
use Rattle.drag.specs.Friction.{wall_of}
use Rattle.drag.specs.Flows.{flow_of, friction_in}
use Rattle.drag.specs.Pressure.{base_drag_coefficient}
use Rattle.sheet_data.specs.declared.Settings.{Settings}
use Rattle.sheet_data.specs.declared.Part.{Part}
use Rattle.sheet_data.specs.declared.Sheet.{Sheet}
use Rattle.sheet_data.specs.Layout.{most_parts, most_columns, most_finishes}
use Rattle.sheet_data.specs.Contents.{Contents, parts_of, mach_at, reynolds_at}
use Rattle.sheet_data.specs.Tables.{tab}
use Rattle.drag_sheet.specs.Formulas.{value_of, friction_cell}

-- ---- the base

-- a base cell from the share of the reference area
abbrev pub base_over : Float → Float → Float
base_over area M = value_of (base_drag_coefficient M) ⊗ area

-- ---- the friction

-- the friction row of a finish, and what is asked of cells in which it is added up: one for each column, all +0
abbrev pub friction_row_cells : Contents → ℕ → List Float
friction_row_cells c j = tab c.settings.count (λ k. friction_cell c j (mach_at c.settings k) (reynolds_at c.settings k))

pub record SumAsked (sheet : Sheet) (finish : ℕ) (sum : List Float) : Type 0 where
  pub inside : finish < most_finishes
  pub columns : sheet.settings.count ≤ most_columns
  pub parts : sheet.design.count ≤ most_parts
  pub zeros : sum ≡ replicate sheet.settings.count 0·0

-- whether any of the parts has a roughness of its own
abbrev pub any_own : List Part → Bool
any_own = list_any (λ p. is_some p.roughness)

-- what a read past the last column would give; nothing looks there
abbrev pub no_flow : Result Flow AeroError
no_flow = Ok (Subsonic nan nan nan)

abbrev pub flow_at : List (Result Flow AeroError) → ℕ → Result Flow AeroError
flow_at flows k = get_or flows k no_flow

-- the flow of each column, for frictions on any wall
pub record Flows (s : Settings) (flows : List (Result Flow AeroError)) : Type 0 where
  pub long : s.count ≤ length flows
  pub at : (k : ℕ) → k < s.count → flow_at flows k ≡ flow_of true (reynolds_at s k) (mach_at s k)

-- the flows that are kept for a sheet's frictions. Where none are, no part has a roughness of its own
abbrev pub KeptFlows : Sheet → Option (List (Result Flow AeroError)) → Type 0
KeptFlows sheet (Some flows) = Flows sheet.settings flows
KeptFlows sheet None = any_own (parts_of sheet.design) ≡ false

-- friction × form factor, on a wall, and for a part of this roughness, `common` being that of the settings' roughness
abbrev pub formed : Wall → Float → Result Flow AeroError → Float
formed wall form flow = value_of (friction_in wall flow) ⊗ form

abbrev pub formed_for : Option Float → Float → Float → Result Flow AeroError → Float
formed_for None common form flow = common
formed_for (Some x) common form flow = formed (wall_of x) form flow

-- four more terms of a sum
abbrev pub four_more : Float → Float → Float → Float → Float → Float → Float
four_more sum x a b c d = sum ⊕ x ⊗ a ⊕ x ⊗ b ⊕ x ⊗ c ⊕ x ⊗ d

-- ---- the marks of a total

-- one part row more
abbrev pub any_more : ℕ → ℕ → ℕ
any_more any mark = cond (eqb mark 0) any 1
