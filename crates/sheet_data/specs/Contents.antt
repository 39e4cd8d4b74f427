-- What a sheet holds: the settings with their columns, the parts in order, and the nozzle diameter. This is all that docs/REFERENCE.md's hand copy keeps, and all that the rows are
-- made from; what stands past a count in an array is not in it.
use Rattle.std.specs.Prelude.{◌≡◌, List, ℕ, zero, suc, ◌≤◌, ◌<◌, take, get_or, replicate, Float, None}
use Rattle.std.proofs.Common.{get_or-take}
use Rattle.std.specs.Float.{nan}
use Rattle.elementary.specs.Constants.{0·0}
use Rattle.shapes.specs.declared.NoseShape.TheVariants.{Conical}
use Rattle.sheet_data.specs.declared.Settings.{Settings}
use Rattle.sheet_data.specs.declared.Part.{Part}
use Rattle.sheet_data.specs.declared.Design.{Design}
use Rattle.sheet_data.specs.declared.Sheet.{Sheet}
use Rattle.sheet_data.specs.Layout.{most_parts, most_columns, most_finishes, needed}

pub record Contents : Type 0 where
  pub settings : Settings
  pub parts : List Part
  pub nozzle : Float

-- the design's parts
abbrev pub parts_of : Design → List Part
parts_of d = take d.count d.parts

abbrev pub contents_of : Sheet → Contents
contents_of sheet = record { settings = sheet.settings; parts = parts_of sheet.design; nozzle = sheet.nozzle_diameter }

-- what stands in a place that was never filled
abbrev pub empty_part : Part
empty_part = record { shape = Conical; length = 0·0; aft_diameter = 0·0; joint_angle = 0·0; wetted_ratio = 0·0; roughness = None }

-- a sheet with no parts: "open starts coasting"
abbrev pub blank : Settings → Sheet
blank s = record { settings = s; design = record { count = 0; parts = replicate most_parts empty_part }; nozzle_diameter = 0·0 }

-- what a read past the last part would give; nothing looks there
abbrev pub no_part : Part
no_part = record { shape = Conical; length = nan; aft_diameter = nan; joint_angle = nan; wetted_ratio = nan; roughness = None }

-- the part at a place
abbrev pub part_at : List Part → ℕ → Part
part_at ps i = get_or ps i no_part

pub part_taken : (n i : ℕ) (ps : List Part) → i < n → part_at (take n ps) i ≡ part_at ps i
part_taken n i ps h = get_or-take n ps i _ h

-- fore diameter: "the previous part's d, 0 for place 0"
unfoldable pub fore_at : List Part → ℕ → Float
fore_at ps zero = 0·0
fore_at ps (suc i) = (part_at ps i).aft_diameter

-- the settings' roughness in a finish
abbrev pub roughness_at : Settings → ℕ → Float
roughness_at s j = get_or s.roughnesses j nan

-- a column's Mach and Reynolds number
abbrev pub mach_at : Settings → ℕ → Float
mach_at s k = get_or s.machs k nan

abbrev pub reynolds_at : Settings → ℕ → Float
reynolds_at s k = get_or s.reynolds k nan

-- a sheet within its bounds, with its rows within so many cells
pub record Fits (sheet : Sheet) (cells : ℕ) : Type 0 where
  pub finishes : sheet.settings.finishes ≤ most_finishes
  pub columns : sheet.settings.count ≤ most_columns
  pub parts : sheet.design.count ≤ most_parts
  pub room : needed sheet.settings.finishes sheet.settings.count ≤ cells
