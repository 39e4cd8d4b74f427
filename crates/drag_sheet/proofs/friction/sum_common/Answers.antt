-- `sum_common` meets its contract: the row at the settings' roughness, added for each part, is the row of the formula.
use mathlib.Core.Path.{◌≡◌, ap, ◌∙◌}
use native.Mathlib.Omega.{arith}
use Rattle.std.proofs.Common.{rules}
use lib.ListN.{length}
use lib.Seq.{take_at, length-take-le}
use Rattle.sheet_data.specs.Layout.{most_columns}
use Rattle.sheet_data.specs.Contents.{contents_of, roughness_at}
use Rattle.sheet_data.specs.Tables.{tab_long}
use Rattle.drag_sheet.specs.Formulas.{value_of}
use Rattle.drag_sheet.proofs.AddedUp.{once_filled, common_added}
use Rattle.drag_sheet.proofs.friction.sum_common.Goals as goal
use Rattle.drag_sheet.proofs.friction.sum_common.Goals.{After-fill_once, Start}

-- the settings' array holds its Mach numbers
long : (s : Start) → length s.args.sheet.settings.machs ≡ most_columns
long s = search rules

-- the row at the settings' roughness has a cell for each column
fill_long : (c : After-fill_once) → length c.fill_once.new.cells ≡ c.args.sheet.settings.count
fill_long c =
    ap length c.fill_once.ensures ∙ tab_long _ _ ∙ length-take-le c.args.sheet.settings.count c.args.sheet.settings.machs (omega (arith, long (goal.at.After-fill_once c).Start))

pub returns : goal.returns
returns c =
    let S = c.args.sheet.settings in
    c.add_common.ensures
    ∙ rw (take_at c.fill_once.new.cells _ S.count (fill_long (goal.at.returns c).After-fill_once))
    (common_added (contents_of c.args.sheet) c.args.finish _ c.requires.1
    (c.fill_once.ensures
    ∙ rw (length-take-le S.count S.machs (omega (arith, long (goal.at.returns c).Start))) (once_filled S (roughness_at S c.args.finish) _ _ c.wall_of-wall.ensures (c.unwrap_or-form.ensures ∙ ap value_of c.body_friction_form_factor.ensures))))
