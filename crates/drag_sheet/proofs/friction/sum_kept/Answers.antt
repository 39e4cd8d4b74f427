-- `sum_kept` meets its contract: what it has worked out, added up, is the row of the formula.
use mathlib.Core.Path.{◌≡◌, ap, ◌∙◌}
use native.Mathlib.Omega.{arith}
use lib.ListN.{length, replicate}
use lib.Seq.{take_at, length-take-le}
use Rattle.elementary.specs.Constants.{0·0}
use Rattle.sheet_data.specs.Contents.{contents_of}
use Rattle.sheet_data.specs.Layout.{most_columns}
use Rattle.sheet_data.specs.Tables.{tab_long}
use Rattle.drag_sheet.specs.Formulas.{value_of}
use Rattle.drag_sheet.proofs.AddedUp.{own_added}
use Rattle.drag_sheet.proofs.friction.sum_kept.Goals as goal
use Rattle.drag_sheet.proofs.friction.sum_kept.Goals.{After-fill_on, Start}

-- the row at the settings' roughness has a cell for each column
fill_long : (c : After-fill_on) → length c.fill_on.new.out ≡ c.args.sheet.now.settings.count
fill_long c =
    ap length c.fill_on.ensures ∙ tab_long _ _ ∙ length-take-le c.args.sheet.now.settings.count (replicate most_columns 0·0) (omega arith)

pub returns : goal.returns
returns c =
    c.add_by_place.ensures
    ∙ rw (take_at c.fill_on.new.out _ c.args.sheet.now.settings.count (fill_long (goal.at.returns c).After-fill_on))
    (own_added (contents_of c.args.sheet.now) c.args.finish _ _ _ (c.unwrap_or-form.ensures ∙ ap value_of c.body_friction_form_factor.ensures) c.requires.1
    (c.fill_on.ensures ∙ rw (length-take-le c.args.sheet.now.settings.count (replicate most_columns 0·0) (omega arith), c.wall_of.ensures)))
