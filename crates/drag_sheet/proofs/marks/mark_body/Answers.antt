-- `mark_body` meets its contract: the friction rows and the base row have no mark.
use mathlib.Core.Path.{ap, ◌∙◌}
use Rattle.sheet_data.specs.Contents.{contents_of}
use Rattle.drag_sheet.specs.Planes.{mark_plane}
use Rattle.drag_sheet.specs.Writing.{totalled}
use Rattle.drag_sheet.proofs.MarkRows.{body_cleared}
use Rattle.drag_sheet.proofs.marks.mark_body.Goals as goal

pub returns : goal.returns
returns c =
    let S = c.args.sheet.now.settings in
    c.clear.ensures ∙ rw (c.layout_of-layout.ensures.0, c.layout_of-layout.ensures.1) (ap (totalled mark_plane S.finishes S.count) (body_cleared (contents_of c.args.sheet.now) c.args.marks.now))
