-- `base_area` meets its contract.
use mathlib.Core.Path.{◌≡◌, ◌∙◌}
use lib.ListN.{length}
use lib.Seq.{length-take-le}
use native.Mathlib.Omega.{arith}
use Rattle.sheet_data.specs.Contents.{parts_of}
use Rattle.drag_sheet.proofs.RowKinds.{fore_taken}
use Rattle.drag_sheet.proofs.body.base_area.Goals as goal

pub returns : goal.returns
returns c =
    let d = c.args.sheet.design in
    let n : length (parts_of d) ≡ d.count = length-take-le d.count d.parts (omega (arith, c.well_formed.0.1.1.1.0.1.1.1.0.1.0.1)) in
    c.base_ratio.ensures ∙ rw (c.fore_diameter-last.ensures, n, fore_taken d.count d.count d.parts (omega arith))
