-- `offset` meets its contract: a row of a sheet has room among its cells.
use mathlib.Core.Path.{refl}
use native.Mathlib.Omega.{arith}
use Rattle.sheet_data.specs.Layout.{all_rows, needed_few}
use Rattle.sheet_data.specs.RowLaws.{room}
use Rattle.std.proofs.Common.{rules}
use Rattle.drag_sheet.proofs.rows.offset.Goals as goal

pub returns : goal.returns
returns c =
    let l = c.args.layout in
    let r = room c.args.row (all_rows l.finishes) l.columns c.requires in
    record { place = refl; inside = r; small = omega (arith, r, needed_few l.finishes l.columns l.few.0 l.few.1) }

pub overflow_mul-result : goal.overflow_mul-result
overflow_mul-result c =
    let l = c.args.layout in
    let r = room c.args.row (all_rows l.finishes) l.columns c.requires in
    let n = needed_few l.finishes l.columns l.few.0 l.few.1 in
    search rules
