-- `build_column` meets its contract: the sheet with that column alone is built.
use Rattle.std.proofs.Common.{rules, ◌≡◌, ◌<◌, arith, length}
use Rattle.sheet_data.specs.Layout.{most_columns}
use Rattle.sheet_data.specs.Contents.{parts_of}
use Rattle.drag_sheet.specs.Planes.{cell_plane, mark_plane}
use Rattle.drag_sheet.proofs.Verdicts.{filled_same}
use Rattle.drag_sheet.proofs.OneColumn.{column_tried, column_built}
use Rattle.drag_sheet.proofs.rows.build_column.Goals as goal

pub returns : goal.returns
returns c =
    let s = c.args.sheet in
    let m : length s.settings.machs ≡ most_columns = search rules in
    let n : length s.settings.reynolds ≡ most_columns = search rules in
    let ps = parts_of s.design in
    let f = c.requires.0 in
    let a : c.args.column < length s.settings.machs = omega (arith, f.columns, f.inside) in
    let b : c.args.column < length s.settings.reynolds = omega (arith, f.columns, f.inside) in
    let k = c.args.column in
    let M = c.args.mach in
    let R = c.args.reynolds in
    let tried = column_tried s.settings ps s.nozzle_diameter k M R a b in
    record {
      cells = filled_same (rw c.one_column-one.ensures tried) (rw c.one_column-one.ensures (column_built s.settings ps s.nozzle_diameter k M R a b cell_plane)) c.build_rows.ensures.cells;
      marks = filled_same (rw c.one_column-one.ensures tried) (rw c.one_column-one.ensures (column_built s.settings ps s.nozzle_diameter k M R a b mark_plane)) c.build_rows.ensures.marks;
    }
