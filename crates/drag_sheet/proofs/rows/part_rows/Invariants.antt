-- The loop of `part_rows`: the rows of the places before this one are written, in both planes, and each of them could be.
use mathlib.Core.List.{List}
use Prim.Native.Nat.{ℕ}
use lib.ListN.{take}
use Rattle.elementary.specs.Constants.{0·0}
use Rattle.sheet_data.specs.declared.Part.{Part}
use Rattle.sheet_data.specs.declared.Settings.{Settings}
use Rattle.sheet_data.specs.Contents.{Contents}
use Rattle.drag_sheet.specs.Planes.{cell_plane, mark_plane}
use Rattle.drag_sheet.proofs.Laying.{Laying}
use Rattle.drag_sheet.proofs.rows.part_rows.Given as goal

-- the contents that the rows are made from; no part's row depends on the nozzle diameter
abbrev pub contents : Settings → ℕ → List Part → Contents
contents s n slots = record { settings = s; parts = take n slots; nozzle = 0·0 }

abbrev pub invariant-loop-place : goal.invariant-loop-place
invariant-loop-place l = record {
  cells : Laying cell_plane (contents l.settings l.fn.sheet.design.count l.fn.sheet.design.parts) l.fn.sheet.design.count l.initial.cells l.cells l.fore l.place;
  marks : Laying mark_plane (contents l.settings l.fn.sheet.design.count l.fn.sheet.design.parts) l.fn.sheet.design.count l.initial.marks l.marks l.fore l.place;
}
