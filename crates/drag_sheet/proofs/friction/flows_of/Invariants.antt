-- The loop of `flows_of`: the flows of the columns before i are there.
use Rattle.std.specs.Prelude.{true}
use Rattle.drag.specs.Flows.{flow_of}
use Rattle.sheet_data.specs.Contents.{mach_at, reynolds_at}
use Rattle.sheet_data.specs.Tables.{Filling}
use Rattle.drag_sheet.proofs.friction.flows_of.Given as goal

abbrev pub invariant-loop-i : goal.invariant-loop-i
invariant-loop-i l = Filling (λ k. flow_of true (reynolds_at l.settings k) (mach_at l.settings k)) l.initial.flows l.flows l.i
