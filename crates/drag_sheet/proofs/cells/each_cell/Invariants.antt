-- The loop of `each_cell`: the cells before i are made anew, the others are as they were.
use Rattle.drag_sheet.proofs.Each.{EachSome}
use Rattle.drag_sheet.proofs.cells.each_cell.Given as goal

abbrev pub invariant-loop-i : goal.invariant-loop-i
invariant-loop-i g l = EachSome (λ x y r. goal.F-post g l.make x y r) l.list l.initial.cells l.cells l.i
