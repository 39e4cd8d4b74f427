-- `Walker::advance` meets its contract: each turn is one step of the definition's query.
use Rattle.std.proofs.Common.{sym, ◌∙◌, arith, length-take, length-drop}
use Rattle.stoney.specs.Points.{Point, no_point}
use Rattle.walk.proofs.Turns.{moves, stops, ends_past}
use Rattle.walk.proofs.Walker.advance.Goals as goal

pub loop-self-preserved : goal.loop-self-preserved
loop-self-preserved c = record {
  made = c.loop-self.invariant.made ∙ moves _ c.args.mach c.loop-self.self.compared _ c.loop-self.self.ahead.now c.in-len1-up.len_at_least c.if-point-mach.true;
  room = omega (arith, length-take {A = Point}, length-drop {A = Point});
}

pub returns-else-point-mach-clause-made : goal.returns-else-point-mach-clause-made
returns-else-point-mach-clause-made c = sym (c.loop-self.invariant.made ∙ stops _ c.args.mach c.loop-self.self.compared _ c.loop-self.self.ahead.now c.in-len1-up.len_at_least c.if-point-mach.false)

pub returns-clause-made : goal.returns-clause-made
returns-clause-made c = sym (c.loop-self.invariant.made ∙ ends_past _ c.args.mach c.loop-self.self.compared no_point c.loop-self.self.ahead.now c.in_default.len_below)
