-- `prepare` meets its contract.
use Rattle.aero_error.proofs.HandedOn.{handed_on}
use Rattle.drag_sheet.specs.Formulas.{prepared_of}
use Rattle.drag_sheet.proofs.part.prepare.Goals as goal

pub returns-in_err-curve : goal.returns-in_err-curve
unfolding prepared_of
returns-in_err-curve c = rw (c.if-fore-aft.true, ← c.new.ensures, c.in_err-curve.was) (handed_on _ _ c.from_residual.ensures)

pub returns-then-fore-aft : goal.returns-then-fore-aft
unfolding prepared_of
returns-then-fore-aft c = rw (c.if-fore-aft.true, ← c.new.ensures, c.in_ok-curve.was, ← c.area_ratio-area.ensures)

pub returns-then-aft-fore : goal.returns-then-aft-fore
unfolding prepared_of
returns-then-aft-fore c = rw (c.if-fore-aft.false, c.if-aft-fore.true, ← c.area_ratio-area-then-aft-fore.ensures)

pub returns : goal.returns
unfolding prepared_of
returns c = rw (c.if-fore-aft.false, c.if-aft-fore.false)
