-- The measure of each member of the cycle of curve, reference and method: the depth, which falls by one at every call.
use Rattle.nose_drag.proofs.curve.+pressure_drag.Given as goal

abbrev pub decreases-PressureDragCurve::from_transonic : goal.decreases-PressureDragCurve::from_transonic
decreases-PressureDragCurve::from_transonic l = l.depth

abbrev pub decreases-PressureDragCurve::value_and_slope : goal.decreases-PressureDragCurve::value_and_slope
decreases-PressureDragCurve::value_and_slope l = l.depth

abbrev pub decreases-Reference::value_and_slope : goal.decreases-Reference::value_and_slope
decreases-Reference::value_and_slope l = l.depth

abbrev pub decreases-Transonic::value_and_slope : goal.decreases-Transonic::value_and_slope
decreases-Transonic::value_and_slope l = l.depth
