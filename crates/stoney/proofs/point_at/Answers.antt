-- `point_at` meets its contract, by computing: each of the 149 stored numbers is the binary64 number nearest the tabled one, and past them there is none.
use Rattle.std.proofs.Common.{ap, sym, arith}
use lib.Ieee.{of_bits, round}
use lib.ListN.{get_or-eq_default}
use Rattle.stoney.specs.Points.{Point, points, all_points, no_point, any_default, mach_at, drag_at}
use Rattle.stoney.proofs.Table.{all_149}
use Rattle.stoney.proofs.point_at.Goals as goal

pub returns-then-place-lt-POINTS : goal.returns-then-place-lt-POINTS
unfolding mach_at drag_at points all_points of_bits round
returns-then-place-lt-POINTS c =
    let here = any_default all_points c.args.place _ no_point (omega (arith, all_149)) in
    (ap (λ (p : Point). p.mach) here, ap (λ (p : Point). p.drag) here)

pub returns-else-place-lt-POINTS : goal.returns-else-place-lt-POINTS
unfolding mach_at drag_at points all_points of_bits round
returns-else-place-lt-POINTS c =
    let past = sym (get_or-eq_default all_points no_point c.if-place-lt-POINTS.false) in
    (ap (λ (p : Point). p.mach) past, ap (λ (p : Point). p.drag) past)
