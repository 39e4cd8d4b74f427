-- `fore_diameter` meets its contract.
use Prim.Native.Nat.{suc, ◌-◌}
use mathlib.Core.Path.{◌≡◌, ap}
use native.Mathlib.Omega.{arith}
use Rattle.sheet_data.specs.Contents.{fore_at}
use Rattle.drag_sheet.proofs.body.fore_diameter.Goals as goal

pub returns-then-place-eq0 : goal.returns-then-place-eq0
unfolding fore_at
returns-then-place-eq0 c = rw c.if-place-eq0.true

pub returns : goal.returns
unfolding fore_at
returns c =
    let d = c.args.design in
    let n = c.args.place in
    let e : suc (n - 1) ≡ n = omega (arith, c.if-place-eq0.false) in
    ap (fore_at d.parts) e
