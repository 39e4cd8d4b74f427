-- `elementary::powf` meets its contract.
use Rattle.elementary.specs.Steps.{POW}
use Rattle.elementary.proofs.powf.Goals as goal
use Rattle.elementary.proofs.powf.Goals.{then-is_nan-via-then-is_nan, then-is_nan-via-else-is_nan+then-is_nan-2}

pub returns-then-x : goal.returns-then-x
unfolding POW
returns-then-x c = rw c.if-x.true c.nan.ensures

pub returns-then-y : goal.returns-then-y
unfolding POW
returns-then-y c = rw (c.if-x.false, c.if-y.true)

pub returns-then-x-2 : goal.returns-then-x-2
unfolding POW
returns-then-x-2 c = rw (c.if-x.false, c.if-y.false, c.if-x-2.true)

pub returns-then-is_nan : goal.returns-then-is_nan
unfolding POW
returns-then-is_nan c =
    elim c.then-is_nan.branch [
      | then-is_nan-via-then-is_nan w ↦ rw (c.if-x.false, c.if-y.false, c.if-x-2.false, ← c.is_nan.ensures.value, w.if-is_nan.true) c.nan-then-is_nan.ensures
      | then-is_nan-via-else-is_nan+then-is_nan-2 w ↦ rw (c.if-x.false, c.if-y.false, c.if-x-2.false, ← c.is_nan.ensures.value, w.if-is_nan.false, ← w.is_nan-else-is_nan.ensures.value, w.if-is_nan-2.true) c.nan-then-is_nan.ensures
    ]

pub returns : goal.returns
unfolding POW
returns c = rw (c.if-x.false, c.if-y.false, c.if-x-2.false, ← c.is_nan.ensures.value, c.if-is_nan.false, ← c.is_nan-else-is_nan.ensures.value, c.if-is_nan-2.false) c.pow_steps.ensures
