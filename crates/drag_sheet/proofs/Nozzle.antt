-- Which nozzle diameter a call leaves: "An ignite call gives n, a burnout call puts it back to 0", and no other call changes it. A burnout after an ignite leaves a coasting
-- sheet as it was.
use mathlib.Core.Path.{◌≡◌, refl}
use lib.Ieee.{Float}
use Rattle.elementary.specs.Constants.{0·0}
use Rattle.sheet_data.specs.Contents.{Contents}
use Rattle.drag_sheet.specs.Calls.{Call, replace, insert, remove, set_column, ignite, burnout, applied}

abbrev pub nozzle_after : Call → Float → Float
nozzle_after (replace place p) n = n
nozzle_after (insert place p) n = n
nozzle_after (remove place) n = n
nozzle_after (set_column k M R) n = n
nozzle_after (ignite new) n = new
nozzle_after burnout n = 0·0

pub nozzle_left : (call : Call) (c : Contents) → (applied call c).nozzle ≡ nozzle_after call c.nozzle
nozzle_left (replace place p) c = refl
nozzle_left (insert place p) c = refl
nozzle_left (remove place) c = refl
nozzle_left (set_column k M R) c = refl
nozzle_left (ignite n) c = refl
nozzle_left burnout c = refl

pub burnt_out : (n : Float) (c : Contents) → c.nozzle ≡ 0·0 → applied burnout (applied (ignite n) c) ≡ c
burnt_out n c h = rw (← h)
