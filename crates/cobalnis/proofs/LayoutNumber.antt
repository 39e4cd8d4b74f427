-- What the layout's number is by hand: interface 1, 202 words of a sheet, 800 cells. A slip in a size or in how they are put together
-- that code and definition share is refused here, and the header has the same number.
use Rattle.std.specs.Prelude.{◌≡◌, refl}
use Rattle.cobalnis.specs.Version.{layout}

pub layout_by_hand : layout ≡ 102020800
layout_by_hand = refl
