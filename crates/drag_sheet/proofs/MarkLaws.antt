-- What the marks of a sheet say. A part's mark is its curve's, whatever its value and area (`part_marked`), and 0 where there is no curve or no part; any mark that isn't 0 counts for a
-- total (`any_marked`, `none_marked`); every mark of a build is 0 or 1 (`marks_are_bits`); and a short buffer of either kind is short (`short_either`).
use Rattle.std.specs.Prelude.{Ok, Err, ◌||◌}
use mathlib.Core.Path.{◌≡◌, refl, ap, ◌∙◌}
use mathlib.Core.Logic.{◌≢◌, dite}
use mathlib.Core.Bool.{Bool, true, false, cond}
use Prim.Native.Nat.{ℕ, zero, suc, ◌≤◌, ◌<◌}
use native.Mathlib.Decide.{dec_lt, ℕ_discrete}
use native.Mathlib.Omega.{arith}
use lib.ListN.{length}
use lib.Dec.{ltb, eqb}
use lib.Ieee.{Float}
use borrow.Author.Tests.{lt-ltb, le-ltb, eq-eqb, ne_eqb}
use Rattle.sheet_data.specs.Layout.{most_parts}
use Rattle.sheet_data.specs.Contents.{Contents, mach_at, reynolds_at}
use Rattle.nose_drag.specs.declared.curve.PressureDragCurve.{PressureDragCurve}
use Rattle.nose_drag.specs.Beyond.{curve_beyond}
use Rattle.drag_sheet.specs.declared.part.Row.{Row}
use Rattle.drag_sheet.specs.declared.part.Row.TheVariants.{Widening, Narrowing, Level}
use Rattle.drag_sheet.specs.Formulas.{Prepared, mark_of, mark_from, any_to}
use Rattle.drag_sheet.specs.Planes.{mark_plane, Lent, cells_lent}
use Rattle.drag_sheet.specs.Build.{Kind, part, friction, base, total, kind_at, prepared_at, part_cell, kind_cell, cell_at}

-- ---- a part's mark

module _ (c : Contents) (i : ℕ) (h : i < length c.parts) (M : Float) where
  -- whatever the coefficient and the area are
  pub part_marked : (curve : PressureDragCurve) (area : Float) → prepared_at c i ≡ Ok (Widening curve area) → part_cell mark_plane c i M ≡ cond (curve_beyond curve M) 1 0
  unfolding part_cell mark_of
  part_marked curve area e = rw (lt-ltb i (length c.parts) h, e)

  -- "part rows without a curve have none"
  pub narrow_unmarked : (l f d area : Float) → prepared_at c i ≡ Ok (Narrowing l f d area) → part_cell mark_plane c i M ≡ 0
  unfolding part_cell mark_of
  narrow_unmarked l f d area e = rw (lt-ltb i (length c.parts) h, e)

  pub level_unmarked : prepared_at c i ≡ Ok Level → part_cell mark_plane c i M ≡ 0
  unfolding part_cell mark_of
  level_unmarked e = rw (lt-ltb i (length c.parts) h, e)

-- nor has the row of a place without a part
pub empty_unmarked : (c : Contents) (i : ℕ) (M : Float) → length c.parts ≤ i → part_cell mark_plane c i M ≡ 0
unfolding part_cell
empty_unmarked c i M h = rw (le-ltb i (length c.parts) h)

-- ---- a total's mark: "if a part mark of its column isn't 0"

pub any_marked : (n : ℕ) (f : ℕ → ℕ) (i : ℕ) → i < n → f i ≢ 0 → any_to n f ≡ 1
unfolding any_to
any_marked zero f i h u = absurd (omega arith)
any_marked (suc n) f i h u =
    dite (ℕ_discrete (f n) 0)
    (λ e. rw (eq-eqb (f n) 0 e) (any_marked n f i (dite (ℕ_discrete i n) (λ q. absurd (u (ap f q ∙ e))) (λ q. omega arith)) u))
    (λ e. rw (ne_eqb (f n) 0 e))

pub none_marked : (n : ℕ) (f : ℕ → ℕ) → ((i : ℕ) → i < n → f i ≡ 0) → any_to n f ≡ 0
unfolding any_to
none_marked zero f h = refl
none_marked (suc n) f h = rw (eq-eqb (f n) 0 (h n (omega arith))) (none_marked n f (λ i l. h i (omega arith)))

any_few : (n : ℕ) (f : ℕ → ℕ) → any_to n f ≤ 1
unfolding any_to
any_few zero f = omega arith
any_few (suc n) f = by (eqb (f n) 0) (any_few n f)
  where
    by : (b : Bool) → any_to n f ≤ 1 → cond b (any_to n f) 1 ≤ 1
    by true h = h
    by false h = omega arith

-- ---- "bytes 0 or 1"

bit_of : (b : Bool) → cond b 1 0 ≤ 1
bit_of true = omega arith
bit_of false = omega arith

row_few : (row : Row) (M : Float) → mark_of row M ≤ 1
unfolding mark_of
row_few (Widening curve area) M = bit_of (curve_beyond curve M)
row_few (Narrowing l f d area) M = omega arith
row_few Level M = omega arith

from_few : (p : Prepared) (M : Float) → mark_from p M ≤ 1
from_few (Ok row) M = row_few row M
from_few (Err e) M = omega arith

part_few : (c : Contents) (i : ℕ) (M : Float) → part_cell mark_plane c i M ≤ 1
unfolding part_cell
part_few c i M = by (ltb i (length c.parts))
  where
    by : (b : Bool) → cond b (mark_from (prepared_at c i) M) 0 ≤ 1
    by true = from_few (prepared_at c i) M
    by false = omega arith

kind_few : (c : Contents) (kind : Kind) (M R : Float) → kind_cell mark_plane c kind M R ≤ 1
unfolding kind_cell
kind_few c (part i) M R = part_few c i M
kind_few c (friction j) M R = omega arith
kind_few c base M R = omega arith
kind_few c (total j) M R = any_few most_parts (λ i. part_cell mark_plane c i M)

pub marks_are_bits : (c : Contents) (r k : ℕ) → cell_at mark_plane c r k ≤ 1
marks_are_bits c r k = kind_few c (kind_at c.settings.finishes r) (mach_at c.settings k) (reynolds_at c.settings k)

-- ---- "fewer .. is 10 too"

-- fewer cells than needed, or fewer marks
pub short_either : (xs : Lent) (n : ℕ) → ltb (cells_lent xs) n ≡ (ltb (length xs.cells) n || ltb (length xs.marks) n)
short_either xs n =
    dite (dec_lt (length xs.cells) n)
    (λ a. rw (lt-ltb (length xs.cells) n a, lt-ltb (cells_lent xs) n (omega arith)))
    (λ a. dite (dec_lt (length xs.marks) n)
    (λ b. rw (le-ltb (length xs.cells) n (omega arith), lt-ltb (length xs.marks) n b, lt-ltb (cells_lent xs) n (omega arith)))
    (λ b. rw (le-ltb (length xs.cells) n (omega arith), le-ltb (length xs.marks) n (omega arith), le-ltb (cells_lent xs) n (omega arith))))
