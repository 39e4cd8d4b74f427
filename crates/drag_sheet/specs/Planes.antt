-- The two planes of a sheet. Cells and marks lie alike in two lent buffers, a mark for each cell: what a plane holds for a part, beside the friction and the base, and for a
-- total is said here for either, and all else is said once of any plane.
use Rattle.std.specs.Prelude.{◌≡◌, List, ℕ, ◌<◌, length, min, Float}
use Rattle.std.specs.Float.{nan}
use Rattle.elementary.specs.Arithmetic.{◌⊕◌}
use Rattle.elementary.specs.Constants.{0·0}
use Rattle.sheet_data.specs.Layout.{most_parts}
use Rattle.drag_sheet.specs.Formulas.{Prepared, cell_from, mark_from, value_of, sum_to, sum_same, any_to, any_same}

pub record Plane (A : Type 0) : Type 0 where
  -- what a read past the end would give; nothing looks there
  pub past : A
  -- where there is no part
  pub none : A
  -- of a part, from what its row is made from, at a Mach number
  pub of_part : Prepared → Float → A
  -- of a friction or a base cell
  pub of_body : Float → A
  -- of a total, from the part rows by place, a friction and the base; of the part rows it looks at those alone that a sheet has
  pub of_total : (ℕ → A) → A → A → A
  pub total_same : (f g : ℕ → A) (x y : A) → ((i : ℕ) → i < most_parts → f i ≡ g i) → of_total f x y ≡ of_total g x y

-- "+0, plus all 16 part rows by place, plus friction, plus base"
abbrev pub total_of : (ℕ → Float) → Float → Float → Float
total_of held rubbed behind = sum_to most_parts held ⊕ rubbed ⊕ behind

-- the cells; "no part: +0"
abbrev pub cell_plane : Plane Float
cell_plane = record {
  past = nan;
  none = 0·0;
  of_part = λ p M. value_of (cell_from p M);
  of_body = λ x. x;
  of_total = total_of;
  total_same = λ f g x y h. rw (sum_same most_parts f g h);
}

-- the marks, bytes 0 or 1: "Friction, base and part rows without a curve have none, and a total has one if a part mark of its column isn't 0"
abbrev pub mark_plane : Plane ℕ
mark_plane = record {
  past = 0;
  none = 0;
  of_part = mark_from;
  of_body = λ x. 0;
  of_total = λ held rubbed behind. any_to most_parts held;
  total_same = λ f g x y h. any_same most_parts f g h;
}

-- ---- the lent buffers

pub record Lent : Type 0 where
  pub cells : List Float
  pub marks : List ℕ

abbrev pub lent : List Float → List ℕ → Lent
lent cells marks = record { cells = cells; marks = marks }

-- how many cells are lent, each with its mark: a cell whose mark isn't lent can't be written
abbrev pub cells_lent : Lent → ℕ
cells_lent xs = min (length xs.cells) (length xs.marks)
