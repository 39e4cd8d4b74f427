-- The lines of one finish and of several. Of one finish the text is document 01's: "the Machs, the design's part rows, friction, base, total", without a number after
-- friction and total (`one_finish_text`). "Above 1, `sheet` prints `friction j` and `total j`, j from 0", all frictions before the base and all totals after it
-- (`several_text`). A row without a mark is printed
-- as it was before there were marks (`unmarked_text`), and a marked cell with a `+` (`marked_text`).
use mathlib.Core.Path.{◌≡◌, refl}
use mathlib.Core.Logic.{◌≢◌}
use mathlib.Core.Bool.{true, false}
use mathlib.Core.List.{List, [], ◌∷◌, ◌++◌, append-nil}
use Prim.Native.Nat.{ℕ, zero, suc, ◌+◌, ◌≤◌, ◌<◌}
use native.Mathlib.Omega.{arith}
use Rattle.std.proofs.Common.{zero-add}
use lib.Ieee.{Float}
use lib.ListN.{get_or}
use lib.Dec.{ltb}
use borrow.Author.Tests.{lt-ltb, ne_eqb}
use Rattle.sheet_data.specs.declared.Sheet.{Sheet}
use Rattle.sheet_data.specs.Layout.{friction_row, base_row, total_row}
use Rattle.sheet_data.specs.Rows.{row_at}
use Rattle.drag_sheet.specs.Planes.{Lent}
use Rattle.sheet_text.specs.Bytes.{decimal}
use Rattle.sheet_text.specs.Text.{mach_name, part_word, friction_name, base_name, total_name, machs_of, number_text, numbers_text, line_text, row_lines, body_text, sheet_text}

-- ---- one finish

-- a row's line, with its marks
abbrev line_of : List ℕ → ℕ → Lent → ℕ → List ℕ
line_of name C xs r = line_text name (row_at C xs.cells r) (row_at C xs.marks r)

-- the lines of n parts from a place on: "a line is a name (for a part its place too)"
pub part_lines : ℕ → ℕ → ℕ → Lent → List ℕ
part_lines zero place C xs = []
part_lines (suc n) place C xs = line_of (112 ∷ 97 ∷ 114 ∷ 116 ∷ 32 ∷ decimal place) C xs place ++ part_lines n (place + 1) C xs

-- friction, base and total are rows 16, 17 and 18
abbrev pub one_finish : Sheet → Lent → List ℕ
one_finish sheet xs =
    let C = sheet.settings.count in
    line_text mach_name (machs_of sheet.settings) []
    ++ (part_lines sheet.design.count 0 C xs ++ (line_of friction_name C xs 16 ++ (line_of base_name C xs 17 ++ line_of total_name C xs 18)))

parts_same : (n place C : ℕ) (xs : Lent) → row_lines part_word true 0 n place C xs ≡ part_lines n place C xs
unfolding row_lines part_lines
parts_same zero place C xs = refl
parts_same (suc n) place C xs = rw (zero-add place, parts_same n (place + 1) C xs) refl

-- one row without a number
alone : (word : List ℕ) (first C : ℕ) (xs : Lent) → row_lines word false first 1 0 C xs ≡ line_of word C xs first
unfolding row_lines
alone word first C xs = let e : first + 0 ≡ first = omega arith in rw e (append-nil (line_of word C xs first))

body_same : (C : ℕ) (xs : Lent) → body_text 1 C xs ≡ line_of friction_name C xs 16 ++ (line_of base_name C xs 17 ++ line_of total_name C xs 18)
unfolding body_text
body_same C xs =
    let a : row_lines friction_name (ltb 1 1) (friction_row 0) 1 0 C xs ≡ line_of friction_name C xs 16 = alone friction_name 16 C xs in
    let b : row_lines total_name (ltb 1 1) (total_row 1 0) 1 0 C xs ≡ line_of total_name C xs 18 = alone total_name 18 C xs in
    cc

pub one_finish_text : (sheet : Sheet) (xs : Lent) → sheet.settings.finishes ≡ 1 → sheet_text sheet xs ≡ one_finish sheet xs
unfolding sheet_text
one_finish_text sheet xs one =
    let C = sheet.settings.count in
    rw (one, parts_same sheet.design.count 0 C xs, body_same C xs) refl

-- ---- a row without a mark: its numbers alone, as they were printed before there were marks

pub unmarked_text : (xs : List Float) (ms : List ℕ) → ((k : ℕ) → get_or ms k 0 ≡ 0) → numbers_text xs ms ≡ numbers_text xs []
unfolding numbers_text
unmarked_text [] ms h = refl
unmarked_text (x ∷ xs) [] h = refl
unmarked_text (x ∷ xs) (m ∷ ms) h = rw (h 0, unmarked_text xs ms (λ k. h (suc k))) refl

-- ---- a marked cell: "`sheet` prints `+` right after" it, whatever byte that isn't 0 the mark is

pub marked_text : (x : Float) (m : ℕ) (xs : List Float) (ms : List ℕ) → m ≢ 0 → numbers_text (x ∷ xs) (m ∷ ms) ≡ number_text x ++ (43 ∷ numbers_text xs ms)
unfolding numbers_text
marked_text x m xs ms h = rw (ne_eqb m 0 h) refl

-- ---- several finishes

-- lines j, j + 1, .. one after the other, n of them
pub lines_from : (ℕ → List ℕ) → ℕ → ℕ → List ℕ
lines_from line zero j = []
lines_from line (suc n) j = line j ++ lines_from line n (j + 1)

-- a line with the digit of j after its name, over the row `row j`
abbrev pub digit_line : List ℕ → (ℕ → ℕ) → ℕ → Lent → ℕ → List ℕ
digit_line word row C xs j = line_of (word ++ (32 ∷ (48 + j) ∷ [])) C xs (row j)

lines_same : (word : List ℕ) (first : ℕ) (row : ℕ → ℕ) (C : ℕ) (xs : Lent) → ((j : ℕ) → first + j ≡ row j) → (n j : ℕ) → j + n ≤ 10
    → row_lines word true first n j C xs ≡ lines_from (digit_line word row C xs) n j
unfolding row_lines decimal lines_from
lines_same word first row C xs e zero j h = refl
lines_same word first row C xs e (suc n) j h = rw (lt-ltb j 10 (omega arith), e j, lines_same word first row C xs e n (j + 1) (omega arith)) refl

pub several_text : (F C : ℕ) (xs : Lent) → 1 < F → F ≤ 4
    → body_text F C xs
    ≡ lines_from (digit_line friction_name friction_row C xs) F 0
    ++ (line_of base_name C xs (base_row F) ++ lines_from (digit_line total_name (total_row F) C xs) F 0)
unfolding body_text
several_text F C xs more few =
    rw (
      lt-ltb 1 F more,
      lines_same friction_name (friction_row 0) friction_row C xs (λ j. omega arith) F 0 (omega arith),
      lines_same total_name (total_row F 0) (total_row F) C xs (λ j. omega arith) F 0 (omega arith),
    ) refl
