-- The text of a sheet (docs/REFERENCE.md, Program): "the Machs, the design's part rows, friction, base, total; a line is a name (for a part its place
-- too), then per column a space and the bits", and "`+` right after a marked cell"; or "only `refused N card K`".
use Rattle.std.specs.Prelude.{◌≡◌, Bool, true, cond, List, [], ◌∷◌, ◌++◌, ℕ, zero, suc, ◌+◌, ◌*◌, ◌≤◌, length, take, drop, replicate, ltb, eqb, Float, Ok, Err}
use Rattle.aero_error.specs.Checks.{Check}
use Rattle.std.specs.Float.Ieee.{to_bits}
use Rattle.std.specs.Float.{binary64}
use Rattle.elementary.specs.Constants.{0·0}
use Rattle.aero_error.specs.Refusals.{number_of}
use Rattle.sheet_data.specs.declared.Settings.{Settings}
use Rattle.sheet_data.specs.declared.Sheet.{Sheet}
use Rattle.sheet_data.specs.Layout.{most_parts, most_columns, most_finishes, most_cells, friction_row, base_row, total_row}
use Rattle.sheet_data.specs.Rows.{row_at}
use Rattle.card_run.specs.declared.Run.{Run}
use Rattle.card_run.specs.Run.{Ran, stream_of}
use Rattle.drag_sheet.specs.Planes.{Lent, lent}
use Rattle.sheet_text.specs.Bytes.{digits, space, plus, line_feed, hex_digits, decimal}

-- the names, in ASCII: mach, part, friction, base, total, refused and a space, and card between two spaces
abbrev pub mach_name : List ℕ
mach_name = 109 ∷ 97 ∷ 99 ∷ 104 ∷ []

abbrev pub part_word : List ℕ
part_word = 112 ∷ 97 ∷ 114 ∷ 116 ∷ []

abbrev pub friction_name : List ℕ
friction_name = 102 ∷ 114 ∷ 105 ∷ 99 ∷ 116 ∷ 105 ∷ 111 ∷ 110 ∷ []

abbrev pub base_name : List ℕ
base_name = 98 ∷ 97 ∷ 115 ∷ 101 ∷ []

abbrev pub total_name : List ℕ
total_name = 116 ∷ 111 ∷ 116 ∷ 97 ∷ 108 ∷ []

abbrev pub refused_name : List ℕ
refused_name = 114 ∷ 101 ∷ 102 ∷ 117 ∷ 115 ∷ 101 ∷ 100 ∷ 32 ∷ []

abbrev pub card_name : List ℕ
card_name = 32 ∷ 99 ∷ 97 ∷ 114 ∷ 100 ∷ 32 ∷ []

-- "a space and the bits"; a NaN as 7ff8000000000000
unfoldable pub number_text : Float → List ℕ
unfolding hex_digits
number_text x = space ∷ hex_digits digits (to_bits binary64 x)

-- "`sheet` prints `+` right after a marked cell"
abbrev pub mark_text : ℕ → List ℕ
mark_text m = cond (eqb m 0) [] (plus ∷ [])

-- "per column", cells with their marks; numbers that have none stand alone
unfoldable pub numbers_text : List Float → List ℕ → List ℕ
unfolding number_text
numbers_text [] ms = []
numbers_text (x ∷ xs) [] = number_text x ++ numbers_text xs []
numbers_text (x ∷ xs) (m ∷ ms) = number_text x ++ (mark_text m ++ numbers_text xs ms)

unfoldable pub line_text : List ℕ → List Float → List ℕ → List ℕ
unfolding numbers_text
line_text name xs ms = name ++ (numbers_text xs ms ++ (line_feed ∷ []))

-- "for a part its place too", for a friction or total of more than one its finish: a space and the number after the name
abbrev pub numbered_name : List ℕ → Bool → ℕ → List ℕ
numbered_name word numbered j = cond numbered (word ++ (space ∷ decimal j)) word

-- the line of row `first + j`, with the number j where it is numbered
abbrev pub row_line : List ℕ → Bool → ℕ → ℕ → ℕ → Lent → List ℕ
row_line word numbered first j C xs = line_text (numbered_name word numbered j) (row_at C xs.cells (first + j)) (row_at C xs.marks (first + j))

-- the lines of n rows from that one on
unfoldable pub row_lines : List ℕ → Bool → ℕ → ℕ → ℕ → ℕ → Lent → List ℕ
unfolding line_text decimal
row_lines word numbered first zero j C xs = []
row_lines word numbered first (suc n) j C xs = row_line word numbered first j C xs ++ row_lines word numbered first n (j + 1) C xs

-- F frictions, base and F totals: "Above 1, `sheet` prints `friction j` and `total j`, j from 0"
unfoldable pub body_text : ℕ → ℕ → Lent → List ℕ
unfolding row_lines
body_text F C xs =
    row_lines friction_name (ltb 1 F) (friction_row 0) F 0 C xs
    ++ (line_text base_name (row_at C xs.cells (base_row F)) (row_at C xs.marks (base_row F)) ++ row_lines total_name (ltb 1 F) (total_row F 0) F 0 C xs)

-- the settings' Mach numbers
abbrev pub machs_of : Settings → List Float
machs_of s = take s.count s.machs

-- Mach numbers have no marks
unfoldable pub sheet_text : Sheet → Lent → List ℕ
unfolding line_text row_lines body_text
sheet_text sheet xs =
    let C = sheet.settings.count in
    line_text mach_name (machs_of sheet.settings) [] ++ (row_lines part_word true 0 sheet.design.count 0 C xs ++ body_text sheet.settings.finishes C xs)

-- "refused N card K"
unfoldable pub refused_text : ℕ → ℕ → List ℕ
unfolding decimal
refused_text n k = refused_name ++ (decimal n ++ (card_name ++ (decimal k ++ (line_feed ∷ []))))

abbrev pub outcome_text : Check → ℕ → Sheet → Lent → List ℕ
outcome_text (Ok _) card sheet xs = sheet_text sheet xs
outcome_text (Err e) card sheet xs = refused_text (number_of e) card

-- the text of a run's answer, with the buffers that it left
abbrev pub run_text : Run → Lent → List ℕ
run_text run xs = outcome_text run.outcome run.card run.sheet xs

-- what the program prints for a stream of bytes: the run starts on the cells of the largest sheet, all +0, and their marks, all 0
abbrev pub nothing_lent : Lent
nothing_lent = lent (replicate most_cells 0·0) (replicate most_cells 0)

abbrev pub ran_text : Ran → List ℕ
ran_text ran = run_text ran.run ran.lent

unfoldable pub answer_text : List ℕ → List ℕ
unfolding sheet_text refused_text
answer_text s = ran_text (stream_of s nothing_lent)

-- ---- how long a text can be

-- a number alone and with its mark, the numbers of a line with its end, the line of a numbered row, and the lines of the whole body
abbrev pub number_text_size : ℕ
number_text_size = 1 + digits

abbrev pub marked_text_size : ℕ
marked_text_size = number_text_size + 1

abbrev pub row_text : ℕ
row_text = most_columns * marked_text_size + 1

abbrev pub numbered_text : List ℕ → ℕ
numbered_text word = length word + 3 + row_text

abbrev pub body_text_size : ℕ
body_text_size = most_finishes * (numbered_text friction_name + numbered_text total_name) + length base_name + row_text

-- no text has more bytes: the line mach, a line for each part, and those
abbrev pub most_text : ℕ
most_text = length mach_name + row_text + most_parts * numbered_text part_word + body_text_size

-- what the contract says of a buffer: one that holds every text has this text at its start, and a shorter one is left as it was
abbrev pub printed : List ℕ → ℕ → List ℕ
printed s room = cond (ltb room most_text) [] (answer_text s)

pub record Printed (s : List ℕ) (xs : List ℕ) (r : ℕ) (ys : List ℕ) : Type 0 where
  pub count : r ≡ length (printed s (length xs))
  pub bytes : ys ≡ printed s (length xs) ++ drop (length (printed s (length xs))) xs
  pub within : r ≤ length ys

-- what the program prints from what it read, the first n bytes of a buffer: for every stream whose first bytes, as many as the buffer holds, are those, the text is that
-- stream's
pub record Answered (input : List ℕ) (n r : ℕ) (ys : List ℕ) : Type 0 where
  pub text : (s : List ℕ) → take (length input) s ≡ take n input → take r ys ≡ answer_text s
  pub within : r ≤ length ys
