-- Which library a program has met. A header or a wrapper that was made for another one tells it by these two numbers.
use Rattle.std.specs.Prelude.{ℕ, ◌+◌, ◌*◌}
use Rattle.sheet_data.specs.Layout.{most_cells}
use Rattle.cobalnis.specs.Words.{sheet_word_count}

-- version 0.2.0: three digits each for the second and the third number
abbrev pub version : ℕ
version = 0 * 1000000 + 2 * 1000 + 0

-- counted up when a function's arguments, or what a number or a word means, change and no size does
abbrev pub interface : ℕ
interface = 1

-- the interface, then in four digits each the words of a sheet and the most cells: other sizes of columns, parts, finishes or words are another layout
abbrev pub layout : ℕ
layout = interface * 100000000 + sheet_word_count * 10000 + most_cells
