-- The words of a stored line. A line is its list of bytes.
use Rattle.std.specs.Prelude.{ℕ, ◌+◌, ◌-◌, ◌*◌, Bool, cond, ◌&&◌, List, [], ◌∷◌, ltb, leb, eqb, length, take, drop, get_or, Option, Some, None, is_some, unwrap_or}

-- 0 to 9 are the bytes 48 to 57 and 10 to 15 the bytes 97 to 102; any other byte is no digit
unfoldable pub digit_of : ℕ → Option ℕ
digit_of byte =
    cond (ltb byte 48) None
    (cond (leb byte 57) (Some (byte - 48))
    (cond (ltb byte 97) None
    (cond (leb byte 102) (Some (byte - 97 + 10)) None)))

-- from the left, after the digits that spell `number`: each further digit makes it 16 times as large and adds itself
abbrev pub digits_of : List ℕ → ℕ → Option ℕ
digits_of [] number = Some number
digits_of (byte ∷ text) number = elim (digit_of byte) [ Some digit ↦ digits_of text (number * 16 + digit) | None ↦ None ]

-- the word of a number, from 0: after the tag each has a space and 16 digits
unfoldable pub field_at : List ℕ → ℕ → Option ℕ
field_at line which =
    let space = 17 * which + 1 in
    cond (ltb (length line) (space + 1 + 16)) None
    (cond (eqb (get_or line space 0) 32) (digits_of (take 16 (drop (space + 1) line)) 0) None)

abbrev pub word_at : List ℕ → ℕ → ℕ
word_at line which = unwrap_or (field_at line which) 0

abbrev is_word : List ℕ → ℕ → Bool
is_word line which = is_some (field_at line which)

-- a tag, eleven words and a line feed, and nothing after it
unfoldable pub is_line : List ℕ → Bool
is_line line =
    eqb (length line) 189
    && is_word line 0
    && is_word line 1
    && is_word line 2
    && is_word line 3
    && is_word line 4
    && is_word line 5
    && is_word line 6
    && is_word line 7
    && is_word line 8
    && is_word line 9
    && is_word line 10
    && eqb (get_or line 188 0) 10
