-- Numbers and names as ASCII bytes, and what a function that writes bytes into a lent buffer says of it.
use Rattle.std.specs.Prelude.{◌≡◌, cond, List, [], ◌∷◌, ◌++◌, ℕ, zero, suc, ◌+◌, ◌≤◌, ◌/◌, ◌%◌, length, ltb}
use Rattle.std.proofs.lemmas.List.Edits.{sets}
use Rattle.sheet_text.specs.declared.text.Text.{Text}

abbrev pub space : ℕ
space = 32

abbrev pub plus : ℕ
plus = 43

-- "Every line ends in a line feed"
abbrev pub line_feed : ℕ
line_feed = 10

-- the hexadecimal digits of 64 bits
abbrev pub digits : ℕ
digits = 64 / 4

-- the digits 0 to 9 are the bytes 48 to 57, a to f 97 to 102
abbrev pub hex_digit : ℕ → ℕ
hex_digit n = cond (ltb n 10) (48 + n) (87 + n)

-- the lowest n hexadecimal digits of a number, the highest first
unfoldable pub hex_digits : ℕ → ℕ → List ℕ
hex_digits zero x = []
hex_digits (suc n) x = hex_digits n (x / 16) ++ (hex_digit (x % 16) ∷ [])

-- a number below 100 in decimal
unfoldable pub decimal : ℕ → List ℕ
decimal n = cond (ltb n 10) ((48 + n) ∷ []) ((48 + n / 10) ∷ (48 + n % 10) ∷ [])

-- so many bytes more fit into the buffer of a text that is printed so far
abbrev pub Room : ℕ → Text → Type 0
Room n t = t.len + n ≤ length t.out.now

-- the bytes are printed after what was printed before, into the same buffer; its other bytes stay
pub record Prints (bs : List ℕ) (old new : Text) : Type 0 where
  pub same : new.out.ghost_name ≡ old.out.ghost_name
  pub long : length new.out.now ≡ length old.out.now
  pub place : new.len ≡ old.len + length bs
  pub within : new.len ≤ length new.out.now
  pub bytes : new.out.now ≡ sets old.out.now old.len bs
