-- The fields of a card (docs/REFERENCE.md, Cards), read from a list of bytes at a position: "a bit map byte (bit 0 lowest), then only the fields whose bit
-- stands, in bit order, floats as 8 bytes, low byte first". A field answers its value and the position after it, or refusal 4 where the bytes end inside it.
use Rattle.std.specs.Prelude.{◌≡◌, Bool, true, false, not, List, [], ◌∷◌, ℕ, zero, suc, ◌+◌, ◌*◌, ◌/◌, ◌%◌, ◌^◌, length, get_or, leb, eqb, Float, Result, Ok, Err}
use Rattle.elementary.specs.Arithmetic.{bits}
use Rattle.elementary.specs.Constants.{0·0}
use Rattle.aero_error.specs.declared.AeroError.{AeroError}
use Rattle.aero_error.specs.declared.Rule.TheVariants.{CardEnds}
use Rattle.aero_error.specs.Checks.{unless, ◌and_then◌}
use Rattle.cards.specs.declared.fields.Reader.{Reader}

-- what a field or a card answers: what it says and the position after it, or its refusal
abbrev pub Read : Type 0 → Type 0
Read A = Result (A × ℕ) AeroError

-- the bytes of a float, and of a column's two, M and R
abbrev pub number_bytes : ℕ
number_bytes = 8

abbrev pub pair_bytes : ℕ
pair_bytes = 2 * number_bytes

-- whether a bit of the bit map stands, bit 0 the lowest
abbrev pub bit : ℕ → ℕ → Bool
bit k map = eqb (map / 2 ^ k % 2) 1

-- there are n bytes from a position on
abbrev pub has : List ℕ → ℕ → ℕ → Bool
has s at n = leb (at + n) (length s)

-- four bytes as a number, low byte first, and eight
abbrev pub four_bytes : List ℕ → ℕ → ℕ
four_bytes s at = get_or s at 0 + 0x100 * get_or s (at + 1) 0 + 0x1_0000 * get_or s (at + 2) 0 + 0x100_0000 * get_or s (at + 3) 0

unfoldable pub eight_bytes : List ℕ → ℕ → ℕ
eight_bytes s at = four_bytes s at + 0x1_0000_0000 * four_bytes s (at + 4)

-- a byte field; one that isn't present is 0 ("An absent shape is 0 .. absent columns none")
abbrev pub byte_at : Bool → List ℕ → ℕ → Read ℕ
byte_at false s at = Ok (0, at)
byte_at true s at = unless (not (has s at 1)) CardEnds and_then Ok (get_or s at 0, at + 1)

-- a float field; one that isn't present is +0 ("an absent number +0")
abbrev pub number_at : Bool → List ℕ → ℕ → Read Float
number_at false s at = Ok (0·0, at)
number_at true s at = unless (not (has s at number_bytes)) CardEnds and_then Ok (bits (eight_bytes s at), at + number_bytes)

-- n numbers, each `step` bytes after the one before: the Mach or the Reynolds numbers of n pairs M, R, or n roughnesses
unfoldable pub numbers_at : ℕ → ℕ → List ℕ → ℕ → List Float
unfolding eight_bytes
numbers_at step zero s at = []
numbers_at step (suc n) s at = bits (eight_bytes s at) ∷ numbers_at step n s (at + step)

-- what a reader of bytes took of them, and where it stands then
abbrev pub with_end : {A : Type 0} → Result A AeroError → ℕ → Read A
with_end (Ok x) next = Ok (x, next)
with_end (Err e) next = Err e

abbrev pub Took : {A : Type 0} → (List ℕ → ℕ → Read A) → Reader → Result A AeroError → Reader → Type 0
Took field from result to = (with_end result to.at ≡ field from.bytes.now from.at) × (to.bytes.now ≡ from.bytes.now)
