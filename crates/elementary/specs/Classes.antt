-- The five classes of binary64, as IEEE 754-2019 has them in 3.4, of any 64 bits b. From the highest bit down b has the fields S, the sign bit, E, the exponent field
-- of 11 bits, and T, the significand field of 52 bits (the standard: "trailing significand field"). With w = 11, p = 53, bias = 1023 and emin = -1022 the standard says
--
--   3.4    E              T        class       value
--   e)     0              0        Zero        (-1)^S × (+0)
--   d)     0              not 0    Subnormal   (-1)^S × 2 ^ -1022 × (0 + T × 2 ^ -52)          the implicit bit is 0
--   c)     1 to 2046      any      Normal      (-1)^S × 2 ^ (E - 1023) × (1 + T × 2 ^ -52)     the implicit bit is 1
--   b)     2047           0        Infinity    (-1)^S × (+infinity)
--   a)     2047           not 0    NaN         NaN, whatever S is; T tells quiet from signalling and holds a payload
--
-- `InClass` has the fields of each row and `Stands` its value. Exactly one row holds of any bits (`one_class`), the bits then stand for that value (`stands`), and the
-- class says how large it is (`by_value`): proofs/Classes.antt.
use Rattle.std.specs.Prelude.{◌≡◌, Bool, cond, ℕ, zero, suc, ◌+◌, ◌-◌, ◌*◌, ◌/◌, ◌%◌, ◌^◌, ◌≤◌, pos, leb, ltb, Float}
use Rattle.std.specs.Float.{nan, inf, fin}
use Rattle.std.specs.Float.Ieee.{up, down, size}
use Rattle.std.specs.Float.Ieee.Exact.{HasValue}
use Rattle.elementary.specs.declared.class.FloatClass.{FloatClass}
use Rattle.elementary.specs.declared.class.FloatClass.TheVariants.{Zero, Subnormal, Normal, Infinity, NaN}
use Rattle.elementary.specs.declared.split.Parts.{Parts}
use Rattle.elementary.specs.declared.split.Parts.TheVariants as parts
use Rattle.elementary.specs.Split.{normalised, finite_parts}

-- ---- the fields

-- whether S is 1
abbrev pub sign_bit : ℕ → Bool
sign_bit b = leb (2 ^ 63) b

abbrev pub exponent_field : ℕ → ℕ
exponent_field b = b % 2 ^ 63 / 2 ^ 52

abbrev pub significand_field : ℕ → ℕ
significand_field b = b % 2 ^ 52

-- ---- the classes

abbrev pub InClass : FloatClass → ℕ → Type 0
InClass Zero b = (exponent_field b ≡ 0) × (significand_field b ≡ 0)
InClass Subnormal b = (exponent_field b ≡ 0) × (significand_field b ≡ 0 → ⊥)
InClass Normal b = (1 ≤ exponent_field b) × (exponent_field b ≤ 2046)
InClass Infinity b = (exponent_field b ≡ 2047) × (significand_field b ≡ 0)
InClass NaN b = (exponent_field b ≡ 2047) × (significand_field b ≡ 0 → ⊥)

-- one row holds of b, and no other
pub record OneClass (b : ℕ) : Type 0 where
  pub class : FloatClass
  pub holds : InClass class b
  pub only : (c : FloatClass) → InClass c b → c ≡ class

-- ---- the values: `HasValue x s a c` says that x is finite, has the sign s and is a / c in size. 2 ^ (E - 1023) × (1 + T × 2 ^ -52) is (2 ^ 52 + T) × 2 ^ (E - 1) / 2 ^ 1074

abbrev pub Stands : FloatClass → ℕ → Float → Type 0
Stands Zero b x = x ≡ fin (sign_bit b) 0 (pos 0)
Stands Subnormal b x = HasValue x (sign_bit b) (significand_field b) (2 ^ 1074)
Stands Normal b x = HasValue x (sign_bit b) ((2 ^ 52 + significand_field b) * 2 ^ (exponent_field b - 1)) (2 ^ 1074)
Stands Infinity b x = x ≡ inf (sign_bit b)
Stands NaN b x = x ≡ nan

-- The class of a float, by the number that it is: subnormal is what lies below 2 ^ -1022 and isn't zero
abbrev pub value_class : Float → FloatClass
value_class nan = NaN
value_class (inf s) = Infinity
value_class (fin s zero e) = Zero
value_class (fin s (suc m) e) = cond (ltb (suc m * up e * 2 ^ 1022) (down e)) Subnormal Normal

-- ---- the split of each class: `split_of` of the number (specs/Split.antt), by the fields (`split_class_lem`, proofs/Bits.antt)

abbrev pub split_class : FloatClass → ℕ → Parts
split_class Zero b = parts.Zero (sign_bit b)
split_class Subnormal b = let T = significand_field b in finite_parts (sign_bit b) (normalised T (size T)) (size T)
split_class Normal b = finite_parts (sign_bit b) (2 ^ 52 + significand_field b) (exponent_field b + 52)
split_class Infinity b = parts.Infinite (sign_bit b)
split_class NaN b = parts.Nan
