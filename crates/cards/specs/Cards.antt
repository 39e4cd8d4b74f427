-- The two cards (docs/REFERENCE.md, Cards), read from a list of bytes at a position, in the order given there: "Card bytes: left to right, bits first,
-- settings' missing bits next, the parameter bit once the shape is read, 7 at the count byte". A card answers its content and the position after it, or its
-- refusal.
use Rattle.std.specs.Prelude.{Bool, true, false, cond, not, ◌&&◌, List, [], ◌∷◌, ◌++◌, ℕ, ◌+◌, ◌-◌, ◌*◌, replicate, ltb, eqb, Float, Option, Some, None, Ok, Err}
use Rattle.std.proofs.Math.Option.{Option as Maybe, none, some}
use Rattle.elementary.specs.Constants.{0·0}
use Rattle.aero_error.specs.declared.Rule.TheVariants.{CardEnds, ReservedBit, FieldMissing, TooManyColumns}
use Rattle.aero_error.specs.Checks.{unless, ◌and_then◌, ◌for_value◌}
use Rattle.aero_error.specs.Told.{Told, told_of}
use Rattle.shapes.specs.declared.NoseShape.{NoseShape}
use Rattle.shapes.specs.Numbers.{shape_of}
use Rattle.sheet_data.specs.declared.Part.{Part}
use Rattle.sheet_data.specs.declared.Settings.{Settings}
use Rattle.sheet_data.specs.Layout.{most_columns, most_finishes}
use Rattle.sheet_data.specs.Tests.{finishes_test}
use Rattle.cards.specs.Fields.{Read, number_bytes, pair_bytes, bit, has, byte_at, number_at, numbers_at}

-- ---- part cards: bit 0 shape byte, 1 shape parameter, 2 L, 3 d, 4 joint angle, 5 w, 6 roughness

-- "the parameter stands for shapes 1, 3, 4, 5 and no others"
abbrev pub takes_parameter : ℕ → Bool
takes_parameter n = cond (eqb n 0) false (cond (eqb n 2) false true)

-- whether the parameter is present where it must be, and isn't where it mustn't
abbrev pub parameter_right : Bool → ℕ → Bool
parameter_right present n = cond present (takes_parameter n) (not (takes_parameter n))

-- the parameter of shape n, judged and read
unfoldable pub parameter_at : Bool → ℕ → List ℕ → ℕ → Read NoseShape
parameter_at present n s at =
    unless (not (parameter_right present n)) FieldMissing and_then
    number_at present s at for_value λ (x, next).
    Ok (shape_of n x, next)

-- the shape byte, 5 where it is above 5, then the parameter
unfoldable pub shape_at : ℕ → List ℕ → ℕ → Read NoseShape
unfolding parameter_at
shape_at map s at =
    byte_at (bit 0 map) s at for_value λ (n, next).
    unless (ltb 5 n) ReservedBit and_then
    parameter_at (bit 1 map) n s next

-- "A part gets its own roughness, card bit 6 .. absent, it is the settings' one": kept as absent, not as a number
abbrev pub roughness_at : Bool → List ℕ → ℕ → Read (Option Float)
roughness_at false s at = Ok (None, at)
roughness_at true s at = number_at true s at for_value λ (x, next). Ok (Some x, next)

-- a part card whose bit map is read: "Only a part's bit 7 is then reserved"
unfoldable pub part_fields : ℕ → List ℕ → ℕ → Read Part
unfolding shape_at
part_fields map s at =
    unless (ltb 127 map) ReservedBit and_then
    shape_at map s at for_value λ (shape, L-at).
    number_at (bit 2 map) s L-at for_value λ (L, d-at).
    number_at (bit 3 map) s d-at for_value λ (d, angle-at).
    number_at (bit 4 map) s angle-at for_value λ (angle, w-at).
    number_at (bit 5 map) s w-at for_value λ (w, k-at).
    roughness_at (bit 6 map) s k-at for_value λ (k, next).
    Ok (record { shape = shape; length = L; aft_diameter = d; joint_angle = angle; wetted_ratio = w; roughness = k }, next)

unfoldable pub part_at : List ℕ → ℕ → Read Part
unfolding part_fields
part_at s at = byte_at true s at for_value λ (map, next). part_fields map s next

-- ---- settings cards: bit 0 D, 1 roughness, 2 B, 3 a count byte and that many pairs M, R, 4 a count byte and that many roughnesses

-- settings that say nothing
abbrev pub no_settings : Settings
no_settings = record {
  reference_diameter = 0·0;
  finishes = 1;
  roughnesses = replicate most_finishes 0·0;
  body_fineness = 0·0;
  count = 0;
  machs = replicate most_columns 0·0;
  reynolds = replicate most_columns 0·0;
}

-- n numbers in an array for as many as there may be, `most`
abbrev pub slots : ℕ → ℕ → List Float → List Float
slots most n xs = xs ++ replicate (most - n) 0·0

-- the Machs and the Reynolds numbers of n columns, once their number is read: 7 where there are too many, then 4 where the bytes end before the pairs do
unfoldable pub columns_at : ℕ → List ℕ → ℕ → Read (List Float × List Float)
unfolding numbers_at
columns_at n s at =
    unless (ltb most_columns n) TooManyColumns and_then
    unless (not (has s at (pair_bytes * n))) CardEnds and_then
    Ok ((slots most_columns n (numbers_at pair_bytes n s at), slots most_columns n (numbers_at pair_bytes n s (at + number_bytes))), at + pair_bytes * n)

-- n finishes and their roughnesses, once their number is read: 19 "at the count byte", then 4 where the bytes end before the roughnesses do
unfoldable pub roughnesses_at : ℕ → List ℕ → ℕ → Read (ℕ × List Float)
unfolding numbers_at
roughnesses_at n s at =
    finishes_test n and_then
    unless (not (has s at (number_bytes * n))) CardEnds and_then
    Ok ((n, slots most_finishes n (numbers_at number_bytes n s at)), at + number_bytes * n)

-- "Settings card bit 4 brings a count byte and that many floats"; absent, there is one finish, with bit 1's roughness
unfoldable pub finishes_at : Bool → Float → List ℕ → ℕ → Read (ℕ × List Float)
unfolding roughnesses_at
finishes_at false roughness s at = Ok ((1, slots most_finishes 1 (roughness ∷ [])), at)
finishes_at true roughness s at = byte_at true s at for_value λ (n, next). roughnesses_at n s next

-- "with bit 1 standing too it is refusal 6, tested with the missing bits"
abbrev pub two_roughnesses : ℕ → Bool
two_roughnesses map = bit 1 map && bit 4 map

-- a settings card whose bit map is read: a bit above 4 is reserved, "D and B must stand", bits 1 and 4 don't stand together, then D, the roughness, B, the count
-- byte and the columns, the finishes
unfoldable pub settings_fields : ℕ → List ℕ → ℕ → Read Settings
unfolding columns_at finishes_at
settings_fields map s at =
    unless (ltb 31 map) ReservedBit and_then
    unless (not (bit 0 map)) FieldMissing and_then
    unless (not (bit 2 map)) FieldMissing and_then
    unless (two_roughnesses map) FieldMissing and_then
    number_at true s at for_value λ (D, roughness-at).
    number_at (bit 1 map) s roughness-at for_value λ (roughness, B-at).
    number_at true s B-at for_value λ (B, n-at).
    byte_at (bit 3 map) s n-at for_value λ (n, columns-at).
    columns_at n s columns-at for_value λ (columns, finishes-at).
    finishes_at (bit 4 map) roughness s finishes-at for_value λ (finishes, next).
    Ok (
      record {
        reference_diameter = D;
        finishes = finishes.0;
        roughnesses = finishes.1;
        body_fineness = B;
        count = n;
        machs = columns.0;
        reynolds = columns.1;
      },
      next,
    )

unfoldable pub settings_at : List ℕ → ℕ → Read Settings
unfolding settings_fields
settings_at s at = byte_at true s at for_value λ (map, next). settings_fields map s next

-- what a read card tells: nothing where it is read
abbrev pub told_of_card : {A : Type 0} → Read A → Maybe Told
told_of_card (Ok r) = none
told_of_card (Err e) = some (told_of e)

abbrev pub told_of_part : Read Part → Maybe Told
told_of_part r = told_of_card r

abbrev pub told_of_settings : Read Settings → Maybe Told
told_of_settings r = told_of_card r

-- ---- the most bytes of a card

-- bit map, D, B, the count and the columns, the count and the roughnesses: with these the card has no roughness of bit 1
abbrev pub settings_bytes : ℕ
settings_bytes = 1 + 2 * number_bytes + 1 + most_columns * pair_bytes + 1 + most_finishes * number_bytes

-- bit map, shape, parameter, L, d, joint angle, w and roughness
abbrev pub part_bytes : ℕ
part_bytes = 1 + 1 + 6 * number_bytes
