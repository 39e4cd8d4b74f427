-- A part and a sheet as words of 64 bits: what a list of words stands for, and the words of a part and of a sheet. A float is the word of its bits.
--
--   a part's words: the shape's number, its parameter, length, aft diameter, joint angle, wetted ratio, whether the roughness is its own, and that roughness
--   a sheet's words: reference diameter, number of finishes, the roughnesses, body fineness, number of columns, the Machs, the Reynolds numbers, nozzle diameter, number of parts, the parts
use Rattle.std.specs.Prelude.{Bool, true, false, cond, List, [], ◌∷◌, ◌++◌, ℕ, zero, suc, ◌+◌, ◌*◌, get_or, drop, ltb, eqb, Float, Some, Option, None}
use Rattle.std.specs.Float.Ieee.{to_bits}
use Rattle.std.specs.Float.{binary64}
use Rattle.std.specs.Simd.{first_chunks}
use Rattle.elementary.specs.Arithmetic.{bits}
use Rattle.shapes.specs.Numbers.{number_of_shape, shape_of, parameter_of}
use Rattle.sheet_data.specs.declared.Settings.{Settings}
use Rattle.sheet_data.specs.declared.Part.{Part}
use Rattle.sheet_data.specs.declared.Sheet.{Sheet}
use Rattle.sheet_data.specs.Layout.{most_columns, most_parts, most_finishes}

-- ---- where the words lie

abbrev pub part_word_count : ℕ
part_word_count = 8

abbrev pub finishes_place : ℕ
finishes_place = 1

abbrev pub roughnesses_place : ℕ
roughnesses_place = finishes_place + 1

abbrev pub fineness_place : ℕ
fineness_place = roughnesses_place + most_finishes

abbrev pub columns_place : ℕ
columns_place = fineness_place + 1

abbrev pub machs_place : ℕ
machs_place = columns_place + 1

abbrev pub reynolds_place : ℕ
reynolds_place = machs_place + most_columns

abbrev pub settings_word_count : ℕ
settings_word_count = reynolds_place + most_columns

-- after the settings the nozzle diameter, the number of parts and the parts
abbrev pub nozzle_place : ℕ
nozzle_place = settings_word_count

abbrev pub parts_place : ℕ
parts_place = nozzle_place + 1

abbrev pub first_part : ℕ
first_part = parts_place + 1

abbrev pub sheet_word_count : ℕ
sheet_word_count = first_part + most_parts * part_word_count

-- ---- what words stand for

-- n things, each read from `size` words
unfoldable pub every : {A : Type 0} → (List ℕ → A) → ℕ → ℕ → List ℕ → List A
every read size zero ws = []
every read size (suc n) ws = read ws ∷ every read size n (drop size ws)

abbrev pub float : List ℕ → Float
float ws = bits (get_or ws 0 0)

-- a part's roughness: with flag 0 the settings' one, with any other its own
abbrev pub own_of : ℕ → Float → Option Float
own_of flag x = cond (eqb flag 0) None (Some x)

abbrev pub part_of : List ℕ → Part
part_of ws = record {
  shape = shape_of (get_or ws 0 0) (bits (get_or ws 1 0));
  length = bits (get_or ws 2 0);
  aft_diameter = bits (get_or ws 3 0);
  joint_angle = bits (get_or ws 4 0);
  wetted_ratio = bits (get_or ws 5 0);
  roughness = own_of (get_or ws 6 0) (bits (get_or ws 7 0));
}

-- a sheet's words of each part
unfoldable pub part_chunks : List ℕ → List (List ℕ)
part_chunks ws = first_chunks part_word_count most_parts (drop first_part ws)

abbrev pub settings_of : List ℕ → Settings
settings_of ws = record {
  reference_diameter = bits (get_or ws 0 0);
  finishes = get_or ws finishes_place 0;
  roughnesses = every float 1 most_finishes (drop roughnesses_place ws);
  body_fineness = bits (get_or ws fineness_place 0);
  count = get_or ws columns_place 0;
  machs = every float 1 most_columns (drop machs_place ws);
  reynolds = every float 1 most_columns (drop reynolds_place ws);
}

abbrev pub sheet_of : List ℕ → Sheet
sheet_of ws = record {
  settings = settings_of ws;
  design = record { count = get_or ws parts_place 0; parts = every part_of part_word_count most_parts (drop first_part ws) };
  nozzle_diameter = bits (get_or ws nozzle_place 0);
}

-- whether each of n parts has a shape's number up to 5
unfoldable pub shapes_known : ℕ → List ℕ → Bool
shapes_known zero ws = true
shapes_known (suc n) ws = cond (ltb 5 (get_or ws 0 0)) false (shapes_known n (drop part_word_count ws))

-- ---- the words of a thing

-- the words of each, one after the other
unfoldable pub spread : {A : Type 0} → (A → List ℕ) → List A → List ℕ
spread words [] = []
spread words (x ∷ xs) = words x ++ spread words xs

abbrev pub float_words : Float → List ℕ
float_words x = to_bits binary64 x ∷ []

-- whether a part's roughness is its own, and its bits; both 0 where it is the settings' one
abbrev pub own_flag : Option Float → ℕ
own_flag None = 0
own_flag (Some x) = 1

abbrev pub own_bits : Option Float → ℕ
own_bits None = 0
own_bits (Some x) = to_bits binary64 x

abbrev pub part_words : Part → List ℕ
part_words p =
    number_of_shape p.shape
    ∷ to_bits binary64 (parameter_of p.shape)
    ∷ to_bits binary64 p.length
    ∷ to_bits binary64 p.aft_diameter
    ∷ to_bits binary64 p.joint_angle
    ∷ to_bits binary64 p.wetted_ratio
    ∷ own_flag p.roughness
    ∷ own_bits p.roughness
    ∷ []

abbrev pub settings_words : Settings → List ℕ
settings_words s =
    to_bits binary64 s.reference_diameter
    ∷ s.finishes
    ∷ (spread float_words s.roughnesses ++ (to_bits binary64 s.body_fineness ∷ s.count ∷ (spread float_words s.machs ++ spread float_words s.reynolds)))

unfoldable pub sheet_words : Sheet → List ℕ
unfolding spread
sheet_words sheet = settings_words sheet.settings ++ (to_bits binary64 sheet.nozzle_diameter ∷ sheet.design.count ∷ spread part_words sheet.design.parts)
