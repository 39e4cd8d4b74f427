-- A sheet's words stand for that sheet: `read_back`. So a call that is given the words which the call before it left works on the sheet which that call
-- handed back. The one hypothesis is what the types of the code say: the arrays are as long as they are, and each number is a binary64 number.
use Rattle.std.specs.Prelude.{Some, Option, None}
use mathlib.Core.Path.{◌≡◌, refl, sym, ap, ◌∙◌, subst}
use mathlib.Core.List.{List, [], ◌∷◌, ◌++◌, append_assoc, append-nil}
use Prim.Native.Nat.{ℕ, ◌+◌, ◌-◌}
use native.Mathlib.Omega.{arith}
use lib.Dec.{T}
use lib.ListN.{length, get_or, drop, replicate, length-append}
use lib.Seq.{drop_at, drop-drop, get_or_at, get_or-append-add, get_or-drop}
use lib.Ieee.{Float, binary64, fits, to_bits}
use lib.Ieee.Bits.{of_bits-to_bits}
use Rattle.shapes.specs.declared.NoseShape.{NoseShape}
use Rattle.shapes.specs.declared.NoseShape.TheVariants.{Conical, Ogive, Elliptical, PowerSeries, ParabolicSeries, Haack}
use Rattle.shapes.specs.Numbers.{number_of_shape, shape_of, parameter_of}
use Rattle.elementary.specs.Arithmetic.{bits}
use Rattle.sheet_data.specs.declared.Part.{Part}
use Rattle.sheet_data.specs.declared.Sheet.{Sheet}
use Rattle.sheet_data.specs.Layout.{most_columns, most_finishes, most_parts}
use Rattle.sheet_data.specs.Contents.{empty_part}
use Rattle.cobalnis.specs.Words.{roughnesses_place, fineness_place, columns_place, machs_place, reynolds_place, nozzle_place, parts_place, first_part, part_word_count, every, spread, float, float_words, own_of, own_flag, own_bits, part_of, part_words, sheet_of, sheet_words}
use Rattle.cobalnis.proofs.Turns.{floats_long}

-- ---- what the types say

abbrev Number : Float → Type 0
Number x = T (fits binary64 x)

abbrev Each : {A : Type 0} → (A → Type 0) → List A → Type 0
Each ok [] = Unit
Each ok (x ∷ xs) = ok x × Each ok xs

abbrev OwnHeld : Option Float → Type 0
OwnHeld None = Unit
OwnHeld (Some x) = Number x

pub record PartHeld (p : Part) : Type 0 where
  pub parameter : Number (parameter_of p.shape)
  pub length : Number p.length
  pub aft : Number p.aft_diameter
  pub angle : Number p.joint_angle
  pub wetted : Number p.wetted_ratio
  pub roughness : OwnHeld p.roughness

pub record SheetHeld (s : Sheet) : Type 0 where
  pub diameter : Number s.settings.reference_diameter
  pub roughnesses : Each Number s.settings.roughnesses
  pub fineness : Number s.settings.body_fineness
  pub machs : Each Number s.settings.machs
  pub reynolds : Each Number s.settings.reynolds
  pub parts : Each PartHeld s.design.parts
  pub nozzle : Number s.nozzle_diameter
  pub roughnesses_long : length s.settings.roughnesses ≡ most_finishes
  pub machs_long : length s.settings.machs ≡ most_columns
  pub reynolds_long : length s.settings.reynolds ≡ most_columns
  pub parts_long : length s.design.parts ≡ most_parts

-- ---- there and back

-- things that are read back one by one are read back one after the other
each_back : {A : Type 0} (read : List ℕ → A) (size : ℕ) (words : A → List ℕ) (ok : A → Type 0)
    → ((x : A) (rest : List ℕ) → ok x → (read (words x ++ rest) ≡ x) × (drop size (words x ++ rest) ≡ rest))
    → (xs : List A) (rest : List ℕ) → Each ok xs → every read size (length xs) (spread words xs ++ rest) ≡ xs
unfolding every spread
each_back read size words ok one [] rest h = refl
each_back {A = A} read size words ok one (x ∷ xs) rest h =
    let us = spread words xs ++ rest in
    let back = one x us h.0 in
    ap (λ (ws : List ℕ). read ws ∷ every read size (length xs) (drop size ws)) (append_assoc (words x) (spread words xs) rest)
    ∙ ap (λ (y : A). y ∷ every read size (length xs) (drop size (words x ++ us))) back.0
    ∙ ap (λ (ws : List ℕ). x ∷ every read size (length xs) ws) back.1
    ∙ ap (λ (ys : List A). x ∷ ys) (each_back read size words ok one xs rest h.1)

number_back : (x : Float) → Number x → bits (to_bits binary64 x) ≡ x
number_back x h = of_bits-to_bits binary64 x h

float_back : (x : Float) (rest : List ℕ) → Number x → (float (float_words x ++ rest) ≡ x) × (drop 1 (float_words x ++ rest) ≡ rest)
float_back x rest h = (number_back x h, refl)

shape_back : (s : NoseShape) → Number (parameter_of s) → shape_of (number_of_shape s) (bits (to_bits binary64 (parameter_of s))) ≡ s
shape_back Conical h = refl
shape_back (Ogive x) h = ap Ogive (number_back x h)
shape_back Elliptical h = refl
shape_back (PowerSeries x) h = ap PowerSeries (number_back x h)
shape_back (ParabolicSeries x) h = ap ParabolicSeries (number_back x h)
shape_back (Haack x) h = ap Haack (number_back x h)

own_back : (k : Option Float) → OwnHeld k → own_of (own_flag k) (bits (own_bits k)) ≡ k
own_back None h = refl
own_back (Some x) h = ap Some (number_back x h)

part_back : (p : Part) (rest : List ℕ) → PartHeld p → (part_of (part_words p ++ rest) ≡ p) × (drop part_word_count (part_words p ++ rest) ≡ rest)
part_back p rest h =
    let s = shape_back p.shape h.parameter in
    let l = number_back p.length h.length in
    let d = number_back p.aft_diameter h.aft in
    let a = number_back p.joint_angle h.angle in
    let w = number_back p.wetted_ratio h.wetted in
    let k = own_back p.roughness h.roughness in
    (rw (s, l, d, a, w, k), refl)

-- words that are all 0 stand for a part that was never filled, so a flag of 0 for the settings' roughness
pub zeros_back : part_of (replicate part_word_count 0) ≡ empty_part
zeros_back = refl

-- n floats, whose words come first
floats_back : (n : ℕ) (xs : List Float) (rest : List ℕ) → length xs ≡ n → Each Number xs → every float 1 n (spread float_words xs ++ rest) ≡ xs
floats_back n xs rest l h = subst (λ (n : ℕ). every float 1 n (spread float_words xs ++ rest) ≡ xs) l (each_back float 1 float_words Number float_back xs rest h)

pub read_back : (s : Sheet) → SheetHeld s → sheet_of (sheet_words s) ≡ s
unfolding sheet_words
read_back s h =
    let a = s.settings in
    let ws = sheet_words s in
    let k = spread float_words a.roughnesses in
    let m = spread float_words a.machs in
    let r = spread float_words a.reynolds in
    let ps = spread part_words s.design.parts in
    let tail = to_bits binary64 s.nozzle_diameter ∷ s.design.count ∷ ps in
    let columns = (m ++ r) ++ tail in
    let body = to_bits binary64 a.body_fineness ∷ a.count ∷ columns in
    let kl : length k ≡ most_finishes = floats_long a.roughnesses ∙ h.roughnesses_long in
    let ml : length m ≡ most_columns = floats_long a.machs ∙ h.machs_long in
    let rl : length r ≡ most_columns = floats_long a.reynolds ∙ h.reynolds_long in
    let mr : length (m ++ r) ≡ nozzle_place - machs_place = let e = length-append m r in omega (arith, e, ml, rl) in
    -- what follows D and F, and what follows the number of columns
    let walls : drop roughnesses_place ws ≡ k ++ body = append_assoc k (to_bits binary64 a.body_fineness ∷ a.count ∷ (m ++ r)) tail in
    let after : drop machs_place ws ≡ columns =
    sym (drop-drop (machs_place - roughnesses_place) roughnesses_place ws)
    ∙ ap (drop (machs_place - roughnesses_place)) walls
    ∙ sym (drop-drop 2 most_finishes (k ++ body))
    ∙ ap (drop 2) (drop_at k body most_finishes kl) in
    let split = append_assoc m r tail in
    let roughnesses : every float 1 most_finishes (drop roughnesses_place ws) ≡ a.roughnesses = ap (every float 1 most_finishes) walls ∙ floats_back most_finishes a.roughnesses body h.roughnesses_long h.roughnesses in
    let fineness : get_or ws fineness_place 0 ≡ to_bits binary64 a.body_fineness =
    sym (get_or-drop roughnesses_place ws most_finishes 0)
    ∙ ap (λ (us : List ℕ). get_or us most_finishes 0) walls
    ∙ get_or_at k (to_bits binary64 a.body_fineness) (a.count ∷ columns) 0 most_finishes kl in
    let next : most_finishes + 1 ≡ length k + 1 = omega (arith, kl) in
    let n : get_or ws columns_place 0 ≡ a.count =
    sym (get_or-drop roughnesses_place ws (most_finishes + 1) 0)
    ∙ ap (λ (us : List ℕ). get_or us (most_finishes + 1) 0) walls
    ∙ ap (λ (i : ℕ). get_or (k ++ body) i 0) next
    ∙ get_or-append-add k body 1 0 in
    let machs : every float 1 most_columns (drop machs_place ws) ≡ a.machs = ap (every float 1 most_columns) (after ∙ split) ∙ floats_back most_columns a.machs (r ++ tail) h.machs_long h.machs in
    let reynolds : every float 1 most_columns (drop reynolds_place ws) ≡ a.reynolds =
    ap (every float 1 most_columns) (sym (drop-drop most_columns machs_place ws) ∙ ap (drop most_columns) (after ∙ split) ∙ drop_at m (r ++ tail) most_columns ml)
    ∙ floats_back most_columns a.reynolds tail h.reynolds_long h.reynolds in
    let nozzle : get_or ws nozzle_place 0 ≡ to_bits binary64 s.nozzle_diameter =
    sym (get_or-drop machs_place ws (nozzle_place - machs_place) 0)
    ∙ ap (λ (us : List ℕ). get_or us (nozzle_place - machs_place) 0) after
    ∙ get_or_at (m ++ r) (to_bits binary64 s.nozzle_diameter) (s.design.count ∷ ps) 0 (nozzle_place - machs_place) mr in
    let last : parts_place - machs_place ≡ length (m ++ r) + 1 = omega (arith, mr) in
    let count : get_or ws parts_place 0 ≡ s.design.count =
    sym (get_or-drop machs_place ws (parts_place - machs_place) 0)
    ∙ ap (λ (us : List ℕ). get_or us (parts_place - machs_place) 0) after
    ∙ ap (λ (i : ℕ). get_or columns i 0) last
    ∙ get_or-append-add (m ++ r) tail 1 0 in
    let parts : every part_of part_word_count most_parts (drop first_part ws) ≡ s.design.parts =
    ap (every part_of part_word_count most_parts)
    (sym (drop-drop (first_part - machs_place) machs_place ws)
    ∙ ap (drop (first_part - machs_place)) after
    ∙ sym (drop-drop 2 (nozzle_place - machs_place) columns)
    ∙ ap (drop 2) (drop_at (m ++ r) tail (nozzle_place - machs_place) mr)
    ∙ sym (append-nil ps))
    ∙ subst (λ (n : ℕ). every part_of part_word_count n (ps ++ []) ≡ s.design.parts) h.parts_long (each_back part_of part_word_count part_words PartHeld part_back s.design.parts [] h.parts) in
    let d = number_back a.reference_diameter h.diameter in
    let b = number_back a.body_fineness h.fineness in
    let z = number_back s.nozzle_diameter h.nozzle in
    rw (d, roughnesses, fineness, b, n, machs, reynolds, nozzle, z, count, parts)
