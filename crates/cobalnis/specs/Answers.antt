-- What each function of the library answers: a status, and what it leaves in the memory that it was lent.
use denote.Ref.{MutBor}
use Rattle.std.specs.Prelude.{◌≡◌, Bool, true, false, cond, List, [], ◌∷◌, ℕ, ◌+◌, ◌*◌, length, get_or, drop, eqb, leb, ltb, min, Float, Ok, Err, Option, Some, None}
use Rattle.aero_error.specs.Checks.{◌then◌, unless, ◌and_then◌, Check, Coefficient}
use Rattle.nose_drag.specs.Curves.{step_curve, new_curve, takes_cone_formula, Curve}
use Rattle.nose_drag.specs.Beyond.{Drag, drag_of}
use Rattle.walk.specs.Answers.{Walked, Answered}
use Rattle.std.proofs.lemmas.List.Edits.{sets}
use Rattle.std.specs.Float.Ieee.{to_bits}
use Rattle.std.specs.Float.{binary64}
use Rattle.elementary.specs.Constants.{0·0}
use Rattle.elementary.specs.declared.class.FloatClass.{FloatClass}
use Rattle.elementary.specs.declared.class.FloatClass.TheVariants.{Zero, Subnormal, Normal, Infinity, NaN}
use Rattle.elementary.specs.Classes.{InClass}
use Rattle.elementary.specs.Steps.{SQRT, LN, EXP, POW, SIN}
use Rattle.aero_error.specs.declared.AeroError.{AeroError}
use Rattle.aero_error.specs.declared.AeroError.TheVariants.{Broken}
use Rattle.aero_error.specs.declared.Rule.TheVariants.{ReservedBit, TooFewCells}
use Rattle.aero_error.specs.Told.{told_of}
use Rattle.drag.specs.Friction.{mach_checked, machs_test, critical_reynolds, incompressible_skin_friction, skin_friction_coefficient, body_friction_form_factor}
use Rattle.drag.specs.Pressure.{stagnation_ratio, stagnation_pressure_ratio, stagnation_drag_coefficient, base_drag_coefficient, joint_pressure_drag_coefficient, boattail_factor}
use Rattle.shapes.specs.Numbers.{shape_of, parameter_of, von_karman, lv_haack}
use Rattle.stoney.specs.Tables.{nose_at}
use Rattle.stoney.specs.Points.{mach_at, drag_at, range_of, first_mach}
use Rattle.stoney.specs.Lookup.{value_and_slope, beyond}
use Rattle.nose_drag.specs.declared.curve.PressureDragCurve.{PressureDragCurve}
use Rattle.nose_drag.specs.Below.{subsonic_pressure_drag_coefficient}
use Rattle.nose_drag.specs.Methods.{ogive_pressure_drag_factor, fineness_scaled_pressure_drag, ellipsoid_subsonic_pressure_drag}
use Rattle.sheet_data.specs.declared.Sheet.{Sheet}
use Rattle.sheet_data.specs.Layout.{most_parts}
use Rattle.drag_sheet.specs.Planes.{Lent, lent}
use Rattle.drag_sheet.specs.Calls.{Answer, Call, Called, Opened}
use Rattle.cards.specs.Fields.{Read}
use Rattle.sheet_data.specs.declared.Part.{Part}
use Rattle.sheet_data.specs.declared.Settings.{Settings}
use Rattle.cobalnis.specs.Words.{first_part, spread, part_words, settings_of, settings_words, sheet_of, sheet_words, shapes_known}

-- ---- the status and the bits of an answer

-- 0 is accepted; a refusal's number, plus 256 times the code of refusal 1
abbrev pub status_of : AeroError → ℕ
status_of e = (told_of e).number + 256 * (told_of e).code

-- for a number that names no formula, shape, nose or quantity
abbrev pub no_such : ℕ
no_such = 65535

abbrev pub answer_status : Coefficient → ℕ
answer_status (Ok v) = 0
answer_status (Err e) = status_of e

-- the bits of the value, or of the value refused
abbrev pub answer_bits : Coefficient → ℕ
answer_bits (Ok v) = to_bits binary64 v
answer_bits (Err e) = to_bits binary64 (told_of e).value

-- a test that passes answers +0
abbrev pub tested : Check → Coefficient
tested check = check and_then Ok 0·0

-- ---- formulas, by their numbers from 0; the last two are the parameters of the Haack shapes that have names

-- what a number names
abbrev pub Formula : Type 0
Formula = Option Coefficient

abbrev pub formulas : Float → Float → Float → Float → Float → List Formula
formulas a b c d e =
    Some (Ok (SQRT a))
    ∷ Some (Ok (LN a))
    ∷ Some (Ok (EXP a))
    ∷ Some (Ok (POW a b))
    ∷ Some (Ok (SIN a))
    ∷ Some (tested (mach_checked a))
    ∷ Some (critical_reynolds a)
    ∷ Some (incompressible_skin_friction a b)
    ∷ Some (skin_friction_coefficient a b c)
    ∷ Some (body_friction_form_factor a)
    ∷ Some (stagnation_pressure_ratio a)
    ∷ Some (stagnation_drag_coefficient a)
    ∷ Some (base_drag_coefficient a)
    ∷ Some (joint_pressure_drag_coefficient a)
    ∷ Some (boattail_factor a b c)
    ∷ Some (subsonic_pressure_drag_coefficient a b c d e)
    ∷ Some (ogive_pressure_drag_factor a)
    ∷ Some (fineness_scaled_pressure_drag a b c)
    ∷ Some (ellipsoid_subsonic_pressure_drag a b)
    ∷ Some (Ok (stagnation_ratio a))
    ∷ Some (Ok (parameter_of von_karman))
    ∷ Some (Ok (parameter_of lv_haack))
    ∷ []

unfoldable pub formula_of : ℕ → Float → Float → Float → Float → Float → Formula
formula_of which a b c d e = get_or (formulas a b c d e) which None

abbrev pub formula_status : Formula → ℕ
formula_status (Some c) = answer_status c
formula_status None = no_such

-- the lent word, which stays as it was where the number names no formula
abbrev pub formula_bits : Formula → ℕ → ℕ
formula_bits (Some c) before = answer_bits c
formula_bits None before = before

-- whether a number is one of the codes 1 to 22
abbrev pub is_code : ℕ → Bool
is_code what = cond (eqb what 0) false (leb what 22)

-- a dimension's test under a code: refusal 1 with that code and the value
abbrev pub dimension_status : ℕ → Bool → ℕ
dimension_status what ok = cond (is_code what) (cond ok 0 (1 + 256 * what)) no_such

abbrev pub dimension_bits : ℕ → Bool → Float → ℕ → ℕ
dimension_bits what ok value before = cond (is_code what) (cond ok 0 (to_bits binary64 value)) before

-- whether a shape takes the cone's formula: the status, and 1 or 0 in the lent word, which stays as it was where the number names no shape
abbrev pub cone_status : ℕ → ℕ
cone_status shape = cond (ltb 5 shape) no_such 0

abbrev pub cone_word : ℕ → Float → ℕ → ℕ
cone_word shape parameter before = cond (ltb 5 shape) before (cond (takes_cone_formula (shape_of shape parameter)) 1 0)

-- ---- the classes of IEEE 754, by their numbers from 0

abbrev pub class_number : FloatClass → ℕ
class_number Zero = 0
class_number Subnormal = 1
class_number Normal = 2
class_number Infinity = 3
class_number NaN = 4

-- r is the number of the class that the bits b are in
pub record ClassShown (b r : ℕ) : Type 0 where
  pub class : FloatClass
  pub holds : InClass class b
  pub shown : r ≡ class_number class

-- ---- Stoney's noses, by their numbers from 0

abbrev pub is_nose : ℕ → Bool
is_nose n = leb n 8

-- the point at a place of a nose's table
abbrev pub point_status : ℕ → ℕ → ℕ
point_status nose place = cond (is_nose nose) (cond (leb (range_of (nose_at nose)).count place) 8 0) no_such

abbrev pub point_words : ℕ → ℕ → List ℕ → List ℕ
point_words nose place before =
    let at = (range_of (nose_at nose)).first + place in
    cond (is_nose nose) (cond (leb (range_of (nose_at nose)).count place) before (to_bits binary64 (mach_at at) ∷ to_bits binary64 (drag_at at) ∷ [])) before

-- the table's value and slope at a Mach, its first Mach, and 1 where the Mach is beyond the table's last point, else 0
abbrev pub lookup_words : ℕ → Float → List ℕ → List ℕ
lookup_words nose M before =
    let at = value_and_slope (nose_at nose) M in
    cond (is_nose nose) (to_bits binary64 at.value ∷ to_bits binary64 at.slope ∷ to_bits binary64 (first_mach (nose_at nose)) ∷ cond (beyond (nose_at nose) M) 1 0 ∷ []) before

-- the answer of `walk`'s own call: accepted, the count is handed out; refused, it is as it was, and the value refused is handed out
abbrev pub WalkShown : Walked → ℕ → ℕ → ℕ → ℕ → Type 0
WalkShown (Ok n) r before compared bits' = (r ≡ 0) × (compared ≡ n) × (bits' ≡ 0)
WalkShown (Err e) r before compared bits' = (r ≡ status_of e) × (compared ≡ before) × (bits' ≡ to_bits binary64 (told_of e).value)

pub record NoseWalked (nose : ℕ) (Ms xs : List Float) (before r : ℕ) (ys : List Float) (compared bits' : ℕ) : Type 0 where
  pub answer : Walked
  pub walked : Answered (nose_at nose) Ms xs answer ys
  pub shown : WalkShown answer r before compared bits'

-- a number above 8 names no nose
abbrev pub WalkDone : Bool → ℕ → List Float → List Float → ℕ → ℕ → ℕ → List Float → ℕ → ℕ → Type 0
WalkDone true nose Ms xs before bits r ys compared bits' = NoseWalked nose Ms xs before r ys compared bits'
WalkDone false nose Ms xs before bits r ys compared bits' = (r ≡ no_such) × (ys ≡ xs) × (compared ≡ before) × (bits' ≡ bits)

-- ---- curves

-- the curve of a shape's number; 6 is the step
abbrev pub curve_from : ℕ → Float → Float → Float → Curve
curve_from shape parameter fineness angle = cond (eqb shape 6) (Ok step_curve) (new_curve (shape_of shape parameter) fineness angle)

-- the bits of a coefficient, or of the value refused, and its mark
abbrev pub drag_bits : Drag → ℕ
drag_bits (Ok drag) = to_bits binary64 drag.value
drag_bits (Err e) = to_bits binary64 (told_of e).value

abbrev pub drag_mark : Drag → ℕ
drag_mark (Ok drag) = cond drag.beyond 1 0
drag_mark (Err e) = 0

abbrev pub coefficient_word : PressureDragCurve → Float → List ℕ
coefficient_word curve M = drag_bits (drag_of curve M) ∷ []

abbrev pub mark_byte : PressureDragCurve → Float → List ℕ
mark_byte curve M = drag_mark (drag_of curve M) ∷ []

-- the value refused, the value at rest and the transonic lower bound
abbrev pub about : Float → PressureDragCurve → List ℕ
about value curve = to_bits binary64 value ∷ to_bits binary64 curve.rest ∷ to_bits binary64 curve.mach_low ∷ []

-- words and marks that are lent, a word and a mark for each Mach
pub record LentWords : Type 0 where
  pub words : List ℕ
  pub marks : List ℕ

abbrev pub lent_words : List ℕ → List ℕ → LentWords
lent_words words marks = record { words = words; marks = marks }

-- 10 where either is too short, then every Mach by itself
abbrev pub machs_given : List Float → LentWords → Check
machs_given machs xs = unless (ltb (min (length xs.words) (length xs.marks)) (length machs)) TooFewCells then machs_test machs

-- a curve at these Machs: the status r, what is lent before (xs) and after (ys), and what is said about the curve
abbrev pub ReadAt : Check → PressureDragCurve → List Float → LentWords → ℕ → LentWords → List ℕ → Type 0
ReadAt (Ok _) curve machs xs r ys said =
    (r ≡ 0) × (ys.words ≡ sets xs.words 0 (spread (coefficient_word curve) machs)) × (ys.marks ≡ sets xs.marks 0 (spread (mark_byte curve) machs)) × (said ≡ about 0·0 curve)
ReadAt (Err e) curve machs xs r ys said = (r ≡ status_of e) × (ys ≡ xs) × (said ≡ about (told_of e).value curve)

abbrev pub CurveDone : Curve → List Float → LentWords → ℕ → LentWords → List ℕ → Type 0
CurveDone (Err e) machs xs r ys said = (r ≡ status_of e) × (ys ≡ xs) × (said ≡ to_bits binary64 (told_of e).value ∷ 0 ∷ 0 ∷ [])
CurveDone (Ok curve) machs xs r ys said = ReadAt (machs_given machs xs) curve machs xs r ys said

-- a shape's number above 6 names none
abbrev pub CurveAnswered : Bool → Curve → List Float → LentWords → List ℕ → ℕ → LentWords → List ℕ → Type 0
CurveAnswered false curve machs xs before r ys said = CurveDone curve machs xs r ys said
CurveAnswered true curve machs xs before r ys said = (r ≡ no_such) × (ys ≡ xs) × (said ≡ before)

-- ---- the calls on a sheet of words

-- accepted, the words are those of the sheet handed back; refused, they are as they were, and the value refused is handed out
abbrev pub Shown : Check → Sheet → List ℕ → ℕ → List ℕ → ℕ → Type 0
Shown (Ok _) sheet ws r ws' bits' = (r ≡ 0) × (ws' ≡ sheet_words sheet) × (bits' ≡ 0)
Shown (Err e) sheet ws r ws' bits' = (r ≡ status_of e) × (ws' ≡ ws) × (bits' ≡ to_bits binary64 (told_of e).value)

-- the answer of `drag_sheet`'s own call on the sheet that the words stand for, shown in words
pub record CallShown (call : Call) (ws : List ℕ) (xs : Lent) (r : ℕ) (ws' : List ℕ) (bits' : ℕ) (ys : Lent) : Type 0 where
  pub answer : Answer
  pub called : Called call (sheet_of ws) xs answer ys
  pub shown : Shown answer.outcome answer.sheet ws r ws' bits'

pub record OpenShown (ws : List ℕ) (xs : Lent) (r : ℕ) (ws' : List ℕ) (bits' : ℕ) (ys : Lent) : Type 0 where
  pub answer : Answer
  pub opened : Opened (settings_of ws) xs answer ys
  pub shown : Shown answer.outcome answer.sheet ws r ws' bits'

-- what a closure answers and leaves, lent a sheet, cells and marks, is what this call does; `post` is the closure's
abbrev pub Makes : (MutBor Sheet → MutBor (List Float) → MutBor (List ℕ) → Check → MutBor Sheet → MutBor (List Float) → MutBor (List ℕ) → Type 0) → Call → Type 0
Makes post call =
    (sheet : MutBor Sheet) (cells : MutBor (List Float)) (marks : MutBor (List ℕ)) (r : Check) (sheet' : MutBor Sheet) (cells' : MutBor (List Float)) (marks' : MutBor (List ℕ))
    → post sheet cells marks r sheet' cells' marks' → Called call sheet.now (lent cells.now marks.now) (record { outcome = r; sheet = sheet'.now }) (lent cells'.now marks'.now)

-- where every shape has a number up to 5; else refusal 5 before all others
abbrev pub CallDone : Bool → Call → List ℕ → Lent → ℕ → List ℕ → ℕ → Lent → Type 0
CallDone true call ws xs r ws' bits' ys = CallShown call ws xs r ws' bits' ys
CallDone false call ws xs r ws' bits' ys = (r ≡ status_of (Broken ReservedBit)) × (ws' ≡ ws) × (bits' ≡ 0) × (ys ≡ xs)

abbrev pub sheet_known : List ℕ → Bool
sheet_known ws = shapes_known most_parts (drop first_part ws)

abbrev pub part_known : List ℕ → List ℕ → Bool
part_known part ws = cond (ltb 5 (get_or part 0 0)) false (sheet_known ws)

-- ---- cards

abbrev pub PartCard : Read Part → ℕ → List ℕ → List ℕ → ℕ → ℕ → Type 0
PartCard (Ok (part, last)) r ws ws' next next' = (r ≡ 0) × (ws' ≡ part_words part) × (next' ≡ last)
PartCard (Err e) r ws ws' next next' = (r ≡ status_of e) × (ws' ≡ ws) × (next' ≡ next)

-- a settings card gives a sheet's first words
abbrev pub SettingsCard : Read Settings → ℕ → List ℕ → List ℕ → ℕ → ℕ → Type 0
SettingsCard (Ok (settings, last)) r ws ws' next next' = (r ≡ 0) × (ws' ≡ sets ws 0 (settings_words settings)) × (next' ≡ last)
SettingsCard (Err e) r ws ws' next next' = (r ≡ status_of e) × (ws' ≡ ws) × (next' ≡ next)
