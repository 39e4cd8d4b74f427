-- The formulas of docs/REFERENCE.md, Rows, for the cells of a sheet, in their own order of operations. f is a part's fore diameter, the previous part's aft diameter d;
-- D is the reference diameter, M a Mach number, R a Reynolds number.
use Rattle.std.specs.Prelude.{◌≡◌, refl, cond, ℕ, zero, suc, ◌<◌, length, eqb, Float, Option, Some, None, Result, Ok, Err}
use Rattle.std.proofs.Common.{arith}
use Rattle.std.specs.Result.{result_unwrap_or}
use Rattle.aero_error.specs.Checks.{◌for_value◌, Check, Coefficient}
use Rattle.elementary.specs.Arithmetic.{◌⊕◌, ◌⊖◌, ◌⊗◌, ◌⊘◌, ◌≺◌}
use Rattle.elementary.specs.Constants.{0·0}
use Rattle.aero_error.specs.declared.AeroError.{AeroError}
use Rattle.drag.specs.Friction.{skin_friction_coefficient, body_friction_form_factor}
use Rattle.drag.specs.Pressure.{base_drag_coefficient, boattail_factor}
use Rattle.nose_drag.specs.Curves.{Curve, new_curve, coefficient_of}
use Rattle.nose_drag.specs.Beyond.{curve_beyond}
use Rattle.sheet_data.specs.declared.Settings.{Settings}
use Rattle.sheet_data.specs.declared.Part.{Part}
use Rattle.sheet_data.specs.Contents.{Contents, part_at, fore_at, roughness_at}
use Rattle.drag_sheet.specs.declared.part.MarkedCell.{MarkedCell}
use Rattle.drag_sheet.specs.declared.part.Row.{Row}
use Rattle.drag_sheet.specs.declared.part.Row.TheVariants.{Widening, Narrowing, Level}

-- ---- a part's cell

-- (a×a - b×b)/(D×D)
abbrev pub area_ratio : Float → Float → Float → Float
area_ratio a b D = (a ⊗ a ⊖ b ⊗ b) ⊘ (D ⊗ D)

-- what a part's row is made from, or the refusal of its curve
abbrev pub Prepared : Type 0
Prepared = Result Row AeroError

-- "The curve is taken out of that answer or its refusal goes on"
abbrev pub with_curve : Curve → Float → Prepared
with_curve curve area = curve for_value λ made. Ok (Widening made area)

-- what a part's row is made from: d > f, d < f, or d = f
unfoldable pub prepared_of : Float → Float → Part → Prepared
prepared_of D f part =
    let d = part.aft_diameter in
    cond (f ≺ d) (with_curve (new_curve part.shape (part.length ⊘ (d ⊖ f)) part.joint_angle) (area_ratio d f D))
    (cond (d ≺ f) (Ok (Narrowing part.length f d (area_ratio f d D)))
    (Ok Level))

-- a coefficient times a number
abbrev pub scaled_by : Float → Coefficient → Coefficient
scaled_by x c = c for_value λ v. Ok (v ⊗ x)

-- base drag at M × the boattail factor
abbrev pub boattail_drag : Float → Float → Float → Float → Coefficient
boattail_drag l f d M = base_drag_coefficient M for_value λ base. boattail_factor l f d for_value λ factor. Ok (base ⊗ factor)

-- a part's cell at a Mach number
unfoldable pub cell_of : Row → Float → Coefficient
cell_of (Widening curve area) M = scaled_by area (coefficient_of curve M)
cell_of (Narrowing l f d area) M = scaled_by area (boattail_drag l f d M)
cell_of Level M = Ok 0·0

-- the same of a row that may not be ready
abbrev pub cell_from : Prepared → Float → Coefficient
cell_from (Ok row) M = cell_of row M
cell_from (Err e) M = Err e

-- its mark: 1 where the curve rests on a table beyond its last point, whatever the area; "part rows without a curve have none"
unfoldable pub mark_of : Row → Float → ℕ
mark_of (Widening curve area) M = cond (curve_beyond curve M) 1 0
mark_of (Narrowing l f d area) M = 0
mark_of Level M = 0

abbrev pub mark_from : Prepared → Float → ℕ
mark_from (Ok row) M = mark_of row M
mark_from (Err e) M = 0

-- a cell with its mark, or the cell's refusal
unfoldable pub marked_cell : Row → Float → Result MarkedCell AeroError
marked_cell row M = cell_of row M for_value λ v. Ok (record { value = v; mark = mark_of row M })

-- whether a row is ready, and whether a cell was made
abbrev pub ready_test : Prepared → Check
ready_test (Ok row) = Ok tt
ready_test (Err e) = Err e

abbrev pub made_test : Coefficient → Check
made_test (Ok v) = Ok tt
made_test (Err e) = Err e

-- a coefficient that the tests before have made sure of: once they have passed it is no refusal (proofs/OnlyCurves, `body_answered` and `row_ready`)
abbrev pub value_of : Coefficient → Float
value_of c = result_unwrap_or c 0·0

-- ---- the cells of the whole body, at a Mach and a Reynolds number

-- +0, plus f 0, plus f 1, .., n of them
unfoldable pub sum_to : ℕ → (ℕ → Float) → Float
sum_to zero f = 0·0
sum_to (suc n) f = sum_to n f ⊕ f n

pub sum_same : (n : ℕ) (f g : ℕ → Float) → ((i : ℕ) → i < n → f i ≡ g i) → sum_to n f ≡ sum_to n g
unfolding sum_to
sum_same zero f g h = refl
sum_same (suc n) f g h = rw (sum_same n f g (λ i l. h i (omega arith)), h n (omega arith))

-- 1 if any of f 0, f 1, .., n of them, isn't 0, else 0
unfoldable pub any_to : ℕ → (ℕ → ℕ) → ℕ
any_to zero f = 0
any_to (suc n) f = cond (eqb (f n) 0) (any_to n f) 1

pub any_same : (n : ℕ) (f g : ℕ → ℕ) → ((i : ℕ) → i < n → f i ≡ g i) → any_to n f ≡ any_to n g
unfolding any_to
any_same zero f g h = refl
any_same (suc n) f g h = rw (any_same n f g (λ i l. h i (omega arith)), h n (omega arith))

-- a part's roughness, k being the settings': "absent, it is the settings' one"
abbrev pub roughness_of : Option Float → Float → Float
roughness_of None k = k
roughness_of (Some x) k = x

-- "(skin friction at that part's roughness × form factor)", at roughness k
abbrev pub formed_friction : Settings → Float → Float → Float → Float
formed_friction s k M R = value_of (skin_friction_coefficient R k M) ⊗ value_of (body_friction_form_factor s.body_fineness)

-- "× w", in finish j: the settings' roughness is that finish's, "a part's own roughness holds in every finish"
abbrev pub part_friction : Settings → ℕ → Part → Float → Float → Float
part_friction s j p M R = formed_friction s (roughness_of p.roughness (roughness_at s j)) M R ⊗ p.wetted_ratio

-- "a sum by place from +0"
unfoldable pub friction_cell : Contents → ℕ → Float → Float → Float
friction_cell c j M R = sum_to (length c.parts) (λ i. part_friction c.settings j (part_at c.parts i) M R)

-- "the base area becomes d×d - n×n over D×D, and +0 when n is above d"
unfoldable pub base_ratio : Float → Float → Float → Float
base_ratio d n D = cond (d ≺ n) 0·0 (area_ratio d n D)

-- d is the last part's, "last d being 0 without parts"
abbrev pub last_diameter : Contents → Float
last_diameter c = fore_at c.parts (length c.parts)

abbrev pub base_area : Contents → Float
base_area c = base_ratio (last_diameter c) c.nozzle c.settings.reference_diameter

-- base drag at M × the base area
unfoldable pub base_cell : Contents → Float → Float
base_cell c M = value_of (base_drag_coefficient M) ⊗ base_area c
