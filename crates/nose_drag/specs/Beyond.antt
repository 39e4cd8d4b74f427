-- Whether an answer rests on a table beyond its last point: "if any table that the Rust reads for it at that Mach did, weight 0 or not". It is defined beside the values
-- (Methods.antt, Curves.antt), by the same cases: the blunt cylinder and a cone read no table, and below M_L the fit reads none.
use Rattle.std.specs.Prelude.{Bool, false, cond, ◌||◌, List, [], ◌∷◌, ℕ, Float, Result, Ok, Option, Some, None}
use Rattle.std.specs.List.{list_any}
use Rattle.std.specs.Float.{binary64}
use Rattle.std.specs.Float.Ieee.{round}
use Rattle.elementary.specs.Arithmetic.{◌≺◌, ◌≼◌}
use Rattle.aero_error.specs.Checks.{◌for_value◌}
use Rattle.aero_error.specs.declared.AeroError.{AeroError}
use Rattle.elementary.specs.Constants.{0·5}
use Rattle.drag.specs.Constants.{0·25}
use Rattle.shapes.specs.declared.NoseShape.{NoseShape}
use Rattle.shapes.specs.declared.NoseShape.TheVariants.{Conical, Ogive, Elliptical, PowerSeries, ParabolicSeries, Haack}
use Rattle.stoney.specs.declared.StoneyNose.{StoneyNose}
use Rattle.stoney.specs.declared.StoneyNose.TheVariants.{PowerQuarter, PowerHalf, PowerThreeQuarters, ParabolaHalf, ParabolaThreeQuarters, Parabola, Ellipsoid, LvHaack, VonKarman}
use Rattle.stoney.specs.Points.{first_mach}
use Rattle.stoney.specs.Lookup.{subsonic_mach_limit, beyond}
use Rattle.nose_drag.specs.declared.curve.Reference.{Reference}
use Rattle.nose_drag.specs.declared.curve.Transonic.{Transonic}
use Rattle.nose_drag.specs.declared.curve.PressureDrag.{PressureDrag}
use Rattle.nose_drag.specs.declared.curve.PressureDragCurve.{PressureDragCurve}
use Rattle.nose_drag.specs.Constants.{0·75}
use Rattle.nose_drag.specs.Curves.{coefficient_of}

abbrev pub reference_beyond : Reference → Float → Bool
reference_beyond Reference.Blunt M = false
reference_beyond (Reference.Cone f factor rest) M = false
reference_beyond (Reference.Stoney nose) M = beyond nose M

-- below Mach 0.8 no table is read, from its first point on at M, and between the two at that point
unfoldable pub ellipsoid_beyond : Float → Bool
ellipsoid_beyond M =
    let first = first_mach Ellipsoid in
    cond (M ≺ subsonic_mach_limit)
    false
    (cond (first ≼ M) (beyond Ellipsoid M) (beyond Ellipsoid first))

-- both references are read, whatever the weight
abbrev pub method_beyond : Transonic → Float → Bool
method_beyond Transonic.Blunt M = false
method_beyond (Transonic.Cone s factor) M = false
method_beyond (Transonic.Scaled lower upper weight exponent) M = reference_beyond lower M || reference_beyond upper M
method_beyond (Transonic.Ellipsoid f rest) M = ellipsoid_beyond M

unfoldable pub curve_beyond : PressureDragCurve → Float → Bool
curve_beyond curve M = cond (M ≺ curve.mach_low) false (method_beyond curve.transonic M)

-- a curve's answer: the coefficient and its mark, or the refusal
abbrev pub Drag : Type 0
Drag = Result PressureDrag AeroError

unfoldable pub drag_of : PressureDragCurve → Float → Drag
drag_of curve M = coefficient_of curve M for_value λ v. Ok (record { value = v; beyond = curve_beyond curve M })

-- ---- which shapes can be marked, and above which Mach: the laws `tables_where`, `marked_where` and `least_last` (proofs/Beyond.antt) hold this table to the curves and to the
-- points

-- the tables that a shape's curve reads, by its parameter; a cone, and an ogive made from it, read none
abbrev pub tables_read : NoseShape → List StoneyNose
tables_read Conical = []
tables_read (Ogive radius-ratio) = []
tables_read Elliptical = Ellipsoid ∷ []
tables_read (PowerSeries n) =
    cond (n ≺ 0·25) (PowerQuarter ∷ [])
    (cond (n ≺ 0·5) (PowerQuarter ∷ PowerHalf ∷ [])
    (cond (n ≺ 0·75) (PowerHalf ∷ PowerThreeQuarters ∷ [])
    (PowerThreeQuarters ∷ [])))
tables_read (ParabolicSeries k) =
    cond (k ≺ 0·5) (ParabolaHalf ∷ [])
    (cond (k ≺ 0·75) (ParabolaHalf ∷ ParabolaThreeQuarters ∷ [])
    (ParabolaThreeQuarters ∷ Parabola ∷ []))
tables_read (Haack c) = VonKarman ∷ LvHaack ∷ []

-- a Mach number in thousandths
abbrev pub thousandths : ℕ → Float
thousandths n = round binary64 false n 1000

-- their least last Mach
abbrev pub marked_above : NoseShape → Option Float
marked_above Conical = None
marked_above (Ogive radius-ratio) = None
marked_above Elliptical = Some (thousandths 3587)
marked_above (PowerSeries n) = Some (cond (n ≺ 0·25) (thousandths 3587) (cond (n ≺ 0·75) (thousandths 1941) (thousandths 1967)))
marked_above (ParabolicSeries k) = Some (thousandths 1968)
marked_above (Haack c) = Some (thousandths 1977)

abbrev pub lower_of : Float → Option Float → Option Float
lower_of x None = Some x
lower_of x (Some y) = Some (cond (x ≺ y) x y)

unfoldable pub least : List Float → Option Float
least [] = None
least (x ∷ xs) = lower_of x (least xs)

-- whether any of these tables is left
abbrev pub any_beyond : List StoneyNose → Float → Bool
any_beyond noses M = list_any (λ nose. beyond nose M) noses

abbrev pub is_above : Option Float → Float → Bool
is_above None M = false
is_above (Some m) M = m ≺ M
