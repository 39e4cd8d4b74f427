-- Once a sheet's tests pass, nothing but a curve refuses: friction, form factor and base are numbers at every column, and a row that can't be built is that of a part
-- wider than the one before it whose curve can't be made. The same of the contents that a call leaves (`sheet_only_curves`).
use Rattle.std.specs.Prelude.{Some, Option, Ok, None, Err}
use Rattle.drag_sheet.specs.Formulas.{Prepared}
use Rattle.nose_drag.specs.Curves.{new_curve, Curve}
use mathlib.Core.Path.{◌≡◌, refl, sym, ap, ◌∙◌}
use mathlib.Core.Logic.{⊎_elim}
use mathlib.Core.Bool.{Bool, true, false, cond}
use Prim.Native.Nat.{ℕ, zero, suc, ◌+◌, ◌≤◌, ◌<◌}
use native.Mathlib.Omega.{arith}
use lib.ListN.{length, length-set}
use lib.Seq.{length-take-le}
use lib.Dec.{ltb}
use lib.Ieee.{Float, of_bits}
use lib.Ieee.Scale.{finite}
use borrow.Author.Tests.{ltb-true}
use Rattle.elementary.specs.Arithmetic.{◌⊕◌, ◌⊖◌, ◌⊘◌, ◌≺◌}
use Rattle.elementary.specs.Tests.{between}
use Rattle.elementary.specs.Constants.{0·0, 0·5, 1·0}
use Rattle.aero_error.specs.declared.AeroError.{AeroError}
use Rattle.aero_error.specs.declared.Rule.TheVariants.{TooManyColumns, DesignFull}
use Rattle.aero_error.specs.Checks.{dimension, unless, up_to}
use Rattle.aero_error.specs.CheckLaws.{both_passed, required_passed, up_each, up_all, up_same}
use Rattle.drag.specs.Friction.{mach_checked, flow_checked, limited_friction, compressible, skin_friction_coefficient, body_friction_form_factor}
use Rattle.drag.specs.Pressure.{base_drag, base_drag_coefficient}
use Rattle.drag.specs.Answered.{limits, form_answered, base_answered, boattail_answered}
use Rattle.drag.proofs.Answered.{friction_answered}
use Rattle.nose_drag.specs.declared.curve.PressureDragCurve.{PressureDragCurve}
use Rattle.nose_drag.specs.Answered.{curve_answered}
use Rattle.sheet_data.specs.declared.Part.{Part}
use Rattle.sheet_data.specs.declared.Sheet.{Sheet}
use Rattle.sheet_data.specs.Layout.{most_parts, most_columns}
use Rattle.sheet_data.specs.Contents.{Contents, contents_of, part_at, fore_at, roughness_at, mach_at, reynolds_at}
use Rattle.sheet_data.specs.Tests.{0·001, 100·0, in_interval, finishes_test, roughnesses_test, body_test, columns_test, settings_test, nozzle_test, part_test, parts_test, sheet_test}
use Rattle.sheet_data.proofs.Held.{inside, held_roughness, given_own}
use Rattle.drag_sheet.specs.declared.part.Row.TheVariants.{Widening, Narrowing, Level}
use Rattle.drag_sheet.specs.Formulas.{area_ratio, with_curve, prepared_of, cell_of, cell_from, ready_test, made_test, roughness_of, last_diameter}
use Rattle.drag_sheet.specs.Build.{prepared_at, row_test, trial}
use Rattle.drag_sheet.specs.Calls.{Call, replace, insert, remove, set_column, ignite, burnout, applied, arguments_test, row_test_where, column_trial, tries, after, call_test, decision}
use Rattle.drag_sheet.proofs.Verdicts.{never}
use Rattle.drag_sheet.proofs.Refusals.{then_failed, then_first, up_refused}
use Rattle.drag_sheet.proofs.Answers.{call_facts, Bounds, bounds}
use Rattle.drag_sheet.proofs.TestsKept.{zero_passes, Tested, tested_after}

-- ---- what the tests have shown

record Sized (p : Part) : Type 0 where
  pub long : between 0·0 p.length 100·0 ≡ true
  pub aft : between 0·0 p.aft_diameter 100·0 ≡ true
  pub own : (x : Float) → p.roughness ≡ Some x → between 0·0 x 1·0 ≡ true

record Ranges (c : Contents) : Type 0 where
  pub roughness : (j : ℕ) → j < c.settings.finishes → between 0·0 (roughness_at c.settings j) 1·0 ≡ true
  pub fineness : dimension c.settings.body_fineness false ≡ true
  pub columns : (k : ℕ) → k < c.settings.count → flow_checked (mach_at c.settings k) (reynolds_at c.settings k) ≡ Ok tt
  pub parts : (i : ℕ) → i < length c.parts → Sized (part_at c.parts i)

sized : (p : Part) → part_test p ≡ Ok tt → Sized p
sized p e =
    let a = both_passed (in_interval 0·0 p.length 100·0) _ e in
    let b = both_passed (in_interval 0·0 p.aft_diameter 100·0) _ a.second in
    record { long = inside _ _ _ a.first; aft = inside _ _ _ b.first; own = λ x q. given_own p x e q }

ranges : (c : Contents) (cells : ℕ) → Tested c cells → Ranges c
unfolding sheet_test settings_test columns_test parts_test
ranges c cells t =
    let s = c.settings in
    let a = both_passed (settings_test s cells) _ t in
    let b = both_passed (unless (ltb most_columns s.count) TooManyColumns) _ a.first in
    let body = both_passed (body_test s) _ b.second in
    let width = both_passed (in_interval 0·001 s.reference_diameter 100·0) _ body.first in
    let finishes = both_passed (finishes_test s.finishes) _ width.second in
    let walls = both_passed (roughnesses_test s) _ finishes.second in
    let columns = both_passed (columns_test s) _ body.second in
    let nozzle = both_passed (nozzle_test c.nozzle) _ a.second in
    let parts = both_passed (unless (ltb most_parts (length c.parts)) DesignFull) _ nozzle.second in
    record {
      roughness = λ j h. held_roughness s j body.first h;
      fineness = required_passed _ _ _ walls.second;
      columns = up_each _ s.count columns.first;
      parts = λ i h. sized (part_at c.parts i) (up_each _ (length c.parts) parts.second i h);
    }

-- ---- the whole body

-- the roughness in finish j of the part at a place
abbrev wall_at : Contents → ℕ → ℕ → Float
wall_at c j i = roughness_of (part_at c.parts i).roughness (roughness_at c.settings j)

-- at a column: each part's skin friction in every finish, form factor and base drag are these numbers
pub record Answered (c : Contents) (k : ℕ) : Type 0 where
  pub friction : (j i : ℕ) → j < c.settings.finishes → i < length c.parts → skin_friction_coefficient (reynolds_at c.settings k) (wall_at c j i) (mach_at c.settings k)
      ≡ Ok (compressible (limits (wall_at c j i) (reynolds_at c.settings k)) (limited_friction (wall_at c j i)) (reynolds_at c.settings k) (mach_at c.settings k))
  pub form : body_friction_form_factor c.settings.body_fineness ≡ Ok (1·0 ⊕ 0·5 ⊘ c.settings.body_fineness)
  pub base : base_drag_coefficient (mach_at c.settings k) ≡ Ok (base_drag (mach_at c.settings k))

passed_at : (c : Contents) → Ranges c → (k : ℕ) → k < c.settings.count → mach_checked (mach_at c.settings k) ≡ Ok tt
passed_at c r k h = (both_passed (mach_checked (mach_at c.settings k)) _ (r.columns k h)).first

-- its own, or the settings' one
rough_inside : (k : Float) (r : Option Float) → between 0·0 k 1·0 ≡ true → ((x : Float) → r ≡ Some x → between 0·0 x 1·0 ≡ true) → between 0·0 (roughness_of r k) 1·0 ≡ true
rough_inside k None h own = h
rough_inside k (Some x) h own = own x refl

pub body_answered : (c : Contents) (cells : ℕ) → Tested c cells → (k : ℕ) → k < c.settings.count → Answered c k
body_answered c cells t k h =
    let r = ranges c cells t in
    record {
      friction = λ j i m l. friction_answered (reynolds_at c.settings k) (wall_at c j i) (mach_at c.settings k) (r.columns k h) (rough_inside (roughness_at c.settings j) (part_at c.parts i).roughness (r.roughness j m) (r.parts i l).own);
      form = form_answered c.settings.body_fineness r.fineness;
      base = base_answered (mach_at c.settings k) (passed_at c r k h);
    }

-- ---- a part's row

-- how a part's row is prepared: one that widens has a curve or its refusal, one that narrows and one that does neither have none
pub data Way (f : Float) (part : Part) : Prepared → Type 0 where
  widens : {curve : PressureDragCurve} {area : Float} → Way f part (Ok (Widening curve area))
  refused : {e : AeroError} → (f ≺ part.aft_diameter) ≡ true → new_curve part.shape (part.length ⊘ (part.aft_diameter ⊖ f)) part.joint_angle ≡ Err e → Way f part (Err e)
  narrows : {area : Float} → (part.aft_diameter ≺ f) ≡ true → Way f part (Ok (Narrowing part.length f part.aft_diameter area))
  level : Way f part (Ok Level)

module _ (D f : Float) (part : Part) where
  abbrev d : Float
  d = part.aft_diameter

  abbrev curve_of : Curve
  curve_of = new_curve part.shape (part.length ⊘ (part.aft_diameter ⊖ f)) part.joint_angle

  built : (curve : Curve) → (f ≺ part.aft_diameter) ≡ true → curve_of ≡ curve → Way f part (with_curve curve (area_ratio d f D))
  built (Ok curve) w q = widens
  built (Err e) w q = refused w q

  wide : (less more : Bool) → (part.aft_diameter ≺ f) ≡ less → (f ≺ part.aft_diameter) ≡ more
      → Way f part (cond more (with_curve curve_of (area_ratio d f D)) (cond less (Ok (Narrowing part.length f d (area_ratio f d D))) (Ok Level)))
  wide less true l m = built curve_of m refl
  wide true false l m = narrows l
  wide false false l m = level

  pub way : Way f part (prepared_of D f part)
  unfolding prepared_of
  way = wide (d ≺ f) (f ≺ d) refl refl

hundred_finite : finite 100·0 ≡ true
unfolding of_bits
hundred_finite = refl

-- a row that is ready is made at every Mach number
made : {f : Float} {part : Part} {p : Prepared} (M : Float) → Way f part p → between 0·0 f 100·0 ≡ true → Sized part → mach_checked M ≡ Ok tt → ready_test p ≡ Ok tt → made_test (cell_from p M) ≡ Ok tt
unfolding cell_of
made M (widens {curve}) fore s m h = rw (curve_answered curve M m)
made M (refused w q) fore s m h = h
made {f} {part} M (narrows n) fore s m h =
    rw (base_answered M m, boattail_answered part.length f part.aft_diameter 100·0 hundred_finite s.long fore s.aft n)
made M level fore s m h = refl

-- the fore diameter is an aft diameter, or +0
fore_inside : (c : Contents) → Ranges c → (i : ℕ) → i ≤ length c.parts → between 0·0 (fore_at c.parts i) 100·0 ≡ true
unfolding fore_at
fore_inside c r zero h = inside 0·0 0·0 100·0 zero_passes
fore_inside c r (suc i) h = (r.parts i (omega arith)).aft

module _ (c : Contents) (cells : ℕ) (tested : Tested c cells) where
  -- the last diameter too
  pub last_inside : between 0·0 (last_diameter c) 100·0 ≡ true
  last_inside = fore_inside c (ranges c cells tested) (length c.parts) (omega arith)

  made_at : (i k : ℕ) → i < length c.parts → k < c.settings.count → ready_test (prepared_at c i) ≡ Ok tt → made_test (cell_from (prepared_at c i) (mach_at c.settings k)) ≡ Ok tt
  made_at i k h l =
      let r = ranges c cells tested in
      made (mach_at c.settings k) (way c.settings.reference_diameter (fore_at c.parts i) (part_at c.parts i)) (fore_inside c r i (omega arith)) (r.parts i h) (passed_at c r k l)

  -- once ready, no column refuses
  pub row_ready : (i : ℕ) → i < length c.parts → row_test c i ≡ ready_test (prepared_at c i)
  unfolding row_test
  row_ready i h = then_first (ready_test (prepared_at c i)) _ (λ ready. up_all _ c.settings.count (λ k l. made_at i k h l ready))

  pub trial_ready : trial c ≡ up_to (length c.parts) (λ i. ready_test (prepared_at c i))
  unfolding trial
  trial_ready = up_same _ _ (length c.parts) row_ready

  pub column_ready : (k : ℕ) → k < c.settings.count → column_trial k c ≡ up_to (length c.parts) (λ i. ready_test (prepared_at c i))
  unfolding column_trial
  column_ready k l = up_same _ _ (length c.parts) (λ i h. then_first (ready_test (prepared_at c i)) _ (made_at i k h l))

-- ---- a refusal

-- the part at place i is wider than the one before it, and its curve is refused so
pub record CurveRefused (c : Contents) (e : AeroError) (i : ℕ) : Type 0 where
  pub inside : i < length c.parts
  pub widens : (fore_at c.parts i ≺ (part_at c.parts i).aft_diameter) ≡ true
  pub curve : new_curve (part_at c.parts i).shape ((part_at c.parts i).length ⊘ ((part_at c.parts i).aft_diameter ⊖ fore_at c.parts i)) (part_at c.parts i).joint_angle ≡ Err e

refusal : {f : Float} {part : Part} {p : Prepared} {e : AeroError} → Way f part p → ready_test p ≡ Err e
    → ((f ≺ part.aft_diameter) ≡ true) × (new_curve part.shape (part.length ⊘ (part.aft_diameter ⊖ f)) part.joint_angle ≡ Err e)
refusal widens h = never h refl
refusal {e = e} (refused {e = x} w q) h = let same : x ≡ e = cc in (w, q ∙ ap Err same)
refusal (narrows n) h = never h refl
refusal level h = never h refl

-- a row isn't ready exactly where its curve is refused
pub ready_refused : (c : Contents) (e : AeroError) (i : ℕ) → i < length c.parts → ready_test (prepared_at c i) ≡ Err e → CurveRefused c e i
ready_refused c e i h q =
    let r = refusal (way c.settings.reference_diameter (fore_at c.parts i) (part_at c.parts i)) q in
    record { inside = h; widens = r.0; curve = r.1 }

pub refused_ready : (c : Contents) (e : AeroError) (i : ℕ) → CurveRefused c e i → ready_test (prepared_at c i) ≡ Err e
unfolding prepared_of
refused_ready c e i r = rw (r.widens, r.curve)

some_refused : (c : Contents) (e : AeroError) → up_to (length c.parts) (λ i. ready_test (prepared_at c i)) ≡ Err e → (i : ℕ) × CurveRefused c e i
some_refused c e h = let r = up_refused _ (length c.parts) h in (r.0, ready_refused c e r.0 r.1 r.2)

-- whatever a call tries
tries_refused : (call : Call) (c : Contents) (cells : ℕ) (e : AeroError) → Tested (applied call c) cells → Bounds call c.settings (length c.parts) → tries call (applied call c) ≡ Err e
    → (i : ℕ) × CurveRefused (applied call c) e i
unfolding tries
tries_refused (replace place p) c cells e t b h =
    let new = applied (replace place p) c in
    let here : place < length new.parts = omega (arith, length-set c.parts place p) in
    ⊎_elim
    (λ own. (place, ready_refused new e place here (sym (row_ready new cells t place here) ∙ own)))
    (λ next. next_row (ltb (place + 1) (length new.parts)) refl next.1)
    (then_failed (row_test new place) (row_test_where new (place + 1)) h)
  where
    next_row : (b : Bool) → ltb (place + 1) (length (applied (replace place p) c).parts) ≡ b → cond b (row_test (applied (replace place p) c) (place + 1)) (Ok tt) ≡ Err e
        → (i : ℕ) × CurveRefused (applied (replace place p) c) e i
    next_row true l q = let m = ltb-true _ _ l in (place + 1, ready_refused _ e (place + 1) m (sym (row_ready _ cells t (place + 1) m) ∙ q))
    next_row false l q = never q refl
tries_refused (insert place p) c cells e t b h = some_refused _ e (sym (trial_ready _ cells t) ∙ h)
tries_refused (remove place) c cells e t b h = some_refused _ e (sym (trial_ready _ cells t) ∙ h)
tries_refused (set_column k M R) c cells e t b h = some_refused _ e (sym (column_ready _ cells t k b) ∙ h)
tries_refused (ignite n) c cells e t b h = never h refl
tries_refused burnout c cells e t b h = never h refl

-- a call on contents that passed, with arguments that passed, is refused by nothing but a curve
pub only_curves : (call : Call) (c : Contents) (cells : ℕ) (e : AeroError) → Tested c cells → arguments_test call c.settings (length c.parts) ≡ Ok tt → tries call (applied call c) ≡ Err e
    → (i : ℕ) × CurveRefused (applied call c) e i
only_curves call c cells e t a h = tries_refused call c cells e (tested_after call c cells t a) (bounds call c.settings (length c.parts) a) h

-- and so is a call on a sheet, past its tests
pub sheet_only_curves : (call : Call) (sheet : Sheet) (cells : ℕ) (e : AeroError) → length sheet.design.parts ≡ most_parts → call_test call sheet cells ≡ Ok tt → decision call sheet cells ≡ Err e
    → (i : ℕ) × CurveRefused (after call sheet) e i
sheet_only_curves call sheet cells e slots ok h =
    let f = call_facts call sheet cells ok in
    let n : length (contents_of sheet).parts ≡ sheet.design.count = length-take-le sheet.design.count sheet.design.parts (omega (arith, f.fits.parts)) in
    let t = both_passed (sheet_test (contents_of sheet) cells sheet.design.count) _ ok in
    only_curves call (contents_of sheet) cells e (rw n t.first) (rw n t.second) (rw ok at h)
