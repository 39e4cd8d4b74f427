-- Refusals 8 and 9 by laws of their own: 8 is given exactly where the place or the column isn't there, 9 exactly where 16 parts stand and one more is put in, or a sheet
-- is given with more than 16; of every call, sheet and number of cells, and of a model of 16 parts at most. No test of settings, parts or rows gives either (`Other`).
use Rattle.std.specs.Prelude.{Ok, Err}
use Rattle.aero_error.specs.Checks.{required, dimension, ◌then◌, unless, ◌and_then◌, ◌for_value◌, Check}
use Rattle.drag_sheet.specs.Formulas.{Prepared}
use mathlib.Core.Path.{◌≡◌, refl, ap}
use mathlib.Core.Logic.{◌↔◌, ◌⊎◌, inl, inr, ⊎_elim}
use mathlib.Core.Bool.{true, ◌&&◌}
use Prim.Native.Nat.{ℕ, ◌+◌, ◌≤◌, ◌<◌}
use native.Mathlib.Omega.{arith}
use lib.ListN.{length}
use lib.Dec.{ltb}
use lib.Ieee.{Float}
use lib.Ieee.Scale.{finite}
use borrow.Author.Tests.{ltb-true, ltb-false, lt-ltb}
use Rattle.elementary.specs.Arithmetic.{◌⊗◌, ◌≺◌}
use Rattle.elementary.specs.Constants.{0·0}
use Rattle.aero_error.specs.declared.Quantity.TheVariants.{BoattailLength, BoattailAft, BoattailFore}
use Rattle.aero_error.specs.declared.AeroError.{AeroError}
use Rattle.aero_error.specs.declared.AeroError.TheVariants.{Domain, Broken}
use Rattle.aero_error.specs.declared.Rule.TheVariants.{NoSuchPlace, DesignFull}
use Rattle.aero_error.specs.Refusals.{number_of_rule}
use Rattle.aero_error.specs.CheckLaws.{both_passed, unless_passed, then_assoc}
use Rattle.drag.specs.Friction.{mach_checked}
use Rattle.drag.specs.Pressure.{base_drag_coefficient, boattail_factor}
use Rattle.nose_drag.specs.Curves.{coefficient_of}
use Rattle.nose_drag.specs.Answered.{CurveRefusal, curve_refusals}
use Rattle.sheet_data.specs.declared.Settings.{Settings}
use Rattle.sheet_data.specs.declared.Part.{Part}
use Rattle.sheet_data.specs.declared.Sheet.{Sheet}
use Rattle.sheet_data.specs.Layout.{most_parts}
use Rattle.sheet_data.specs.Contents.{Contents, contents_of, part_at, fore_at, mach_at}
use Rattle.sheet_data.specs.Tests.{100·0, settings_test, nozzle_test, parts_test, sheet_test}
use Rattle.drag_sheet.specs.Formulas.{scaled_by, cell_of, cell_from, ready_test, made_test}
use Rattle.drag_sheet.specs.Build.{prepared_at, row_test, trial}
use Rattle.drag_sheet.specs.Calls.{Call, replace, insert, remove, set_column, ignite, burnout, arguments_test, column_trial, tries, after, decision, applied}
use Rattle.drag_sheet.specs.Model.{model_decision}
use Rattle.drag_sheet.proofs.Refusals.{then_failed, unless_failed}
use Rattle.drag_sheet.proofs.OnlyCurves.{Way, widens, refused, narrows, level, way}
use Rattle.drag_sheet.proofs.Absent.{Other, other_then, other_up, other_unless, other_cond, apart, other_required, other_interval, other_mach, other_settings, other_parts, Absent, Full, arguments_8, arguments_9}

-- ---- rows

module _ (n : ℕ) (low : 8 ≤ n) (high : n ≤ 9) where
  other_curve : (e : AeroError) → CurveRefusal e → Other n (Err e)
  other_curve (Domain what x) h = λ q. omega arith
  other_curve (Broken rule) h = λ q. ⊎_elim (λ r. let two = ap number_of_rule r in omega arith) (λ r. let three = ap number_of_rule r in omega arith) h

  other_ready : {f : Float} {part : Part} {p : Prepared} → Way f part p → Other n (ready_test p)
  other_ready widens = tt
  other_ready {f} {part} (refused {e} w q) = other_curve e (curve_refusals _ _ _ e q)
  other_ready (narrows h) = tt
  other_ready level = tt

  -- a number once its tests pass
  other_scaled : (check : Check) (v area : Float) → Other n check → Other n (made_test (scaled_by area (check and_then Ok v)))
  other_scaled (Ok _) v area h = tt
  other_scaled (Err e) v area h = h

  other_product : (a b : Check) (v w area : Float) → Other n a → Other n b
      → Other n (made_test (scaled_by area ((a and_then Ok v) for_value λ x. (b and_then Ok w) for_value λ y. Ok (x ⊗ y))))
  other_product (Ok _) (Ok _) v w area h k = tt
  other_product (Ok _) (Err e) v w area h k = k
  other_product (Err e) b v w area h k = h

  -- the tests of a boattail
  abbrev boattail_test : Float → Float → Float → Check
  boattail_test l f d = required (dimension l true) BoattailLength l then required (dimension d true) BoattailAft d then required (finite f && d ≺ f) BoattailFore f

  other_boattail : (l f d : Float) → Other n (boattail_test l f d)
  other_boattail l f d =
      other_then n (required (dimension l true) BoattailLength l) _ (other_required n low high (dimension l true) BoattailLength l)
      (other_then n (required (dimension d true) BoattailAft d) _ (other_required n low high (dimension d true) BoattailAft d) (other_required n low high (finite f && d ≺ f) BoattailFore f))

  other_made : {f : Float} {part : Part} {p : Prepared} (M : Float) → Way f part p → Other n (made_test (cell_from p M))
  unfolding cell_of coefficient_of base_drag_coefficient boattail_factor
  other_made M (widens {area = area}) = other_scaled (mach_checked M) _ area (other_mach n low high M)
  other_made M (refused {e} w q) = other_curve e (curve_refusals _ _ _ e q)
  other_made {f} {part} M (narrows {area} h) = other_product (mach_checked M) (boattail_test part.length f part.aft_diameter) _ _ area (other_mach n low high M) (other_boattail part.length f part.aft_diameter)
  other_made M level = tt

  way_at : (c : Contents) (i : ℕ) → Way (fore_at c.parts i) (part_at c.parts i) (prepared_at c i)
  way_at c i = way c.settings.reference_diameter (fore_at c.parts i) (part_at c.parts i)

  other_row : (c : Contents) (i : ℕ) → Other n (row_test c i)
  unfolding row_test
  other_row c i = other_then n (ready_test (prepared_at c i)) _ (other_ready (way_at c i)) (other_up n c.settings.count _ (λ k. other_made (mach_at c.settings k) (way_at c i)))

  other_trial : (c : Contents) → Other n (trial c)
  unfolding trial
  other_trial c = other_up n (length c.parts) _ (other_row c)

  other_tries : (call : Call) (c : Contents) → Other n (tries call c)
  unfolding tries column_trial
  other_tries (replace place p) c = other_then n (row_test c place) _ (other_row c place) (other_cond n (ltb (place + 1) (length c.parts)) _ _ (other_row c (place + 1)) tt)
  other_tries (insert place p) c = other_trial c
  other_tries (remove place) c = other_trial c
  other_tries (set_column k M R) c =
      other_up n (length c.parts) _ (λ i. other_then n (ready_test (prepared_at c i)) _ (other_ready (way_at c i)) (other_made (mach_at c.settings k) (way_at c i)))
  other_tries (ignite n) c = tt
  other_tries burnout c = tt

-- ---- any tests of a sheet and of a call, and then others

module _ (call : Call) (c : Contents) (cells count : ℕ) (rest : Check) where
  abbrev s : Settings
  s = c.settings

  eight : Other 8 rest → ((sheet_test c cells count then arguments_test call c.settings count then rest) ≡ Err (Broken NoSuchPlace)) ↔ ((sheet_test c cells count ≡ Ok tt) × Absent call c.settings count)
  unfolding sheet_test
  eight other = (
    (λ e.
        ⊎_elim
        (λ a.
        apart
        (other_then 8 (settings_test s cells) _ (other_settings 8 (omega arith) (omega arith) s cells)
        (other_then 8 (nozzle_test c.nozzle) _ (other_interval 8 (omega arith) (omega arith) 0·0 c.nozzle 100·0)
        (other_then 8 (unless (ltb most_parts count) DesignFull) _ (other_unless 8 (ltb most_parts count) DesignFull (λ q. omega arith)) (other_parts 8 (omega arith) (omega arith) c.parts))))
        refl a)
        (λ b. (b.0, ⊎_elim (arguments_8 call s count).0 (λ d. apart other refl d.1) (then_failed (arguments_test call s count) rest b.1)))
        (then_failed (sheet_test c cells count) _ e)),
    (λ h. rw (h.0, (arguments_8 call s count).1 h.1)),
  )

  few : sheet_test c cells count ≡ Ok tt → count ≤ most_parts
  unfolding sheet_test
  few h =
      let a = both_passed (settings_test s cells) _ h in
      let b = both_passed (nozzle_test c.nozzle) _ a.second in
      ltb-false most_parts count (unless_passed _ DesignFull (both_passed (unless (ltb most_parts count) DesignFull) _ b.second).first)

  over : sheet_test c cells count ≡ Err (Broken DesignFull) → (settings_test c.settings cells ≡ Ok tt) × (nozzle_test c.nozzle ≡ Ok tt) × (most_parts < count)
  unfolding sheet_test
  over h =
      ⊎_elim (λ a. apart (other_settings 9 (omega arith) (omega arith) s cells) refl a)
      (λ b.
      ⊎_elim (λ d. apart (other_interval 9 (omega arith) (omega arith) 0·0 c.nozzle 100·0) refl d)
      (λ d. (
        b.0,
        d.0,
        ⊎_elim (λ x. ltb-true most_parts count (unless_failed _ DesignFull x)) (λ x. apart (other_parts 9 (omega arith) (omega arith) c.parts) refl x.1) (then_failed (unless (ltb most_parts count) DesignFull) (parts_test c.parts) d.1),
      ))
      (then_failed (nozzle_test c.nozzle) _ b.1))
      (then_failed (settings_test s cells) _ h)

  nine : Other 9 rest → ((sheet_test c cells count then arguments_test call c.settings count then rest) ≡ Err (Broken DesignFull))
      ↔ (((settings_test c.settings cells ≡ Ok tt) × (nozzle_test c.nozzle ≡ Ok tt) × (most_parts < count)) ⊎ ((sheet_test c cells count ≡ Ok tt) × Full call count))
  unfolding sheet_test
  nine other = (
    (λ e.
        ⊎_elim
        (λ a. inl (over a))
        (λ b. inr (b.0, ⊎_elim (arguments_9 call s count (few b.0)).0 (λ d. apart other refl d.1) (then_failed (arguments_test call s count) rest b.1)))
        (then_failed (sheet_test c cells count) _ e)),
    ⊎_elim (λ h. rw (h.0, h.1, lt-ltb most_parts count h.2)) (λ h. rw (h.0, (arguments_9 call s count (few h.0)).1 h.1)),
  )

-- ---- the calls

module _ (call : Call) (sheet : Sheet) (cells : ℕ) where
  abbrev test : Check
  test = sheet_test (contents_of sheet) cells sheet.design.count

  assoc : decision call sheet cells ≡ (test then arguments_test call sheet.settings sheet.design.count then tries call (after call sheet))
  assoc = then_assoc test _ _

  pub no_such_place : (decision call sheet cells ≡ Err (Broken NoSuchPlace))
      ↔ ((sheet_test (contents_of sheet) cells sheet.design.count ≡ Ok tt) × Absent call sheet.settings sheet.design.count)
  no_such_place = rw assoc (eight call (contents_of sheet) cells sheet.design.count _ (other_tries 8 (omega arith) (omega arith) call (after call sheet)))

  pub design_full : (decision call sheet cells ≡ Err (Broken DesignFull))
      ↔ (((settings_test sheet.settings cells ≡ Ok tt) × (nozzle_test sheet.nozzle_diameter ≡ Ok tt) × (16 < sheet.design.count))
      ⊎ ((sheet_test (contents_of sheet) cells sheet.design.count ≡ Ok tt) × Full call sheet.design.count))
  design_full = rw assoc (nine call (contents_of sheet) cells sheet.design.count _ (other_tries 9 (omega arith) (omega arith) call (after call sheet)))

-- the hand copy's answers, 9 where it has 16 parts at most
module _ (cells : ℕ) (call : Call) (m : Contents) where
  pub model_no_such_place : (model_decision cells call m ≡ Err (Broken NoSuchPlace)) ↔ ((sheet_test m cells (length m.parts) ≡ Ok tt) × Absent call m.settings (length m.parts))
  model_no_such_place = eight call m cells (length m.parts) _ (other_trial 8 (omega arith) (omega arith) (applied call m))

  pub model_design_full : length m.parts ≤ 16 → (model_decision cells call m ≡ Err (Broken DesignFull)) ↔ ((sheet_test m cells (length m.parts) ≡ Ok tt) × Full call (length m.parts))
  model_design_full few =
      let e = nine call m cells (length m.parts) _ (other_trial 9 (omega arith) (omega arith) (applied call m)) in
      ((λ h. ⊎_elim (λ a. absurd (omega (arith, a.2))) (λ b. b) (e.0 h)), (λ h. e.1 (inr h)))
