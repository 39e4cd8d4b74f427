-- No card carries a nozzle diameter, so a stream's answer is the one of document 01: every sheet of a run coasts (then its tests are those without a nozzle diameter,
-- `coasting_tests` of `drag_sheet`), and the base row of an accepted stream is "base drag at M × ((last d × last d)/(D×D))".
use Rattle.cards.specs.Fields.{Read}
use Rattle.std.specs.Prelude.{Ok, Err}
use Rattle.aero_error.specs.Checks.{Check}
use mathlib.Core.Path.{◌≡◌, refl, sym, ◌∙◌}
use mathlib.Core.Bool.{Bool, true, false, cond}
use mathlib.Core.List.{List}
use Prim.Native.Nat.{ℕ, zero, suc}
use native.Mathlib.Omega.{arith}
use lib.ListN.{length}
use lib.Dec.{ltb}
use lib.Ieee.{Float}
use Rattle.elementary.specs.Arithmetic.{◌⊗◌, ◌⊘◌}
use Rattle.elementary.specs.Constants.{0·0}
use Rattle.drag.specs.Pressure.{base_drag_coefficient}
use Rattle.sheet_data.specs.declared.Part.{Part}
use Rattle.sheet_data.specs.declared.Sheet.{Sheet}
use Rattle.sheet_data.specs.Layout.{base_row, all_rows}
use Rattle.sheet_data.specs.Contents.{mach_at, contents_of, blank}
use Rattle.sheet_data.specs.Tests.{settings_test}
use Rattle.sheet_data.specs.Tables.{tab, tab_same}
use Rattle.sheet_data.specs.Rows.{row_at}
use Rattle.sheet_data.specs.RowLaws.{rows_laid}
use Rattle.drag_sheet.specs.Planes.{cell_plane, Lent, cells_lent}
use Rattle.drag_sheet.specs.Formulas.{value_of, last_diameter, base_cell}
use Rattle.drag_sheet.specs.Build.{row_of, build}
use Rattle.drag_sheet.specs.Writing.{whole, rewritten}
use Rattle.drag_sheet.specs.Calls.{decision}
use Rattle.drag_sheet.proofs.RowKinds.{row_wide}
use Rattle.drag_sheet.proofs.MadeRows.{base_made}
use Rattle.drag_sheet.proofs.BaseArea.{coasting_base}
use Rattle.cards.specs.Cards.{part_at}
use Rattle.card_run.specs.Run.{Ran, stopped, on_part, on_check, insert_last, sheet_after, lent_after, part_card, part_cards, all_part_cards, stopped_at, first_card, stream_of}
use Rattle.card_run.specs.Said.{said}
use Rattle.card_run.proofs.Stream.{outcome}
use Rattle.card_run.proofs.Built.{stream_built, stream_tested}

-- ---- every sheet of a run coasts

abbrev nozzle_of : Ran → Float
nozzle_of ran = ran.run.sheet.nozzle_diameter

-- one card, where what follows it is known to keep it
module _ (s : List ℕ) (at : ℕ) (sheet : Sheet) (xs : Lent) (go : ℕ → Sheet → Lent → Ran)
    (keeps : (next : ℕ) (after : Sheet) (ys : Lent) → nozzle_of (go next after ys) ≡ after.nozzle_diameter) where
  decided : (part : Part) (next : ℕ) (d : Check)
      → nozzle_of (on_check d (λ e. stopped (Err e) sheet xs) (go next (sheet_after (insert_last sheet part) sheet) (lent_after (insert_last sheet part) sheet xs))) ≡ sheet.nozzle_diameter
  decided part next (Err e) = refl
  decided part next (Ok _) = keeps next (sheet_after (insert_last sheet part) sheet) (lent_after (insert_last sheet part) sheet xs)

  read : (r : Read Part)
      → nozzle_of (on_part r (λ e. stopped (Err e) sheet xs) λ part next. on_check (decision (insert_last sheet part) sheet (cells_lent xs)) (λ e. stopped (Err e) sheet xs) (go next (sheet_after (insert_last sheet part) sheet) (lent_after (insert_last sheet part) sheet xs)))
      ≡ sheet.nozzle_diameter
  read (Err e) = refl
  read (Ok (part, next)) = decided part next (decision (insert_last sheet part) sheet (cells_lent xs))

  card_keeps : nozzle_of (part_card s at sheet xs go) ≡ sheet.nozzle_diameter
  card_keeps = by _ (ltb at (length s)) (read (part_at s at))
    where
      by : (carded : Ran) (more : Bool) → nozzle_of carded ≡ sheet.nozzle_diameter → nozzle_of (cond more carded (stopped (Ok tt) sheet xs)) ≡ sheet.nozzle_diameter
      by carded true h = h
      by carded false h = refl

cards_keep : (n : ℕ) (s : List ℕ) (at : ℕ) (sheet : Sheet) (xs : Lent) → nozzle_of (part_cards n s at sheet xs) ≡ sheet.nozzle_diameter
unfolding part_cards
cards_keep zero s at sheet xs = refl
cards_keep (suc n) s at sheet xs = card_keeps s at sheet xs (part_cards n s) (cards_keep n s)

-- also where the stream is refused
pub stream_coasts : (s : List ℕ) (xs : Lent) → (stream_of s xs).run.sheet.nozzle_diameter ≡ 0·0
unfolding stream_of
stream_coasts s xs =
    let sheet = blank (first_card s).settings in
    let cards = all_part_cards s (first_card s).next sheet (rewritten whole (contents_of sheet) xs) in
    by _ (first_card s).outcome sheet refl (by cards (settings_test (first_card s).settings (cells_lent xs)) sheet refl (cards_keep (length s) s (first_card s).next sheet _))
  where
    by : (ran : Ran) (c : Check) (sheet : Sheet) → sheet.nozzle_diameter ≡ 0·0 → nozzle_of ran ≡ 0·0 → nozzle_of (on_check c (λ e. stopped_at 0 (Err e) sheet xs) ran) ≡ 0·0
    by ran (Err e) sheet z h = z
    by ran (Ok _) sheet z h = h

-- ---- the base row of an accepted stream

pub stream_base : (s : List ℕ) (xs : Lent) → outcome (stream_of s xs) ≡ Ok tt → let c = said s in let D = c.settings.reference_diameter in
    row_at c.settings.count (stream_of s xs).lent.cells (base_row c.settings.finishes) ≡ tab c.settings.count (λ k. value_of (base_drag_coefficient (mach_at c.settings k)) ⊗ (last_diameter c ⊗ last_diameter c ⊘ (D ⊗ D)))
unfolding build base_cell
stream_base s xs o =
    let c = said s in
    rows_laid (all_rows c.settings.finishes) c.settings.count (row_of cell_plane c) (stream_of s xs).lent.cells (row_wide cell_plane c) (stream_built s xs o).rows (base_row c.settings.finishes) (omega arith)
    ∙ sym (base_made c)
    ∙ tab_same c.settings.count _ _ (λ k h. coasting_base c (cells_lent xs) (mach_at c.settings k) (stream_tested s xs o) refl)
