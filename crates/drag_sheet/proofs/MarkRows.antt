-- The totals' marks as the code takes them from the part rows that are there, and the rows that it writes without a mark.
use mathlib.Core.Path.{◌≡◌, refl, sym, ap, ◌∙◌}
use mathlib.Core.Logic.{dite}
use mathlib.Core.List.{List}
use Prim.Native.Nat.{ℕ, ◌+◌, ◌-◌, ◌≤◌}
use native.Mathlib.Numerals.{add-one}
use native.Mathlib.Decide.{dec_lt}
use native.Mathlib.Omega.{arith}
use lib.ListN.{length, get_or, replicate}
use Rattle.sheet_data.specs.Layout.{most_parts, friction_row, base_row}
use Rattle.sheet_data.specs.Contents.{Contents}
use Rattle.sheet_data.specs.Tables.{tab, tab_long, tab_at, tab_same, tab_constant}
use Rattle.sheet_data.specs.Rows.{from, row_at, rows_written}
use Rattle.sheet_data.specs.RowLaws.{rows_from_same}
use Rattle.drag_sheet.specs.Formulas.{any_to}
use Rattle.drag_sheet.specs.Planes.{mark_plane}
use Rattle.drag_sheet.specs.Body.{any_more}
use Rattle.drag_sheet.specs.Build.{kind_cell, row_of}
use Rattle.drag_sheet.specs.Writing.{there}
use Rattle.drag_sheet.specs.Calls.{nozzle_rows, body_rows}
use Rattle.drag_sheet.proofs.RowKinds.{kind_friction, kind_base}

-- ---- totals

pub any_none : (f : ℕ → ℕ) → any_to 0 f ≡ 0
unfolding any_to
any_none f = refl

any_next : (n : ℕ) (f : ℕ → ℕ) → any_to (n + 1) f ≡ any_more (any_to n f) (f n)
unfolding any_to
any_next n f = rw (add-one n)

-- one row more of those that are there
pub any_there_more : (C n : ℕ) (xs row any out : List ℕ) → row ≡ row_at C xs n → any ≡ tab C (λ k. any_to n (λ i. there mark_plane C xs i k)) → out ≡ tab (length any) (λ k. any_more (get_or any k 0) (get_or row k 0))
    → out ≡ tab C (λ k. any_to (n + 1) (λ i. there mark_plane C xs i k))
any_there_more C n xs row any out e s h =
    let f : ℕ → ℕ = λ k. any_to n (λ i. there mark_plane C xs i k) in
    let l : length any ≡ C = ap length s ∙ tab_long C f in
    h ∙ rw l (tab_same C _ _ (λ k m. rw (s, tab_at C f 0 k m, e) (sym (any_next n (λ i. there mark_plane C xs i k)))))

-- ---- rows without a mark

module _ (c : Contents) where
  abbrev F : ℕ
  F = c.settings.finishes

  -- a friction row, or the base row
  no_mark : (r : ℕ) → friction_row 0 ≤ r → r ≤ base_row c.settings.finishes → replicate c.settings.count 0 ≡ row_of mark_plane c r
  unfolding kind_cell
  no_mark r a b =
      let j = r - most_parts in
      dite (dec_lt r (base_row F))
      (λ l. let e : r ≡ friction_row j = omega arith in tab_constant c.settings.count 0 ∙ tab_same c.settings.count _ _ (λ k m. rw (e, kind_friction F j (omega arith))))
      (λ l. let e : r ≡ base_row F = omega arith in tab_constant c.settings.count 0 ∙ tab_same c.settings.count _ _ (λ k m. rw (e, kind_base F)))

  none_written : (first n : ℕ) (xs : List ℕ) → friction_row 0 ≤ first → first + n ≤ base_row c.settings.finishes + 1
      → rows_written c.settings.count (λ r. replicate c.settings.count 0) (from first n) xs ≡ rows_written c.settings.count (row_of mark_plane c) (from first n) xs
  none_written first n xs a b = rows_from_same c.settings.count _ _ first n xs (λ r u v. no_mark r (omega arith) (omega arith))

  pub nozzle_cleared : (xs : List ℕ) → rows_written c.settings.count (λ r. replicate c.settings.count 0) (from (base_row c.settings.finishes) 1) xs ≡ rows_written c.settings.count (row_of mark_plane c) (nozzle_rows c.settings.finishes) xs
  nozzle_cleared xs = none_written (base_row F) 1 xs (omega arith) (omega arith) ∙ (let e : base_row F + 0 ≡ base_row F = omega arith in rw e)

  pub body_cleared : (xs : List ℕ) → rows_written c.settings.count (λ r. replicate c.settings.count 0) (from (friction_row 0) (c.settings.finishes + 1)) xs ≡ rows_written c.settings.count (row_of mark_plane c) (body_rows c.settings.finishes) xs
  unfolding body_rows
  body_cleared xs = none_written (friction_row 0) (F + 1) xs (omega arith) (omega arith) ∙ rw (add-one F)
