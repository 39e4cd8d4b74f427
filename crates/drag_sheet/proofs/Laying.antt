-- The loops that write rows into lent cells: part rows by place (`Laying`), a cell of each row (`Putting`), and a sheet built from nothing over cells of +0.
use Rattle.std.specs.Prelude.{Ok, Err}
use Rattle.aero_error.specs.Checks.{up_to, Check}
use mathlib.Core.Path.{◌≡◌, refl, sym, ap, ◌∙◌}
use mathlib.Core.Logic.{dite, ◌≢◌}
use mathlib.Core.List.{List, ◌++◌}
use Prim.Native.Nat.{ℕ, ◌+◌, ◌-◌, ◌*◌, ◌≤◌, ◌<◌}
use native.Mathlib.Numerals.{add-one}
use native.Mathlib.Decide.{dec_lt}
use native.Mathlib.Omega.{arith}
use lib.ListN.{length, take, drop, set, get_or, replicate, length-replicate, replicate-append-replicate, length-drop, length-set}
use lib.Seq.{take_all, drop_at, length-take-le}
use Rattle.std.proofs.lemmas.List.{take-replicate}
use lib.Ieee.{Float}
use Rattle.elementary.specs.Constants.{0·0}
use Rattle.aero_error.specs.declared.AeroError.{AeroError}
use Rattle.aero_error.specs.CheckLaws.{up_none, up_more, up_failed, up_end}
use Rattle.sheet_data.specs.declared.Part.{Part}
use Rattle.sheet_data.specs.Layout.{RowPlace, most_parts, friction_row, base_row, total_row, all_rows, needed}
use Rattle.sheet_data.specs.Contents.{Contents, part_at, fore_at}
use Rattle.sheet_data.specs.Rows.{from, Unnamed, Below, row_at, written, rows_written}
use Rattle.sheet_data.specs.RowLaws.{room, put_row, rows_append, RowsDone, rows_none, rows_next, rows_from_same, after_named, before_named, from_below, below_append, unnamed_append, written_long, cell_set, wrote}
use Rattle.drag_sheet.specs.Formulas.{prepared_of}
use Rattle.drag_sheet.specs.Planes.{Plane}
use Rattle.drag_sheet.specs.Build.{prepared_at, row_test_from, row_from, row_test, trial, row_of, build}
use Rattle.drag_sheet.specs.Writing.{Filled, rows, totalled, overwritten}
use Rattle.drag_sheet.specs.Calls.{with_nozzle, body_rows}
use Rattle.drag_sheet.proofs.Verdicts.{filled_refused, filled_passed, filled_same}
use Rattle.drag_sheet.proofs.RowKinds.{part_row, no_part, same_trial, above_base}
use Rattle.drag_sheet.proofs.Overwritten.{Holds, holds_build, rows_hold, keeps}

-- where a row begins, by the numbers of finishes and columns that its layout has
pub placed : {F C n m row at : ℕ} → (n ≡ F) × (m ≡ C) → RowPlace n m row at → RowPlace F C row at
placed same p = rw (same.0, same.1) at p

-- ---- part rows

pub record Laying {A : Type 0} (P : Plane A) (c : Contents) (places : ℕ) (cells₀ cells : List A) (fore : Float) (place : ℕ) : Type 0 where
  pub before : fore ≡ fore_at c.parts place
  pub passed : up_to place (row_test c) ≡ Ok tt
  pub rows : RowsDone c.settings.count (row_of P c) 0 places cells₀ cells place

pub none_laid : {A : Type 0} {P : Plane A} {c : Contents} {places : ℕ} (cells : List A) → Laying P c places cells cells 0·0 0
unfolding fore_at
none_laid {P = P} {c = c} {places = places} cells = record { before = refl; passed = up_none (row_test c); rows = rows_none c.settings.count (row_of P c) 0 places cells }

module _ {A : Type 0} (P : Plane A) (c : Contents) {places : ℕ} {cells₀ cells : List A} {fore : Float} {place : ℕ} (l : Laying P c places cells₀ cells fore place) where
  -- what is made of the next part is its row
  pub prepared_next : {p : Part} → part_at c.parts place ≡ p → {r : Check} {out : List A}
      → Filled (row_test_from (prepared_of c.settings.reference_diameter fore p) c.settings) (row_from P (prepared_of c.settings.reference_diameter fore p) c.settings) r out
      → Filled (row_test c place) (row_from P (prepared_at c place) c.settings) r out
  unfolding row_test
  prepared_next e f = filled_same (rw (l.before, ← e)) (rw (l.before, ← e)) f

  pub laid_next : (at : ℕ) (row : List A) → at ≡ place * c.settings.count → at + c.settings.count ≤ length cells → length row ≡ c.settings.count
      → {p : Part} → part_at c.parts place ≡ p → place < most_parts → place < length c.parts → {r : Check}
      → Filled (row_test_from (prepared_of c.settings.reference_diameter fore p) c.settings) (row_from P (prepared_of c.settings.reference_diameter fore p) c.settings) r row
      → r ≡ Ok tt → place < places
      → Laying P c places cells₀ (take at cells ++ (row ++ drop (at + c.settings.count - at) (drop at cells))) p.aft_diameter (place + 1)
  unfolding fore_at
  laid_next at row e fits w q few inside f ok h =
      let C = c.settings.count in
      let g = prepared_next q f in
      let t = sym g.verdict ∙ ok in
      let made : row ≡ row_of P c place = g.made t ∙ part_row P c place few inside in
      rw (put_row at C row cells w) record {
        before = rw (add-one place, ← q);
        passed = up_more (row_test c) l.passed t;
        rows = rows_next l.rows (written at row cells) h (written_long at row cells (omega arith)) (let z : 0 + place ≡ place = omega arith in rw (z, ← made, ← e));
      }

-- no part's row depends on the nozzle diameter: so the rows are laid for a coasting sheet, and are those of any
module _ {A : Type 0} (P : Plane A) (c : Contents) {places : ℕ} {cells₀ cells : List A} {fore : Float} {place : ℕ} (l : Laying P (with_nozzle 0·0 c) places cells₀ cells fore place) where
  pub laid_refused : {r : Check} {e : AeroError} {want out : List A} → place < length c.parts → row_test (with_nozzle 0·0 c) place ≡ Err e → r ≡ Err e → Filled (trial c) want r out
  unfolding trial
  laid_refused h f k = filled_refused (sym (same_trial 0·0 c) ∙ up_failed _ _ _ _ l.passed f h) k

  pub all_laid : length c.parts ≡ places → places ≤ place → places ≤ most_parts → Filled (trial c) (rows_written c.settings.count (row_of P c) (from 0 places) cells₀) (Ok tt) cells
  unfolding trial
  all_laid n h few =
      let e : places ≡ place = omega (arith, l.rows.turns) in
      filled_passed (sym (same_trial 0·0 c) ∙ sym (up_end _ (omega (arith, l.rows.turns)) (omega arith) l.passed))
      (l.rows.done
      ∙ ap (λ (k : ℕ). rows_written c.settings.count (row_of P (with_nozzle 0·0 c)) (from 0 k) cells₀) (sym e)
      ∙ rows_from_same c.settings.count _ _ 0 places _ (λ r a b. above_base 0·0 c P r (omega arith)))

-- ---- the rows of the whole body

pub body_below : (F : ℕ) → Below (total_row F 0) (body_rows F)
unfolding body_rows
body_below F = (omega arith, from_below (friction_row 0) F (total_row F 0) (omega arith))

-- a row that is neither of the whole body nor a total is a part's
pub body_outside : (F r : ℕ) → r < total_row F 0 → Unnamed (body_rows F) r → r < most_parts
unfolding body_rows
body_outside F r h u = let k : r ≢ base_row F = u.0 in before_named (friction_row 0) F r u.1 (omega arith)

-- ---- a cell of each row

-- the cells of the rows before this one are put into a column
abbrev pub Putting : {A : Type 0} → A → ℕ → ℕ → ℕ → List A → List A → List A → ℕ → Type 0
Putting d column F count values cells₀ cells row = RowsDone count (λ r. set (row_at count cells₀ r) column (get_or values r d)) 0 (all_rows F) cells₀ cells row

pub put_next : {A : Type 0} (d : A) (column F count : ℕ) (values cells₀ cells : List A) (row at : ℕ) → Putting d column F count values cells₀ cells row → at ≡ row * count → column < count → needed F count ≤ length cells₀ → row < all_rows F
    → Putting d column F count values cells₀ (set cells (at + column) (get_or values row d)) (row + 1)
put_next {A} d column F count values cells₀ cells row at p e h fits l =
    let f : ℕ → List A = λ r. set (row_at count cells₀ r) column (get_or values r d) in
    let N = all_rows F in
    let wide : (r : ℕ) → r < N → length (f r) ≡ count =
    λ r m. let q = room r N count m in length-set (row_at count cells₀ r) column _ ∙ length-take-le count (drop (r * count) cells₀) (simp length-drop (omega arith)) in
    let w = wrote count N f (from 0 row) cells₀ wide fits (from_below 0 row N (omega arith)) in
    let here : row_at count cells row ≡ row_at count cells₀ row = ap (λ xs. row_at count xs row) p.done ∙ w.kept row (after_named 0 row row (omega arith)) in
    let q = room row N count l in
    let z : 0 + row ≡ row = omega arith in
    rows_next p _ l (length-set cells (at + column) _) (rw (e, cell_set row count column (get_or values row d) cells h (omega (arith, p.long)), here, z))

-- ---- a sheet built from nothing

-- rows in which nothing is written yet
zero_row : {A : Type 0} (v : A) (r n C : ℕ) → r < n → row_at C (replicate (n * C) v) r ≡ replicate C v
zero_row v r n C h =
    let l = room r n C h in
    let m = n * C - r * C in
    let q : n * C ≡ r * C + m = omega arith in
    let e : replicate (n * C) v ≡ replicate (r * C) v ++ replicate m v = ap (λ k. replicate k v) q ∙ sym (replicate-append-replicate (r * C) m v) in
    rw (e, drop_at (replicate (r * C) v) (replicate m v) (r * C) (length-replicate (r * C) v)) (take-replicate C m v (omega arith))

pub from_nothing : {A : Type 0} (P : Plane A) (c : Contents) (count : ℕ) (xs ys zs : List A) → length c.parts ≡ count → count ≤ most_parts → xs ≡ replicate (needed c.settings.finishes c.settings.count) P.none
    → ys ≡ rows_written c.settings.count (row_of P c) (from 0 count) xs → zs ≡ totalled P c.settings.finishes c.settings.count (rows_written c.settings.count (row_of P c) (body_rows c.settings.finishes) ys) → zs ≡ build P c
unfolding overwritten
from_nothing P c count xs ys zs n few z e f =
    let C = c.settings.count in
    let F = c.settings.finishes in
    let N = all_rows F in
    let named = body_rows F ++ from 0 count in
    let long : length xs ≡ needed F C = ap length z ∙ length-replicate (needed F C) P.none in
    let fits : needed F C ≤ length xs = omega arith in
    let b = below_append (total_row F 0) (body_rows F) (from 0 count) (body_below F) (from_below 0 count (total_row F 0) (omega arith)) in
    let same : (r : ℕ) → r < total_row F 0 → Unnamed named r → row_at C xs r ≡ row_of P c r =
    λ r l u.
    let v = unnamed_append (body_rows F) (from 0 count) r u in
    let few : r < most_parts = body_outside F r l v.0 in
    let none : count ≤ r = dite (dec_lt r count) (λ h. absurd (omega (arith, before_named 0 count r v.1 (omega arith)))) (λ h. omega arith) in
    rw z (zero_row P.none r N C (omega arith) ∙ no_part P c r few (omega arith)) in
    let ws = overwritten P (rows named) c xs in
    let h : Holds P c ws = rows_hold P c xs fits named b same in
    let k : length ws ≡ length xs = (keeps P c xs fits (rows named) b).long in
    f ∙ rw (e, ← rows_append C (row_of P c) (body_rows F) (from 0 count) xs) (sym (take_all (needed F C) ws (omega arith)) ∙ holds_build P c ws h)
