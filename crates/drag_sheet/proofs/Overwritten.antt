-- What is written over a lent plane, for every scope. Cells hold a build where each row is the build's; rows written over cells whose other rows are those of the
-- contents as they are left, a column over cells that held all other columns, or all rows, leave cells that hold the build of the contents. No other cell is written.
use mathlib.Core.Path.{◌≡◌, sym, ap, ◌∙◌}
use mathlib.Core.Logic.{dite, ◌≢◌}
use mathlib.Core.List.{List}
use Prim.Native.Nat.{ℕ, ◌-◌, ◌*◌, ◌≤◌, ◌<◌}
use native.Mathlib.Decide.{dec_lt}
use native.Mathlib.Omega.{arith}
use lib.ListN.{length, get_or, take, drop, set, length-set, length-drop}
use lib.Seq.{take_at, drop_at, length-take-le}
use Rattle.sheet_data.specs.Layout.{friction_row, base_row, total_row, all_rows, needed}
use Rattle.sheet_data.specs.Contents.{Contents, mach_at, reynolds_at}
use Rattle.sheet_data.specs.Tables.{tab, tab_long, tab_at, tab_same, tab_set}
use Rattle.sheet_data.specs.Rows.{from, Unnamed, Below, row_at, written, rows_written}
use Rattle.sheet_data.specs.RowLaws.{room, before_named, before_all, below_more, from_below, written_long, Wrote, wrote, laid_long, laid_rows, rows_laid}
use Rattle.drag_sheet.specs.Planes.{Plane}
use Rattle.drag_sheet.specs.Build.{part_cell, kind_cell, cell_at, row_of, build}
use Rattle.drag_sheet.specs.Writing.{Scope, rows, column, whole, there, total_there, totalled, overwritten}
use Rattle.drag_sheet.proofs.RowKinds.{kind_part, kind_friction, kind_base, kind_total, row_wide}

-- the cells hold a build of the contents, and whatever follows it
pub record Holds {A : Type 0} (P : Plane A) (c : Contents) (xs : List A) : Type 0 where
  pub room : needed c.settings.finishes c.settings.count ≤ length xs
  pub rows : (r : ℕ) → r < all_rows c.settings.finishes → row_at c.settings.count xs r ≡ row_of P c r

pub holds_build : {A : Type 0} (P : Plane A) (c : Contents) (xs : List A) → Holds P c xs → take (needed c.settings.finishes c.settings.count) xs ≡ build P c
unfolding build
holds_build P c xs h = laid_rows (all_rows c.settings.finishes) c.settings.count (row_of P c) xs h.room h.rows

-- as many cells, and those past the rows as they were
pub record Keeps {A : Type 0} (F C : ℕ) (xs ys : List A) : Type 0 where
  pub long : length ys ≡ length xs
  pub past : drop (needed F C) ys ≡ drop (needed F C) xs

-- what a scope may name
abbrev pub Inside : Scope → ℕ → ℕ → Type 0
Inside (rows named) F C = Below (total_row F 0) named
Inside (column k) F C = k < C
Inside whole F C = Unit {0}

module _ {A : Type 0} (P : Plane A) (c : Contents) (xs : List A) (fits : needed c.settings.finishes c.settings.count ≤ length xs) where
  abbrev C : ℕ
  C = c.settings.count

  abbrev N : ℕ
  N = all_rows c.settings.finishes

  -- ---- some rows, and then the totals

  module _ (named : List ℕ) (below : Below (total_row c.settings.finishes 0) named) where
    -- the cells with these rows written, before the totals
    abbrev body : List A
    body = rows_written c.settings.count (row_of P c) named xs

    first : Wrote c.settings.count (all_rows c.settings.finishes) (row_of P c) named xs body
    first = wrote C N (row_of P c) named xs (λ r h. row_wide P c r) fits (below_more (total_row c.settings.finishes 0) N named (omega arith) below)

    abbrev totals : ℕ → List A
    totals r = total_there P c.settings.finishes c.settings.count body (r - total_row c.settings.finishes 0)

    second : Wrote c.settings.count (all_rows c.settings.finishes) totals (from (total_row c.settings.finishes 0) c.settings.finishes) body (rows_written c.settings.count totals (from (total_row c.settings.finishes 0) c.settings.finishes) body)
    second = wrote C N totals (from (total_row c.settings.finishes 0) c.settings.finishes) body (λ r h. tab_long C _) (omega (arith, first.long)) (from_below (total_row c.settings.finishes 0) c.settings.finishes N (omega arith))

    rows_keep : Keeps c.settings.finishes c.settings.count xs (overwritten P (rows named) c xs)
    unfolding overwritten totalled
    rows_keep = record { long = second.long ∙ first.long; past = second.past ∙ first.past }

    -- a row that is neither named nor a total stays
    pub other_rows : (r : ℕ) → r < total_row c.settings.finishes 0 → Unnamed named r → row_at c.settings.count (overwritten P (rows named) c xs) r ≡ row_at c.settings.count xs r
    unfolding overwritten totalled
    other_rows r h u = second.kept r (before_all (total_row c.settings.finishes 0) c.settings.finishes r h) ∙ first.kept r u

    -- totals of the cells that are there, where these are the build's
    total_there_lem : ((r : ℕ) → r < total_row c.settings.finishes 0 → row_at c.settings.count body r ≡ row_of P c r) → (r : ℕ) → total_row c.settings.finishes 0 ≤ r → r < all_rows c.settings.finishes → totals r ≡ row_of P c r
    unfolding kind_cell
    total_there_lem read r i h =
        let j = r - total_row c.settings.finishes 0 in
        let cell : (q k : ℕ) → q < total_row c.settings.finishes 0 → k < C → there P C body q k ≡ cell_at P c q k = λ q k u l. rw (read q u) (tab_at C (cell_at P c q) P.past k l) in
        tab_same C _ (cell_at P c r) (λ k l.
        let M = mach_at c.settings k in
        let R = reynolds_at c.settings k in
        let a = P.total_same (λ q. there P C body q k) (λ q. part_cell P c q M) _ _ (λ q u. cell q k (omega arith) l ∙ ap (λ z. kind_cell P c z M R) (kind_part c.settings.finishes q u)) in
        let b = cell (friction_row j) k (omega arith) l ∙ ap (λ z. kind_cell P c z M R) (kind_friction c.settings.finishes j (omega arith)) in
        let d = cell (base_row c.settings.finishes) k (omega arith) l ∙ ap (λ z. kind_cell P c z M R) (kind_base c.settings.finishes) in
        a ∙ rw (b, d) (sym (ap (λ z. kind_cell P c z M R) (kind_total c.settings.finishes r i))))

    pub rows_hold : ((r : ℕ) → r < total_row c.settings.finishes 0 → Unnamed named r → row_at c.settings.count xs r ≡ row_of P c r) → Holds P c (overwritten P (rows named) c xs)
    unfolding overwritten totalled
    rows_hold same =
        let read : (r : ℕ) → r < total_row c.settings.finishes 0 → row_at C body r ≡ row_of P c r = λ r h. first.reads r (same r h) in
        record {
          room = omega (arith, first.long, second.long);
          rows = λ r h. dite (dec_lt r (total_row c.settings.finishes 0))
              (λ l. second.kept r (before_all (total_row c.settings.finishes 0) c.settings.finishes r l) ∙ read r l)
              (λ l. second.reads r (λ u. absurd (l (before_named (total_row c.settings.finishes 0) c.settings.finishes r u (omega arith)))) ∙ total_there_lem read r (omega arith) h);
        }

  -- ---- a column

  module _ (k : ℕ) where
    abbrev put : ℕ → List A
    put r = set (row_at c.settings.count xs r) k (get_or (tab (all_rows c.settings.finishes) (λ q. cell_at P c q k)) r P.past)

    column_wrote : Wrote c.settings.count (all_rows c.settings.finishes) put (from 0 (all_rows c.settings.finishes)) xs (rows_written c.settings.count put (from 0 (all_rows c.settings.finishes)) xs)
    column_wrote =
        wrote C N put (from 0 N) xs
        (λ r h. let l = room r N C h in length-set (row_at C xs r) k _ ∙ length-take-le C (drop (r * C) xs) (simp length-drop (omega arith)))
        fits (from_below 0 N N (omega arith))

    column_keeps : Keeps c.settings.finishes c.settings.count xs (overwritten P (column k) c xs)
    unfolding overwritten
    column_keeps = record { long = column_wrote.long; past = column_wrote.past }

    -- each row has that column's cell put anew, and its others as they were
    pub column_reads : (r : ℕ) → r < all_rows c.settings.finishes → row_at c.settings.count (overwritten P (column k) c xs) r ≡ put r
    unfolding overwritten
    column_reads r l = column_wrote.reads r (λ u. absurd (omega (arith, before_named 0 N r u (omega arith))))

    pub column_holds : (old : Contents) → old.settings.finishes ≡ c.settings.finishes → old.settings.count ≡ c.settings.count → Holds P old xs → ((r i : ℕ) → i ≢ k → cell_at P old r i ≡ cell_at P c r i) → Holds P c (overwritten P (column k) c xs)
    unfolding overwritten
    column_holds old f e h same = record {
      room = omega (arith, column_wrote.long);
      rows = λ r l.
          column_reads r l
          ∙ ap (λ row. set row k (get_or (tab N (λ q. cell_at P c q k)) r P.past)) (ap (λ n. row_at n xs r) (sym e) ∙ h.rows r (rw f l) ∙ ap (λ n. tab n (cell_at P old r)) e)
          ∙ tab_set P.past C (cell_at P old r) (cell_at P c r) k _ (tab_at N (λ q. cell_at P c q k) P.past r l) (λ i m q. same r i q);
    }

  -- ---- all rows

  build_long : length (build P c) ≡ needed c.settings.finishes c.settings.count
  unfolding build
  build_long = laid_long N C (row_of P c) (row_wide P c)

  whole_keeps : Keeps c.settings.finishes c.settings.count xs (overwritten P whole c xs)
  unfolding overwritten
  whole_keeps = record {
    long = written_long 0 (build P c) xs (omega (arith, build_long));
    past = drop_at (build P c) (drop (length (build P c)) xs) (needed c.settings.finishes C) build_long ∙ ap (λ n. drop n xs) build_long;
  }

  pub whole_holds : Holds P c (overwritten P whole c xs)
  unfolding overwritten build
  whole_holds = record {
    room = omega (arith, whole_keeps.long);
    rows = rows_laid N C (row_of P c) (written 0 (build P c) xs) (row_wide P c) (take_at (build P c) (drop (length (build P c)) xs) (needed c.settings.finishes C) build_long);
  }

  -- every scope keeps what lies past the rows
  pub keeps : (scope : Scope) → Inside scope c.settings.finishes c.settings.count → Keeps c.settings.finishes c.settings.count xs (overwritten P scope c xs)
  keeps (rows named) b = rows_keep named b
  keeps (column k) b = column_keeps k
  keeps whole b = whole_keeps
