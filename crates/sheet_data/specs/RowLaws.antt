-- What a row written into cells leaves, for any kind of cell: that row is the new one, every other row and what lies past the rows stay. So rows can be written
-- in any order (`Wrote`), and cells whose rows are those of a table are that table (`laid_rows`).
use Rattle.std.specs.Prelude.{◌≡◌, ◌≢◌, set}
use Rattle.std.proofs.Math.Path.{refl, sym, ap}
use Rattle.std.proofs.Common.{◌∙◌, add-mul, one-mul, zero-mul, mul-le-mul_right, le_trans, le_of_eq, add-one, arith, length-set, take-append-drop, take_at, drop_at, drop-drop, take-take, drop-set-lt}
use Rattle.std.proofs.Math.Logic.{dite}
use mathlib.Core.List.{List, [], ◌∷◌, ◌++◌, append_assoc}
use Prim.Native.Nat.{ℕ, zero, suc, ◌+◌, ◌-◌, ◌*◌, ◌≤◌, ◌<◌}
use Rattle.std.proofs.Math.Nat.{suc-mul}
use Rattle.std.proofs.Math.Decide.{ℕ_discrete, dec_lt}
use Rattle.std.proofs.Math.ListN.{length, take, drop, length-append, length-drop}
use Rattle.std.proofs.Math.Seq.{length-take-le, drop-append-add, take-append-add, take-set-lt}
use Rattle.std.proofs.lemmas.List.{take-append-le, take-set-le, drop-set-add}
use Rattle.sheet_data.specs.Rows.{from, Unnamed, Below, row_at, written, rows_written, laid}

-- ---- places

pub one_more : (r C : ℕ) → (r + 1) * C ≡ r * C + C
one_more r C = add-mul r 1 C ∙ ap (λ (k : ℕ). r * C + k) (one-mul C)

-- room for a row among n
pub room : (r n C : ℕ) → r < n → r * C + C ≤ n * C
room r n C h = le_trans (le_of_eq (sym (one_more r C))) (mul-le-mul_right C (omega arith))

-- a row below the end of those from `at` on, and none of them
pub before_named : (at n r : ℕ) → Unnamed (from at n) r → r < at + n → r < at
before_named at zero r u h = omega arith
before_named at (suc n) r u h = dite (ℕ_discrete r (at + n)) (λ e. absurd (u.0 e)) (λ e. before_named at n r u.1 (omega arith))

pub from_below : (at n m : ℕ) → at + n ≤ m → Below m (from at n)
from_below at zero m h = tt
from_below at (suc n) m h = (omega arith, from_below at n m (omega arith))

pub after_named : (at n r : ℕ) → at + n ≤ r → Unnamed (from at n) r
after_named at zero r h = tt
after_named at (suc n) r h = ((λ e. omega arith), after_named at n r (omega arith))

pub before_all : (at n r : ℕ) → r < at → Unnamed (from at n) r
before_all at zero r h = tt
before_all at (suc n) r h = ((λ e. omega arith), before_all at n r h)

pub below_more : (n m : ℕ) (ns : List ℕ) → n ≤ m → Below n ns → Below m ns
below_more n m [] h b = tt
below_more n m (r ∷ ns) h b = (omega (arith, b.0), below_more n m ns h b.1)

pub unnamed_append : (ns ms : List ℕ) (r : ℕ) → Unnamed (ns ++ ms) r → Unnamed ns r × Unnamed ms r
unnamed_append [] ms r u = (tt, u)
unnamed_append (n ∷ ns) ms r u = let i = unnamed_append ns ms r u.1 in ((u.0, i.0), i.1)

pub below_append : (n : ℕ) (ns ms : List ℕ) → Below n ns → Below n ms → Below n (ns ++ ms)
below_append n [] ms a b = b
below_append n (r ∷ ns) ms a b = (a.0, below_append n ns ms a.1 b)

module _ {A : Type 0} where
  -- ---- one row written

  -- the part of a slice from `at` on that a function was lent, and that part put back
  pub middle_long : (at C : ℕ) (xs : List A) → at + C ≤ length xs → length (take (at + C - at) (drop at xs)) ≡ C
  middle_long at C xs h = let e : at + C - at ≡ C = omega arith in rw e (length-take-le C (drop at xs) (simp length-drop (omega arith)))

  pub put_row : (at C : ℕ) (row xs : List A) → length row ≡ C → take at xs ++ (row ++ drop (at + C - at) (drop at xs)) ≡ written at row xs
  put_row at C row xs h = let e : at + C - at ≡ length row = omega arith in rw e

  pub part_of_front : (n at m : ℕ) (xs : List A) → at + n ≤ m → take n (drop at (take m xs)) ≡ take n (drop at xs)
  part_of_front n zero m xs h = take-take n m xs (omega arith)
  part_of_front n (suc at) zero xs h = absurd (omega arith)
  part_of_front n (suc at) (suc m) [] h = refl
  part_of_front n (suc at) (suc m) (x ∷ xs) h = part_of_front n at m xs (omega arith)

  pub written_long : (at : ℕ) (row xs : List A) → at + length row ≤ length xs → length (written at row xs) ≡ length xs
  written_long at row xs h = simp (length-append, length-drop) (omega (arith, length-take-le at xs (omega arith)))

  module _ (at : ℕ) (row xs : List A) (start : at ≤ length xs) where
    front_long : length (take at xs) ≡ at
    front_long = length-take-le at xs start

    pub written_before : (n : ℕ) → n ≤ at → take n (written at row xs) ≡ take n xs
    written_before n h =
        take-append-le n (take at xs) (row ++ drop (length row) (drop at xs)) (rw front_long h)
        ∙ take-take n at xs h

    pub written_past : (n : ℕ) → at + length row ≤ n → drop n (written at row xs) ≡ drop n xs
    written_past n h =
        let k = n - (at + length row) in
        let long : length (take at xs ++ row) ≡ at + length row = length-append (take at xs) row ∙ ap (λ (m : ℕ). m + length row) front_long in
        let here : n ≡ at + length row + k = omega arith in
        let there : length (take at xs ++ row) + k ≡ n = omega arith in
        ap (drop n) (sym (append_assoc (take at xs) row (drop (length row) (drop at xs))))
        ∙ ap (λ (m : ℕ). drop m (take at xs ++ row ++ drop (length row) (drop at xs))) (sym there)
        ∙ drop-append-add (take at xs ++ row) (drop (length row) (drop at xs)) k
        ∙ ap (drop k) (drop-drop (length row) at xs)
        ∙ drop-drop k (at + length row) xs
        ∙ ap (λ (m : ℕ). drop m xs) (sym here)

    pub written_here : (n : ℕ) → length row ≡ n → take n (drop at (written at row xs)) ≡ row
    written_here n e = rw (drop_at (take at xs) (row ++ drop (length row) (drop at xs)) at front_long) (take_at row (drop (length row) (drop at xs)) n e)

  -- ---- rows

  pub row_kept : (r q C : ℕ) (row xs : List A) → r ≢ q → length row ≡ C → q * C ≤ length xs → row_at C (written (q * C) row xs) r ≡ row_at C xs r
  row_kept r q C row xs other long start =
      dite (dec_lt r q)
      (λ h.
      sym (part_of_front C (r * C) (q * C) (written (q * C) row xs) (room r q C h))
      ∙ ap (λ (l : List A). take C (drop (r * C) l)) (written_before (q * C) row xs start (q * C) (omega arith))
      ∙ part_of_front C (r * C) (q * C) xs (room r q C h))
      (λ h.
      let k : q < r = omega arith in
      let l = room q r C k in
      ap (take C) (written_past (q * C) row xs start (r * C) (omega arith)))

  -- what rows written one after the other leave
  pub record Wrote (C n : ℕ) (f : ℕ → List A) (named : List ℕ) (xs ys : List A) : Type 0 where
    pub long : length ys ≡ length xs
    pub past : drop (n * C) ys ≡ drop (n * C) xs
    -- a row that isn't named stays
    pub kept : (r : ℕ) → Unnamed named r → row_at C ys r ≡ row_at C xs r
    -- a row is the new one: it is named, or it was so already
    pub reads : (r : ℕ) → (Unnamed named r → row_at C xs r ≡ f r) → row_at C ys r ≡ f r

  pub wrote : (C n : ℕ) (f : ℕ → List A) (named : List ℕ) (xs : List A) → ((r : ℕ) → r < n → length (f r) ≡ C) → n * C ≤ length xs → Below n named → Wrote C n f named xs (rows_written C f named xs)
  unfolding rows_written
  wrote C n f [] xs wide fits b = record { long = refl; past = refl; kept = λ r u. refl; reads = λ r h. h tt }
  wrote C n f (q ∷ qs) xs wide fits b =
      let w = wrote C n f qs xs wide fits b.1 in
      let ys = rows_written C f qs xs in
      let row = f q in
      let l = room q n C b.0 in
      let long = wide q b.0 in
      let start : q * C ≤ length ys = omega (arith, w.long) in
      record {
        long = written_long (q * C) row ys (omega (arith, w.long)) ∙ w.long;
        past = written_past (q * C) row ys start (n * C) (omega arith) ∙ w.past;
        kept = λ r u. row_kept r q C row ys u.0 long start ∙ w.kept r u.1;
        reads = λ r h. dite (ℕ_discrete r q)
            (λ e. rw e (written_here (q * C) row ys start C long))
            (λ e. row_kept r q C row ys e long start ∙ w.reads r (λ u. h (e, u)));
      }

  pub rows_append : (C : ℕ) (f : ℕ → List A) (ms ns : List ℕ) (xs : List A) → rows_written C f (ms ++ ns) xs ≡ rows_written C f ms (rows_written C f ns xs)
  unfolding rows_written
  rows_append C f [] ns xs = refl
  rows_append C f (m ∷ ms) ns xs = ap (written (m * C) (f m)) (rows_append C f ms ns xs)

  pub rows_same : (C : ℕ) (f g : ℕ → List A) (named : List ℕ) (n : ℕ) (xs : List A) → Below n named → ((r : ℕ) → r < n → f r ≡ g r) → rows_written C f named xs ≡ rows_written C g named xs
  unfolding rows_written
  rows_same C f g [] n xs b h = refl
  rows_same C f g (r ∷ rs) n xs b h = rw (h r b.0, rows_same C f g rs n xs b.1 h)

  -- rows from `at` on that are alike
  pub rows_from_same : (C : ℕ) (f g : ℕ → List A) (at n : ℕ) (xs : List A) → ((r : ℕ) → at ≤ r → r < at + n → f r ≡ g r) → rows_written C f (from at n) xs ≡ rows_written C g (from at n) xs
  unfolding rows_written
  rows_from_same C f g at zero xs h = refl
  rows_from_same C f g at (suc n) xs h = rw (h (at + n) (omega arith) (omega arith), rows_from_same C f g at n xs (λ r a b. h r a (omega arith)))

  -- one row more of those from `at` on, as a loop writes them
  pub rows_more : (C : ℕ) (f : ℕ → List A) (at j : ℕ) (xs : List A) → rows_written C f (from at (j + 1)) xs ≡ written ((at + j) * C) (f (at + j)) (rows_written C f (from at j) xs)
  unfolding rows_written
  rows_more C f at j xs = rw (add-one j)

  -- a loop that has written j of n rows, from row `at` on
  pub record RowsDone (C : ℕ) (f : ℕ → List A) (at n : ℕ) (xs₀ xs : List A) (j : ℕ) : Type 0 where
    pub turns : j ≤ n
    pub long : length xs ≡ length xs₀
    pub done : xs ≡ rows_written C f (from at j) xs₀

  pub rows_none : (C : ℕ) (f : ℕ → List A) (at n : ℕ) (xs : List A) → RowsDone C f at n xs xs 0
  unfolding rows_written
  rows_none C f at n xs = record { turns = omega arith; long = refl; done = refl }

  module _ {C : ℕ} {f : ℕ → List A} {at n : ℕ} {xs₀ xs : List A} {j : ℕ} (d : RowsDone C f at n xs₀ xs j) where
    pub rows_next : (ys : List A) → j < n → length ys ≡ length xs → ys ≡ written ((at + j) * C) (f (at + j)) xs → RowsDone C f at n xs₀ ys (j + 1)
    rows_next ys h l e = record { turns = omega arith; long = l ∙ d.long; done = e ∙ sym (rows_more C f at j xs₀ ∙ rw (← d.done)) }

    pub rows_end : n ≤ j → xs ≡ rows_written C f (from at n) xs₀
    rows_end h = let e : n ≡ j = omega (arith, d.turns) in rw e d.done

  -- a cell set is its row written anew
  pub cell_set : (r C k : ℕ) (v : A) (xs : List A) → k < C → r * C + C ≤ length xs → set xs (r * C + k) v ≡ written (r * C) (set (row_at C xs r) k v) xs
  cell_set r C k v xs h fits =
      let at = r * C in
      let l : length (set (row_at C xs r) k v) ≡ C = length-set (row_at C xs r) k v ∙ length-take-le C (drop at xs) (simp length-drop (omega arith)) in
      sym (take-append-drop at (set xs (at + k) v))
      ∙ rw (take-set-le at xs (at + k) v (omega arith), drop-set-add at xs k v, l)
      (ap (λ (ys : List A). take at xs ++ ys) (sym (take-append-drop C (set (drop at xs) k v)) ∙ rw (take-set-lt C (drop at xs) k v h, drop-set-lt C (drop at xs) k v h)))

  -- ---- rows laid one after the other

  pub laid_long : (n C : ℕ) (f : ℕ → List A) → ((r : ℕ) → length (f r) ≡ C) → length (laid n f) ≡ n * C
  unfolding laid
  laid_long zero C f wide = sym (zero-mul C)
  laid_long (suc n) C f wide = length-append (f 0) (laid n (λ r. f (suc r))) ∙ (omega (arith, wide 0, laid_long n C (λ r. f (suc r)) (λ r. wide (suc r)), suc-mul n C))

  -- cells whose rows are these
  pub laid_rows : (n C : ℕ) (f : ℕ → List A) (xs : List A) → n * C ≤ length xs → ((r : ℕ) → r < n → row_at C xs r ≡ f r) → take (n * C) xs ≡ laid n f
  unfolding laid
  laid_rows zero C f xs fits h = rw (zero-mul C)
  laid_rows (suc n) C f xs fits h =
      let m : suc n * C ≡ C + n * C = omega (arith, suc-mul n C) in
      let first : take C xs ≡ f 0 = rw (zero-mul C) at (h 0 (omega arith)) in
      let more : take (n * C) (drop C xs) ≡ laid n (λ r. f (suc r)) =
      laid_rows n C (λ r. f (suc r)) (drop C xs) (rw length-drop (omega arith))
      (λ r l. let e : C + r * C ≡ suc r * C = omega (arith, suc-mul r C) in rw (drop-drop (r * C) C xs, e) (h (suc r) (omega arith))) in
      let l : length (take C xs) ≡ C = length-take-le C xs (omega arith) in
      let cut : take (suc n * C) xs ≡ take C xs ++ take (n * C) (drop C xs) =
      ap (take (suc n * C)) (sym (take-append-drop C xs))
      ∙ ap (λ (k : ℕ). take k (take C xs ++ drop C xs)) (m ∙ ap (λ (k : ℕ). k + n * C) (sym l))
      ∙ take-append-add (take C xs) (drop C xs) (n * C) in
      cut ∙ rw (first, more)

  laid_row : (n C : ℕ) (f : ℕ → List A) → ((r : ℕ) → length (f r) ≡ C) → (r : ℕ) → r < n → row_at C (laid n f) r ≡ f r
  unfolding laid
  laid_row zero C f wide r h = absurd (omega arith)
  laid_row (suc n) C f wide zero h = rw (zero-mul C) (take_at (f 0) (laid n (λ r. f (suc r))) C (wide 0))
  laid_row (suc n) C f wide (suc r) h =
      let m : suc r * C ≡ length (f 0) + r * C = omega (arith, suc-mul r C, wide 0) in
      rw (m, drop-append-add (f 0) (laid n (λ r. f (suc r))) (r * C)) (laid_row n C (λ r. f (suc r)) (λ r. wide (suc r)) r (omega arith))

  -- the rows of cells that were laid so
  pub rows_laid : (n C : ℕ) (f : ℕ → List A) (xs : List A) → ((r : ℕ) → length (f r) ≡ C) → take (n * C) xs ≡ laid n f → (r : ℕ) → r < n → row_at C xs r ≡ f r
  rows_laid n C f xs wide e r h = sym (part_of_front C (r * C) (n * C) xs (room r n C h)) ∙ ap (λ (l : List A). row_at C l r) e ∙ laid_row n C f wide r h

  -- all first n rows written anew are those rows laid, over whatever stood there
  pub all_written : (n C : ℕ) (f : ℕ → List A) (xs : List A) → ((r : ℕ) → length (f r) ≡ C) → n * C ≤ length xs → rows_written C f (from 0 n) xs ≡ written 0 (laid n f) xs
  all_written n C f xs wide fits =
      let w = wrote C n f (from 0 n) xs (λ r h. wide r) fits (from_below 0 n n (omega arith)) in
      let ys = rows_written C f (from 0 n) xs in
      let front : take (n * C) ys ≡ laid n f = laid_rows n C f ys (omega (arith, w.long)) (λ r h. w.reads r (λ u. absurd (omega (arith, before_named 0 n r u (omega arith))))) in
      sym (take-append-drop (n * C) ys) ∙ rw (front, w.past, laid_long n C f wide)
