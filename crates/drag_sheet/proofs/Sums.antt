-- Sums from +0 by index.
use mathlib.Core.Path.{◌≡◌, refl, sym, ap, ◌∙◌}
use mathlib.Core.List.{List}
use Prim.Native.Nat.{ℕ, ◌+◌, ◌<◌}
use native.Mathlib.Numerals.{add-one}
use native.Mathlib.Omega.{arith}
use lib.ListN.{length, get_or}
use lib.Ieee.{Float, nan}
use Rattle.elementary.specs.Arithmetic.{◌⊕◌}
use Rattle.elementary.specs.Constants.{0·0}
use Rattle.sheet_data.specs.Tables.{tab, tab_long, tab_at, tab_same}
use Rattle.sheet_data.specs.Rows.{row_at}
use Rattle.drag_sheet.specs.Formulas.{sum_to}
use Rattle.drag_sheet.specs.Planes.{cell_plane}
use Rattle.drag_sheet.specs.Writing.{there}

pub sum_none : (f : ℕ → Float) → sum_to 0 f ≡ 0·0
unfolding sum_to
sum_none f = refl

pub sum_more : (n : ℕ) (f : ℕ → Float) → sum_to (n + 1) f ≡ sum_to n f ⊕ f n
unfolding sum_to
sum_more n f = rw (add-one n)

-- a row added to a row of sums
pub row_added : (C : ℕ) (sum out : List Float) (g x f : ℕ → Float) → sum ≡ tab C g → out ≡ tab (length sum) (λ k. get_or sum k nan ⊕ x k) → ((k : ℕ) → k < C → x k ≡ f k)
    → out ≡ tab C (λ k. g k ⊕ f k)
row_added C sum out g x f s h same =
    let l : length sum ≡ C = ap length s ∙ tab_long C g in
    h ∙ rw l (tab_same C _ _ (λ k m. rw (s, tab_at C g nan k m, same k m)))

-- one term more in each of a row of sums
pub terms_more : (C n : ℕ) (f : ℕ → ℕ → Float) (sum out : List Float) (x : ℕ → Float) → sum ≡ tab C (λ k. sum_to n (f k)) → out ≡ tab (length sum) (λ k. get_or sum k nan ⊕ x k)
    → ((k : ℕ) → k < C → x k ≡ f k n) → out ≡ tab C (λ k. sum_to (n + 1) (f k))
terms_more C n f sum out x s h same = row_added C sum out (λ k. sum_to n (f k)) x (λ k. f k n) s h same ∙ tab_same C _ _ (λ k l. sym (sum_more n (f k)))

-- and four
sum_four : (n : ℕ) (f : ℕ → Float) → sum_to (n + 4) f ≡ sum_to n f ⊕ f n ⊕ f (n + 1) ⊕ f (n + 2) ⊕ f (n + 3)
sum_four n f =
    let p : n + 4 ≡ n + 3 + 1 = omega arith in
    let q : n + 3 ≡ n + 2 + 1 = omega arith in
    let r : n + 2 ≡ n + 1 + 1 = omega arith in
    let two : sum_to (n + 2) f ≡ sum_to n f ⊕ f n ⊕ f (n + 1) = ap (λ (m : ℕ). sum_to m f) r ∙ sum_more (n + 1) f ∙ ap (λ (x : Float). x ⊕ f (n + 1)) (sum_more n f) in
    let three : sum_to (n + 3) f ≡ sum_to n f ⊕ f n ⊕ f (n + 1) ⊕ f (n + 2) = ap (λ (m : ℕ). sum_to m f) q ∙ sum_more (n + 2) f ∙ ap (λ (x : Float). x ⊕ f (n + 2)) two in
    ap (λ (m : ℕ). sum_to m f) p ∙ sum_more (n + 3) f ∙ ap (λ (x : Float). x ⊕ f (n + 3)) three

pub four_terms_more : (C n : ℕ) (f : ℕ → ℕ → Float) (sum out : List Float) (w x y z : ℕ → Float) → sum ≡ tab C (λ k. sum_to n (f k))
    → out ≡ tab (length sum) (λ k. get_or sum k nan ⊕ w k ⊕ x k ⊕ y k ⊕ z k) → ((k : ℕ) → k < C → (w k ≡ f k n) × (x k ≡ f k (n + 1)) × (y k ≡ f k (n + 2)) × (z k ≡ f k (n + 3)))
    → out ≡ tab C (λ k. sum_to (n + 4) (f k))
four_terms_more C n f sum out w x y z s h same =
    let l : length sum ≡ C = ap length s ∙ tab_long C (λ k. sum_to n (f k)) in
    h ∙ rw l (tab_same C _ _ (λ k m.
    let e = same k m in
    rw (s, tab_at C (λ k. sum_to n (f k)) nan k m, e.0, e.1, e.2, e.3) (sym (sum_four n (f k)))))

-- a row that is there added to a sum
pub add_there : (C r : ℕ) (xs row sum out : List Float) (g : ℕ → Float) → row ≡ row_at C xs r → sum ≡ tab C g → out ≡ tab (length sum) (λ k. get_or sum k nan ⊕ get_or row k nan)
    → out ≡ tab C (λ k. g k ⊕ there cell_plane C xs r k)
add_there C r xs row sum out g e s h = row_added C sum out g (λ k. get_or row k nan) (λ k. there cell_plane C xs r k) s h (λ k m. rw e)

-- and one term more of sums of rows that are there
pub there_more : (C n : ℕ) (xs row sum out : List Float) → row ≡ row_at C xs n → sum ≡ tab C (λ k. sum_to n (λ i. there cell_plane C xs i k)) → out ≡ tab (length sum) (λ k. get_or sum k nan ⊕ get_or row k nan)
    → out ≡ tab C (λ k. sum_to (n + 1) (λ i. there cell_plane C xs i k))
there_more C n xs row sum out e s h = terms_more C n (λ k i. there cell_plane C xs i k) sum out (λ k. get_or row k nan) s h (λ k m. rw e)
