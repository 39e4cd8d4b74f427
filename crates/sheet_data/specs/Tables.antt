-- Lists by index: f 0, f 1, .., and what a loop that fills one cell after the other has filled.
use Rattle.std.specs.Prelude.{◌≡◌, ◌≢◌, length, get_or, take, set, replicate}
use Rattle.std.proofs.Math.Path.{refl, ap}
use Rattle.std.proofs.Common.{sym, ◌∙◌, le_of_suc-le-suc, not-suc-le-zero, arith, length-set, ext_get_or, get_or-set_same, get_or-set_other, get_or-take, length-take-le}
use Rattle.std.proofs.Math.Logic.{dite}
use mathlib.Core.List.{List, [], ◌∷◌}
use Prim.Native.Nat.{ℕ, zero, suc, ◌+◌, ◌≤◌, ◌<◌}
use Rattle.std.proofs.Math.Decide.{ℕ_discrete}

module _ {A : Type 0} where
  -- f 0, f 1, .., n of them
  unfoldable pub tab : ℕ → (ℕ → A) → List A
  tab zero f = []
  tab (suc n) f = f zero ∷ tab n (λ i. f (suc i))

  pub tab_long : (n : ℕ) (f : ℕ → A) → length (tab n f) ≡ n
  unfolding tab
  tab_long zero f = refl
  tab_long (suc n) f = ap suc (tab_long n (λ i. f (suc i)))

  pub tab_at : (n : ℕ) (f : ℕ → A) (d : A) (i : ℕ) → i < n → get_or (tab n f) i d ≡ f i
  unfolding tab
  tab_at zero f d i h = absurd (not-suc-le-zero h)
  tab_at (suc n) f d zero h = refl
  tab_at (suc n) f d (suc i) h = tab_at n (λ j. f (suc j)) d i (le_of_suc-le-suc h)

  pub tab_same : (n : ℕ) (f g : ℕ → A) → ((i : ℕ) → i < n → f i ≡ g i) → tab n f ≡ tab n g
  unfolding tab
  tab_same zero f g h = refl
  tab_same (suc n) f g h = rw (h 0 (omega arith), tab_same n (λ i. f (suc i)) (λ i. g (suc i)) (λ i l. h (suc i) (omega arith)))

  -- a list is the table of its elements
  pub tab_of : (d : A) (n : ℕ) (f : ℕ → A) (xs : List A) → length xs ≡ n → ((i : ℕ) → i < n → get_or xs i d ≡ f i) → xs ≡ tab n f
  tab_of d n f xs l h = ext_get_or d xs (tab n f) (l ∙ sym (tab_long n f)) (λ i k. h i (omega arith) ∙ sym (tab_at n f d i (omega arith)))

  pub tab_constant : (n : ℕ) (v : A) → replicate n v ≡ tab n (λ i. v)
  unfolding tab
  tab_constant zero v = refl
  tab_constant (suc n) v = ap (λ (l : List A). v ∷ l) (tab_constant n v)

  -- the first n elements
  pub tab_taken : (d : A) (n : ℕ) (xs : List A) → n ≤ length xs → take n xs ≡ tab n (λ i. get_or xs i d)
  tab_taken d n xs h = tab_of d n (λ i. get_or xs i d) (take n xs) (length-take-le n xs h) (λ i l. get_or-take n xs i d l)

  -- one element put anew, where the others are the same
  pub tab_set : (d : A) (n : ℕ) (f g : ℕ → A) (k : ℕ) (v : A) → v ≡ g k → ((i : ℕ) → i < n → i ≢ k → f i ≡ g i) → set (tab n f) k v ≡ tab n g
  tab_set d n f g k v e h =
      tab_of d n g (set (tab n f) k v) (length-set (tab n f) k v ∙ tab_long n f)
      (λ i l. dite (ℕ_discrete i k) (λ q. rw (← q) (get_or-set_same (tab n f) i v d (omega (arith, tab_long n f)) ∙ e ∙ ap g (sym q))) (λ q. get_or-set_other (tab n f) k i v d q ∙ tab_at n f d i l ∙ h i l q))

  -- ---- a loop that has filled the first i cells

  pub record Filling (f : ℕ → A) (out₀ out : List A) (i : ℕ) : Type 0 where
    pub long : length out ≡ length out₀
    pub inside : i ≤ length out₀
    pub done : (d : A) (k : ℕ) → k < i → get_or out k d ≡ f k
    pub left : (d : A) (k : ℕ) → i ≤ k → get_or out k d ≡ get_or out₀ k d

  pub fill_none : (f : ℕ → A) (out : List A) → Filling f out out 0
  fill_none f out = record { long = refl; inside = omega arith; done = λ d k h. absurd (not-suc-le-zero h); left = λ d k h. refl }

  pub fill_more : (f : ℕ → A) {out₀ out : List A} {i : ℕ} (v : A) → Filling f out₀ out i → i < length out₀ → v ≡ f i → Filling f out₀ (set out i v) (i + 1)
  fill_more f {out₀} {out} {i} v F h e = record {
    long = length-set out i v ∙ F.long;
    inside = omega arith;
    done = λ d k l. dite (ℕ_discrete k i) (λ q. rw q (get_or-set_same out i v d (omega (arith, F.long)) ∙ e)) (λ q. get_or-set_other out i k v d q ∙ F.done d k (omega arith));
    left = λ d k l. get_or-set_other out i k v d (λ q. omega arith) ∙ F.left d k (omega arith);
  }

  pub fill_end : (d : A) (f : ℕ → A) {out₀ out : List A} {i : ℕ} → Filling f out₀ out i → length out₀ ≤ i → out ≡ tab (length out₀) f
  fill_end d f {out₀} {out} F h = tab_of d (length out₀) f out F.long (λ k l. F.done d k (omega arith))
