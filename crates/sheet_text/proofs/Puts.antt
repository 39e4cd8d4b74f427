-- Texts that are printed one after the other, and how long they are.
use mathlib.Core.Path.{◌≡◌, refl, sym, ap, ◌∙◌}
use mathlib.Core.Bool.{Bool, true, false, cond}
use mathlib.Core.List.{List, [], ◌∷◌, ◌++◌, append_assoc, append-nil}
use Prim.Native.Nat.{ℕ, zero, suc, ◌+◌, ◌-◌, ◌*◌, ◌/◌, ◌%◌, ◌≤◌, ◌<◌}
use native.Mathlib.Nat.{mul-suc}
use native.Mathlib.Omega.{arith}
use lib.ListN.{length, set, take, drop, get_or, length-append}
use lib.Seq.{sets, sets-eq}
use borrow.Rule.Slice.PartMut.{put_mid}
use Rattle.std.proofs.Common.{drop-drop, zero-add, add-one}
use Rattle.std.proofs.lemmas.List.{drop-set, length-take}
use lib.Dec.{ltb, eqb}
use borrow.Author.Tests.{le-ltb}
use lib.Ieee.{Float, to_bits, binary64}
use Rattle.sheet_data.specs.Layout.{most_columns}
use Rattle.sheet_data.specs.Rows.{row_at}
use Rattle.sheet_text.specs.declared.text.Text.{Text}
use Rattle.drag_sheet.specs.Planes.{Lent}
use Rattle.sheet_text.specs.Bytes.{digits, space, plus, line_feed, hex_digit, hex_digits, decimal, Prints}
use Rattle.sheet_text.specs.Text.{number_text_size, marked_text_size, numbered_text, most_text, number_text, mark_text, numbers_text, line_text, numbered_name, row_line, row_lines, printed, Printed, answer_text}

-- two texts, one after the other
pub sets_append : (vs ws xs : List ℕ) (i : ℕ) → sets xs i (vs ++ ws) ≡ sets (sets xs i vs) (i + length vs) ws
sets_append [] ws xs i = let e : i ≡ i + 0 = omega arith in ap (λ (k : ℕ). sets xs k ws) e
sets_append (v ∷ vs) ws xs i =
    let e : suc i + length vs ≡ i + suc (length vs) = omega arith in
    sets_append vs ws (set xs i v) (suc i) ∙ ap (λ (k : ℕ). sets (sets (set xs i v) (suc i) vs) k ws) e

pub prints_then : {a b : List ℕ} {s t u : Text} → Prints a s t → Prints b t u → Prints (a ++ b) s u
prints_then {a} {b} {s} {t} {u} p q =
    record {
      same = q.same ∙ p.same;
      long = q.long ∙ p.long;
      place = let l = length-append a b in omega (arith, p.place, q.place);
      within = q.within;
      bytes = q.bytes ∙ ap (λ (k : ℕ). sets t.out.now k b) p.place ∙ ap (λ (us : List ℕ). sets us (s.len + length a) b) p.bytes ∙ sym (sets_append a b s.out.now s.len);
    }

-- bytes that a part of a slice was made
pub put_there : (at n : ℕ) (bs xs ys : List ℕ) → ys ≡ bs → n ≡ length bs → at + n ≤ length xs → put_mid at (at + n - at) xs ys ≡ sets xs at bs
put_there at n bs xs ys e l h =
    let k : at + n - at ≡ length bs = omega arith in
    let m : at + length bs ≤ length xs = omega arith in
    rw (e, k, drop-drop (length bs) at xs, sets-eq bs xs at m) (sym (append_assoc (take at xs) bs (drop (at + length bs) xs)))

pub prints_none : (s : Text) → s.len ≤ length s.out.now → Prints [] s s
prints_none s h = record { same = refl; long = refl; place = omega arith; within = h; bytes = refl }

-- ---- lengths

pub hex_long : (n x : ℕ) → length (hex_digits n x) ≡ n
unfolding hex_digits
hex_long zero x = refl
hex_long (suc n) x = length-append (hex_digits n (x / 16)) (hex_digit (x % 16) ∷ []) ∙ ap (λ (k : ℕ). k + 1) (hex_long n (x / 16)) ∙ add-one n

pub number_long : (x : Float) → length (number_text x) ≡ number_text_size
unfolding number_text
number_long x = ap suc (hex_long digits (to_bits binary64 x))

pub mark_long : (m : ℕ) → length (mark_text m) ≤ 1
mark_long m = by_test (eqb m 0)
  where
    by_test : (t : Bool) → length (cond t [] (plus ∷ [])) ≤ 1
    by_test true = omega arith
    by_test false = omega arith

pub numbers_long : (xs : List Float) (ms : List ℕ) → length (numbers_text xs ms) ≤ marked_text_size * length xs
unfolding numbers_text
numbers_long [] ms = omega arith
numbers_long (x ∷ xs) [] = omega (arith, length-append (number_text x) (numbers_text xs []), number_long x, numbers_long xs [])
numbers_long (x ∷ xs) (m ∷ ms) =
    omega (arith, length-append (number_text x) (mark_text m ++ numbers_text xs ms), length-append (mark_text m) (numbers_text xs ms), number_long x, mark_long m, numbers_long xs ms)

pub line_long : (name : List ℕ) (xs : List Float) (ms : List ℕ) → length (line_text name xs ms) ≤ length name + marked_text_size * length xs + 1
unfolding line_text
line_long name xs ms =
    let a = length-append name (numbers_text xs ms ++ (line_feed ∷ [])) in
    let b = length-append (numbers_text xs ms) (line_feed ∷ []) in
    let c = numbers_long xs ms in
    omega (arith, a, b, c)

pub decimal_long : (n : ℕ) → length (decimal n) ≤ 2
unfolding decimal
decimal_long n = by_test (ltb n 10)
  where
    by_test : (t : Bool) → length (cond t ((48 + n) ∷ []) ((48 + n / 10) ∷ (48 + n % 10) ∷ [])) ≤ 2
    by_test true = omega arith
    by_test false = omega arith

-- a row's name and its line, numbered or not
name_long : (word : List ℕ) (numbered : Bool) (j : ℕ) → length (numbered_name word numbered j) ≤ length word + 3
name_long word true j = omega (arith, length-append word (space ∷ decimal j), decimal_long j)
name_long word false j = omega arith

pub row_long : (word : List ℕ) (numbered : Bool) (j : ℕ) (row : List Float) (ms : List ℕ) → length row ≤ most_columns → length (line_text (numbered_name word numbered j) row ms) ≤ numbered_text word
row_long word numbered j row ms h = omega (arith, line_long (numbered_name word numbered j) row ms, name_long word numbered j)

-- ---- loops

-- a loop from the last digit to the first: with n digits still to come it has those after them
pub hex_step : (n x : ℕ) (out : List ℕ) → 0 < n → n ≤ length out → hex_digits n x ++ drop n out ≡ hex_digits (n - 1) (x / 16) ++ drop (n - 1) (set out (n - 1) (hex_digit (x % 16)))
unfolding hex_digits
hex_step zero x out h l = absurd (omega arith)
hex_step (suc n) x out h l =
    let e : suc n - 1 ≡ n = omega arith in
    let i : n < length out = omega arith in
    rw (e, drop-set out n (hex_digit (x % 16)) i, add-one n)
    (append_assoc (hex_digits n (x / 16)) (hex_digit (x % 16) ∷ []) (drop (suc n) out))

pub hex_end : (n x : ℕ) (out : List ℕ) → n ≡ 0 → hex_digits n x ++ drop n out ≡ out
unfolding hex_digits
hex_end n x out e = rw e

-- a loop over numbers: one number more, with its mark
numbers_suc : (row : List Float) (ms : List ℕ) (i : ℕ) (d : Float) → i < length row → numbers_text (take (suc i) row) ms ≡ numbers_text (take i row) ms ++ (number_text (get_or row i d) ++ mark_text (get_or ms i 0))
unfolding numbers_text
numbers_suc [] ms i d h = absurd (omega arith)
numbers_suc (x ∷ xs) [] zero d h = refl
numbers_suc (x ∷ xs) (m ∷ ms) zero d h = ap (λ (t : List ℕ). number_text x ++ t) (append-nil (mark_text m))
numbers_suc (x ∷ xs) [] (suc i) d h =
    ap (λ (t : List ℕ). number_text x ++ t) (numbers_suc xs [] i d (omega arith))
    ∙ sym (append_assoc (number_text x) (numbers_text (take i xs) []) (number_text (get_or xs i d) ++ mark_text (get_or [] i 0)))
numbers_suc (x ∷ xs) (m ∷ ms) (suc i) d h =
    let next = number_text (get_or xs i d) ++ mark_text (get_or ms i 0) in
    ap (λ (t : List ℕ). number_text x ++ (mark_text m ++ t)) (numbers_suc xs ms i d (omega arith))
    ∙ ap (λ (t : List ℕ). number_text x ++ t) (sym (append_assoc (mark_text m) (numbers_text (take i xs) ms) next))
    ∙ sym (append_assoc (number_text x) (mark_text m ++ numbers_text (take i xs) ms) next)

pub numbers_more : (row : List Float) (ms : List ℕ) (i : ℕ) (d : Float) → i < length row → numbers_text (take (i + 1) row) ms ≡ numbers_text (take i row) ms ++ (number_text (get_or row i d) ++ mark_text (get_or ms i 0))
numbers_more row ms i d h = rw (add-one i) (numbers_suc row ms i d h)

-- one row's line more
module _ (word : List ℕ) (numbered : Bool) (first C : ℕ) (cells : Lent) where
  abbrev line : ℕ → List ℕ
  line j = row_line word numbered first j C cells

  abbrev lines : ℕ → ℕ → List ℕ
  lines n j = row_lines word numbered first n j C cells

  lines_suc : (n j : ℕ) → lines (suc n) j ≡ lines n j ++ line (j + n)
  unfolding row_lines
  lines_suc zero j = let e : j ≡ j + 0 = omega arith in append-nil _ ∙ ap line e
  lines_suc (suc n) j =
      let e : j + 1 + n ≡ j + suc n = omega arith in
      ap (λ (t : List ℕ). line j ++ t) (lines_suc n (j + 1) ∙ ap (λ (k : ℕ). lines n (j + 1) ++ line k) e) ∙ sym (append_assoc (line j) (lines n (j + 1)) (line (j + suc n)))

  pub lines_more : (n : ℕ) → row_lines word numbered first (n + 1) 0 C cells ≡ row_lines word numbered first n 0 C cells ++ row_line word numbered first n C cells
  lines_more n = ap (λ (k : ℕ). lines k 0) (add-one n) ∙ lines_suc n 0 ∙ ap (λ (k : ℕ). lines n 0 ++ line k) (zero-add n)

  pub lines_long : (n j : ℕ) → C ≤ most_columns → length (row_lines word numbered first n j C cells) ≤ numbered_text word * n
  unfolding row_lines
  lines_long zero j h = omega arith
  lines_long (suc n) j h =
      let a = length-append (line j) (lines n (j + 1)) in
      let b : length (row_at C cells.cells (first + j)) ≤ most_columns = omega (arith, length-take C (drop ((first + j) * C) cells.cells)) in
      let c = lines_long n (j + 1) h in
      omega (arith, a, b, row_long, c, mul-suc (numbered_text word) n)

-- ---- a whole text

-- a text at the start of a buffer that holds it
pub printed_long : {s text ys : List ℕ} {old new : Text} → Prints text old new → most_text ≤ length old.out.now → old.len ≡ 0 → text ≡ answer_text s → ys ≡ new.out.now → Printed s old.out.now new.len ys
printed_long {s} {text} {ys} {old} {new} p h o e y =
    let xs = old.out.now in
    let f : printed s (length xs) ≡ text = rw (le-ltb (length xs) most_text h) (sym e) in
    let l : ys ≡ text ++ drop (length text) xs = y ∙ p.bytes ∙ ap (λ (k : ℕ). sets xs k text) o ∙ sets-eq text xs 0 (omega (arith, p.place, p.within, p.long)) ∙ ap (λ (n : ℕ). text ++ drop n xs) (zero-add (length text)) in
    record {
      count = p.place ∙ ap (λ (k : ℕ). k + length text) o ∙ zero-add (length text) ∙ ap length (sym f);
      bytes = l ∙ ap (λ (t : List ℕ). t ++ drop (length t) xs) (sym f);
      within = rw y p.within;
    }
