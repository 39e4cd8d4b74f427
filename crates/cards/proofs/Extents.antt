-- How far the readers of a card go, in one walk: what a reader accepts ends so many bytes on, and the bytes past the most that it can take don't matter to it.
-- What it accepts it accepts without the bytes past that end too, and with fewer it is refused with 4. A reader is followed by the next one, and the numbers of
-- bytes add up.
use Rattle.std.specs.Prelude.{Some, Ok, Err}
use mathlib.Core.Path.{◌≡◌, refl, sym, ap, ◌∙◌}
use mathlib.Core.Bool.{Bool, true, false, cond, not, ◌&&◌, false≢true}
use mathlib.Core.List.{List}
use Prim.Native.Nat.{ℕ, zero, suc, ◌+◌, ◌-◌, ◌*◌, ◌≤◌, ◌<◌, min}
use native.Mathlib.Nat.{mul-suc}
use native.Mathlib.Omega.{arith}
use lib.ListN.{length, get_or, take, length-take}
use lib.Seq.{get_or-take}
use lib.Dec.{leb, ltb}
use lib.Ieee.{Float}
use borrow.Author.Tests.{leb-true, leb-false, le-leb, lt-leb, ltb-true, ltb-false}
use Rattle.elementary.specs.Arithmetic.{bits}
use Rattle.elementary.specs.Constants.{0·0}
use Rattle.aero_error.specs.declared.AeroError.TheVariants.{Broken}
use Rattle.aero_error.specs.declared.Rule.{Rule}
use Rattle.aero_error.specs.declared.Rule.TheVariants.{CardEnds, FinishCount}
use Rattle.aero_error.specs.Checks.{unless, ◌and_then◌, ◌for_value◌}
use Rattle.shapes.specs.Numbers.{shape_of}
use Rattle.sheet_data.specs.Layout.{most_columns, most_finishes}
use Rattle.sheet_data.specs.Tests.{finishes_wrong}
use Rattle.sheet_data.proofs.Held.{finishes_passed}
use Rattle.cards.specs.Fields.{Read, number_bytes, pair_bytes, bit, has, four_bytes, eight_bytes, byte_at, number_at, numbers_at}
use Rattle.cards.specs.Cards.{parameter_right, parameter_at, shape_at, roughness_at, part_fields, part_at, columns_at, roughnesses_at, finishes_at, two_roughnesses, settings_fields, settings_at, settings_bytes, part_bytes}

-- what a reader answers ends at n
abbrev pub Ends : {A : Type 0} → Read A → ℕ → Type 0
Ends (Ok said) n = said.1 ≡ n
Ends (Err e) n = ⊥

-- refusal 4
abbrev pub short : {A : Type 0} → Read A
short = Err (Broken CardEnds)

-- a reader that takes from `least` to `most` bytes. An answer that ends at n is the same in the first N bytes, or is refused with 4 where n lies past them
pub record Extent {A : Type 0} (least most : ℕ) (f : List ℕ → ℕ → Read A) : Type 0 where
  pub reach : (s : List ℕ) (at n : ℕ) → Ends (f s at) n → (at + least ≤ n) × (n ≤ at + most)
  pub same : (s : List ℕ) (N at : ℕ) → at + most ≤ N → f s at ≡ f (take N s) at
  pub kept : (s : List ℕ) (N at n : ℕ) → Ends (f s at) n → n ≤ N → f s at ≡ f (take N s) at
  pub cut : (s : List ℕ) (N at n : ℕ) → Ends (f s at) n → at ≤ N → N < n → f (take N s) at ≡ short

-- ---- one reader after the other

-- what follows an answer: a reader from where it ends, or nothing
record Goes {A B : Type 0} (least most : ℕ) (r : Read A) (h : List ℕ → Read B) : Type 0 where
  reach : (s : List ℕ) (n : ℕ) → Ends (h s) n → (m : ℕ) × Ends r m × (m + least ≤ n) × (n ≤ m + most)
  same : (s : List ℕ) (N : ℕ) → ((m : ℕ) → Ends r m → m + most ≤ N) → h s ≡ h (take N s)
  kept : (s : List ℕ) (N n : ℕ) → Ends (h s) n → n ≤ N → h s ≡ h (take N s)
  cut : (s : List ℕ) (N n m : ℕ) → Ends (h s) n → Ends r m → m ≤ N → N < n → h (take N s) ≡ short

module _ {A B : Type 0} {least most : ℕ} where
  goes : (r : Read A) (g : List ℕ → A × ℕ → Read B) → ((x : A) → Extent least most (λ s at. g s (x, at))) → Goes least most r (λ s. r for_value g s)
  goes (Ok (x, m)) g G = record {
    reach = λ s n e. (m, refl, ((G x).reach s m n e).0, ((G x).reach s m n e).1);
    same = λ s N h. (G x).same s N m (h m refl);
    kept = λ s N n e h. (G x).kept s N m n e h;
    cut = λ s N n p e i h k. (G x).cut s N m n e (omega (arith, i)) k;
  }
  goes (Err e) g G = record { reach = λ s n i. absurd i; same = λ s N h. refl; kept = λ s N n i h. refl; cut = λ s N n m i j h k. absurd i }

  -- bytes that end inside the first reader are refused as it refuses them
  followed : {j k : ℕ} {f : List ℕ → ℕ → Read A} (g : List ℕ → A × ℕ → Read B) → Extent j k f → ((x : A) → Extent least most (λ s at. g s (x, at)))
      → Extent (j + least) (k + most) (λ s at. f s at for_value g s)
  followed {f = f} g F G = record {
    reach = λ s at n e. let w = (goes (f s at) g G).reach s n e in let i = F.reach s at w.0 w.1 in omega (arith, i, w.2, w.3);
    same = λ s N at h. (goes (f s at) g G).same s N (λ m i. let r = F.reach s at m i in omega (arith, r)) ∙ ap (λ (a : Read A). a for_value g (take N s)) (F.same s N at (omega arith));
    kept = λ s N at n e h. let w = (goes (f s at) g G).reach s n e in (goes (f s at) g G).kept s N n e h ∙ ap (λ (a : Read A). a for_value g (take N s)) (F.kept s N at w.0 w.1 (omega (arith, w.2)));
    cut = λ s N at n e h i. let w = (goes (f s at) g G).reach s n e in by_test s N at n w.0 e w.1 h i (ltb N w.0) refl;
  }
    where
      by_test : (s : List ℕ) (N at n m : ℕ) → Ends (f s at for_value g s) n → Ends (f s at) m → at ≤ N → N < n → (t : Bool) → ltb N m ≡ t → (f (take N s) at for_value g (take N s)) ≡ short
      by_test s N at n m e i h l true q = ap (λ (a : Read A). a for_value g (take N s)) (F.cut s N at m i h (ltb-true N m q))
      by_test s N at n m e i h l false q = let z = ltb-false N m q in ap (λ (a : Read A). a for_value g (take N s)) (sym (F.kept s N at m i z)) ∙ (goes (f s at) g G).cut s N n m e i z l

-- a test that refuses first
refused_if : {B : Type 0} {least most : ℕ} (t : Bool) (rule : Rule) {f : List ℕ → ℕ → Read B} → (t ≡ false → Extent least most f) → Extent least most (λ s at. unless t rule and_then f s at)
refused_if true rule F = record { reach = λ s at n i. absurd i; same = λ s N at h. refl; kept = λ s N at n i h. refl; cut = λ s N at n i h k. absurd i }
refused_if false rule F = F refl

-- ---- bytes and numbers, in a stream s and in its first N bytes

module _ (s : List ℕ) (N : ℕ) where
  same_has : (at n : ℕ) → at + n ≤ N → has s at n ≡ has (take N s) at n
  same_has at n h = by_test (leb (at + n) (length s)) refl
    where
      l : length (take N s) ≡ min N (length s)
      l = length-take N s

      by_test : (t : Bool) → leb (at + n) (length s) ≡ t → t ≡ leb (at + n) (length (take N s))
      by_test true e = let k = leb-true (at + n) (length s) e in sym (le-leb (at + n) (length (take N s)) (omega (arith, l)))
      by_test false e = let k = leb-false (at + n) (length s) e in sym (lt-leb (at + n) (length (take N s)) (omega (arith, l)))

  cut_has : (at n : ℕ) → N < at + n → has (take N s) at n ≡ false
  cut_has at n h = let l = length-take N s in lt-leb (at + n) (length (take N s)) (omega (arith, l))

  same_get : (at : ℕ) → at < N → get_or s at 0 ≡ get_or (take N s) at 0
  same_get at h = sym (get_or-take N s at 0 h)

  same_four : (at : ℕ) → at + 4 ≤ N → four_bytes s at ≡ four_bytes (take N s) at
  same_four at h =
      let a = same_get at (omega arith) in
      let b = same_get (at + 1) (omega arith) in
      let c = same_get (at + 2) (omega arith) in
      let d = same_get (at + 3) (omega arith) in
      cc

  same_eight : (at : ℕ) → at + number_bytes ≤ N → eight_bytes s at ≡ eight_bytes (take N s) at
  unfolding eight_bytes
  same_eight at h =
      let a = same_four at (omega arith) in
      let b = same_four (at + 4) (omega arith) in
      cc

  same_numbers : (step n at : ℕ) → at + step * n + number_bytes ≤ N + step → numbers_at step n s at ≡ numbers_at step n (take N s) at
  unfolding numbers_at
  same_numbers step zero at h = refl
  same_numbers step (suc n) at h =
      let a = same_eight at (omega (arith, mul-suc step n)) in
      let b = same_numbers step n (at + step) (omega (arith, mul-suc step n)) in
      cc

-- ---- the readers

-- an answer that is there, where its k bytes are
there : {A : Type 0} (k : ℕ) (found : List ℕ → ℕ → A) → ((s : List ℕ) (N at : ℕ) → at + k ≤ N → found s at ≡ found (take N s) at)
    → Extent k k (λ s at. unless (not (has s at k)) CardEnds and_then Ok (found s at, at + k))
there {A} k found i = record {
  reach = λ s at. by_test s at (has s at k);
  same = unmoved;
  kept = λ s N at n j l. let q = by_test s at (has s at k) n j in unmoved s N at (omega (arith, q));
  cut = λ s N at n j l m. let q = by_test s at (has s at k) n j in rw (cut_has s N at k (omega (arith, q)));
}
  where
    by_test : (s : List ℕ) (at : ℕ) (t : Bool) (n : ℕ) → Ends (unless (not t) CardEnds and_then Ok (found s at, at + k)) n → (at + k ≤ n) × (n ≤ at + k)
    by_test s at true n j = omega (arith, j)
    by_test s at false n j = absurd j

    unmoved : (s : List ℕ) (N at : ℕ) → at + k ≤ N
        → ◌≡◌ {A = Read A} (unless (not (has s at k)) CardEnds and_then Ok (found s at, at + k)) (unless (not (has (take N s) at k)) CardEnds and_then Ok (found (take N s) at, at + k))
    unmoved s N at l = rw (same_has s N at k l, i s N at l)

-- a field that may be absent
absent : {A : Type 0} (k : ℕ) (x : A) → Extent 0 k (λ s at. Ok (x, at))
absent k x = record {
  reach = λ s at n j. omega (arith, j);
  same = λ s N at l. refl;
  kept = λ s N at n j l. refl;
  cut = λ s N at n j l m. absurd (omega (arith, j));
}

-- fewer bytes at least, more at most
wider : {A : Type 0} {least most fewer more : ℕ} {f : List ℕ → ℕ → Read A} → fewer ≤ least → most ≤ more → Extent least most f → Extent fewer more f
wider l m F = record {
  reach = λ s at n e. let r = F.reach s at n e in omega (arith, r);
  same = λ s N at h. F.same s N at (omega arith);
  kept = F.kept;
  cut = F.cut;
}

map_extent : Extent 1 1 (byte_at true)
map_extent = there 1 (λ s at. get_or s at 0) (λ s N at h. same_get s N at (omega arith))

byte_extent : (present : Bool) → Extent 0 1 (byte_at present)
byte_extent false = absent 1 0
byte_extent true = wider (omega arith) (omega arith) map_extent

-- the bytes of a field, none where it is absent
abbrev if_there : Bool → ℕ → ℕ
if_there present k = cond present k 0

number_there : (present : Bool) → Extent 0 (if_there present number_bytes) (number_at present)
number_there false = absent 0 0·0
number_there true = wider (omega arith) (omega arith) (there number_bytes (λ s at. bits (eight_bytes s at)) (λ s N at h. ap bits (same_eight s N at h)))

number_extent : (present : Bool) → Extent 0 number_bytes (number_at present)
number_extent false = absent number_bytes 0·0
number_extent true = number_there true

-- ---- part cards

parameter_extent : (present : Bool) (n : ℕ) → Extent 0 number_bytes (parameter_at present n)
unfolding parameter_at
parameter_extent present n =
    refused_if (not (parameter_right present n)) _ λ e.
    followed _ (number_extent present) λ x.
    absent 0 (shape_of n x)

shape_extent : (map : ℕ) → Extent 0 (1 + number_bytes) (shape_at map)
unfolding shape_at
shape_extent map =
    followed _ (byte_extent (bit 0 map)) λ n.
    refused_if (ltb 5 n) _ λ e.
    parameter_extent (bit 1 map) n

roughness_extent : (present : Bool) → Extent 0 number_bytes (roughness_at present)
roughness_extent false = absent number_bytes _
roughness_extent true = followed _ (number_extent true) λ x. absent 0 (Some x)

fields_extent : (map : ℕ) → Extent 0 (1 + 6 * number_bytes) (part_fields map)
unfolding part_fields
fields_extent map =
    refused_if (ltb 127 map) _ λ e.
    followed _ (shape_extent map) λ shape.
    followed _ (number_extent (bit 2 map)) λ L.
    followed _ (number_extent (bit 3 map)) λ d.
    followed _ (number_extent (bit 4 map)) λ angle.
    followed _ (number_extent (bit 5 map)) λ w.
    followed _ (roughness_extent (bit 6 map)) λ k.
    absent 0 _

pub part_extent : Extent 1 part_bytes part_at
unfolding part_at
part_extent = followed _ map_extent fields_extent

-- ---- settings cards

columns_extent : (n : ℕ) → Extent 0 (most_columns * pair_bytes) (columns_at n)
unfolding columns_at
columns_extent n =
    refused_if (ltb most_columns n) _ λ e.
    let few = ltb-false most_columns n e in
    wider (omega arith) (omega arith) (there (pair_bytes * n) _ (λ s N at h. rw (same_numbers s N pair_bytes n at (omega arith), same_numbers s N pair_bytes n (at + number_bytes) (omega arith))))

roughnesses_extent : (n : ℕ) → Extent 0 (most_finishes * number_bytes) (roughnesses_at n)
unfolding roughnesses_at
roughnesses_extent n =
    refused_if (finishes_wrong n) _ λ e.
    let few = finishes_passed n (ap (λ (t : Bool). unless t FinishCount) e) in
    wider (omega arith) (omega (arith, few)) (there (number_bytes * n) _ (λ s N at h. rw (same_numbers s N number_bytes n at (omega arith))))

abbrev finishes_bytes : ℕ
finishes_bytes = 1 + most_finishes * number_bytes

finishes_extent : (present : Bool) (roughness : Float) → Extent 0 (if_there present finishes_bytes) (finishes_at present roughness)
unfolding finishes_at
finishes_extent false roughness = absent 0 _
finishes_extent true roughness = followed _ (byte_extent true) roughnesses_extent

-- bits 1 and 4 don't stand together
longest : (roughness finishes : Bool) → (roughness && finishes) ≡ false
    → number_bytes + (if_there roughness number_bytes + (number_bytes + (1 + (most_columns * pair_bytes + (if_there finishes finishes_bytes + 0))))) ≤ settings_bytes - 1
longest true true e = absurd (false≢true (sym e))
longest true false e = omega arith
longest false true e = omega arith
longest false false e = omega arith

settings_fields_extent : (map : ℕ) → Extent 0 (settings_bytes - 1) (settings_fields map)
unfolding settings_fields
settings_fields_extent map =
    refused_if (ltb 31 map) _ λ e.
    refused_if (not (bit 0 map)) _ λ e.
    refused_if (not (bit 2 map)) _ λ e.
    refused_if (two_roughnesses map) _ λ e.
    wider (omega arith) (longest (bit 1 map) (bit 4 map) e) (
    followed _ (number_there true) λ D.
    followed _ (number_there (bit 1 map)) λ roughness.
    followed _ (number_there true) λ B.
    followed _ (byte_extent (bit 3 map)) λ n.
    followed _ (columns_extent n) λ columns.
    followed _ (finishes_extent (bit 4 map) roughness) λ finishes.
    absent 0 _)

pub settings_extent : Extent 1 settings_bytes settings_at
unfolding settings_at
settings_extent = followed _ map_extent settings_fields_extent
