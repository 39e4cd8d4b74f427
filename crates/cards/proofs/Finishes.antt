-- The finishes of a settings card. A card without bit 4 is read as before there were finishes (`without_bit_4`). "with bit 1 standing too it is refusal 6, tested
-- with the missing bits" (`both_bits`), a bit above 4 is refusal 5 (`reserved`). "Settings card bit 4 brings a count byte and that many floats": the card's last
-- bytes, from 1 to 4 floats (`counted`); without it there is one finish (`uncounted`).
use Rattle.std.specs.Prelude.{Ok, Err}
use mathlib.Core.Path.{◌≡◌, refl, ap, subst}
use mathlib.Core.Bool.{Bool, true, false, not, ◌&&◌}
use mathlib.Core.List.{List, [], ◌∷◌}
use Prim.Native.Nat.{ℕ, ◌+◌, ◌-◌, ◌*◌, ◌/◌, ◌%◌, ◌≤◌, ◌<◌}
use native.Mathlib.Omega.{arith}
use lib.ListN.{length, get_or}
use lib.Dec.{ltb}
use lib.Ieee.{Float}
use borrow.Author.Tests.{le-leb, lt-ltb, le-ltb, ltb-true, ltb-false, eqb-false}
use Rattle.elementary.specs.Constants.{0·0}
use Rattle.aero_error.specs.declared.AeroError.TheVariants.{Broken}
use Rattle.aero_error.specs.declared.Rule.{Rule}
use Rattle.aero_error.specs.declared.Rule.TheVariants.{CardEnds, ReservedBit, FieldMissing, TooManyColumns}
use Rattle.aero_error.specs.Checks.{unless, ◌and_then◌, ◌for_value◌}
use Rattle.sheet_data.specs.declared.Settings.{Settings}
use Rattle.sheet_data.specs.Layout.{most_finishes}
use Rattle.cards.specs.Fields.{Read, number_bytes, bit, has, byte_at, number_at, numbers_at}
use Rattle.cards.specs.Cards.{slots, columns_at, roughnesses_at, finishes_at, settings_fields, settings_at}
use Rattle.cards.proofs.Says.{Says, after_byte}
use Rattle.cards.proofs.Arrays.{OfFinishes, settings_say, roughnesses_say}

-- ---- without bit 4

-- a settings card whose bit map is read, without finishes: bit "0 D, 1 roughness, 2 B, 3 a count byte and that many pairs M, R .. Other bits are 0"
abbrev pub one_finish_fields : ℕ → List ℕ → ℕ → Read Settings
one_finish_fields map s at =
    unless (ltb 15 map) ReservedBit and_then
    unless (not (bit 0 map)) FieldMissing and_then
    unless (not (bit 2 map)) FieldMissing and_then
    number_at true s at for_value λ (D, roughness-at).
    number_at (bit 1 map) s roughness-at for_value λ (roughness, B-at).
    number_at true s B-at for_value λ (B, n-at).
    byte_at (bit 3 map) s n-at for_value λ (n, pairs-at).
    unless (ltb 32 n) TooManyColumns and_then
    unless (not (has s pairs-at (16 * n))) CardEnds and_then
    Ok (
      record {
        reference_diameter = D;
        finishes = 1;
        roughnesses = roughness ∷ 0·0 ∷ 0·0 ∷ 0·0 ∷ [];
        body_fineness = B;
        count = n;
        machs = slots 32 n (numbers_at 16 n s pairs-at);
        reynolds = slots 32 n (numbers_at 16 n s (pairs-at + 8));
      },
      pairs-at + 16 * n,
    )

abbrev pub one_finish_at : List ℕ → ℕ → Read Settings
one_finish_at s at = byte_at true s at for_value λ (map, next). one_finish_fields map s next

same_after : {A B : Type 0} (r : Read A) (g h : A × ℕ → Read B) → ((x : A) (next : ℕ) → g (x, next) ≡ h (x, next)) → (r for_value g) ≡ (r for_value h)
same_after (Ok said) g h e = e said.0 said.1
same_after (Err refusal) g h e = refl

-- what follows a reader of two tests follows its tests
tests_before : {A B : Type 0} (t u : Bool) (rule last : Rule) (x : A × ℕ) (g : A × ℕ → Read B)
    → ((unless t rule and_then unless u last and_then Ok x) for_value g) ≡ (unless t rule and_then unless u last and_then g x)
tests_before true u rule last x g = refl
tests_before false true rule last x g = refl
tests_before false false rule last x g = refl

never_both : (t : Bool) → (t && false) ≡ false
never_both true = refl
never_both false = refl

fields_same : (map : ℕ) (s : List ℕ) (at : ℕ) → bit 4 map ≡ false → settings_fields map s at ≡ one_finish_fields map s at
unfolding settings_fields columns_at finishes_at
fields_same map s at absent = by_test (ltb 31 map) refl
  where
    by_test : (t : Bool) → ltb 31 map ≡ t → settings_fields map s at ≡ one_finish_fields map s at
    by_test true e = let l = ltb-true 31 map e in rw (e, lt-ltb 15 map (omega arith)) refl
    by_test false e =
        let l = ltb-false 31 map e in
        rw (e, le-ltb 15 map (omega (arith, eqb-false (map / 16 % 2) 1 absent)), absent, never_both (bit 1 map)) (
        ap (λ (r : Read Settings). unless (not (bit 0 map)) FieldMissing and_then unless (not (bit 2 map)) FieldMissing and_then r) (
        same_after (number_at true s at) _ _ λ D a.
        same_after (number_at (bit 1 map) s a) _ _ λ roughness b.
        same_after (number_at true s b) _ _ λ B c.
        same_after (byte_at (bit 3 map) s c) _ _ λ n d.
        tests_before (ltb 32 n) (not (has s d (16 * n))) TooManyColumns CardEnds _ _))

pub without_bit_4 : (s : List ℕ) (at : ℕ) → bit 4 (get_or s at 0) ≡ false → settings_at s at ≡ one_finish_at s at
unfolding settings_at
without_bit_4 s at absent = by_test (has s at 1)
  where
    by_test : (t : Bool)
        → let first : Read ℕ = unless (not t) CardEnds and_then Ok (get_or s at 0, at + 1) in (first for_value λ (map, next). settings_fields map s next) ≡ (first for_value λ (map, next). one_finish_fields map s next)
    by_test true = fields_same (get_or s at 0) s (at + 1) absent
    by_test false = refl

-- ---- bits 1 and 4 together, bits above 4

module _ (s : List ℕ) (at : ℕ) (there : at < length s) where
  pub reserved : 31 < get_or s at 0 → settings_at s at ≡ Err (Broken ReservedBit)
  unfolding settings_at settings_fields
  reserved h = rw (le-leb (at + 1) (length s) (omega arith), lt-ltb 31 (get_or s at 0) h)

  -- whether D and B stand or not
  pub both_bits : get_or s at 0 ≤ 31 → bit 1 (get_or s at 0) ≡ true → bit 4 (get_or s at 0) ≡ true → settings_at s at ≡ Err (Broken FieldMissing)
  unfolding settings_at settings_fields
  both_bits h one four = rw (le-leb (at + 1) (length s) (omega arith), le-ltb 31 (get_or s at 0) h, one, four) (by_test (bit 0 (get_or s at 0)) (bit 2 (get_or s at 0)))
    where
      by_test : (D B : Bool) → ◌≡◌ {A = Read Settings} (unless (not D) FieldMissing and_then unless (not B) FieldMissing and_then Err (Broken FieldMissing)) (Err (Broken FieldMissing))
      by_test true true = refl
      by_test true false = refl
      by_test false B = refl

-- ---- what bit 4 brings

-- n roughnesses end at `end`, with their count byte before them
abbrev pub Counted : List ℕ → ℕ × List Float → ℕ → Type 0
Counted s (n, roughnesses) end = (1 ≤ n) × (n ≤ 4) × (get_or s (end - 8 * n - 1) 0 ≡ n) × (roughnesses ≡ slots most_finishes n (numbers_at number_bytes n s (end - 8 * n)))

module _ (s : List ℕ) (at end : ℕ) (said : Settings) (read : settings_at s at ≡ Ok (said, end)) where
  pub counted : bit 4 (get_or s at 0) ≡ true → Counted s (said.finishes, said.roughnesses) end
  unfolding finishes_at
  counted h = (subst (Says (OfFinishes (Counted s))) read (settings_say (Counted s) s at λ roughness next. rw h (by_byte next))).0
    where
      by_byte : (next : ℕ) → Says (Counted s) (byte_at true s next for_value λ (n, next). roughnesses_at n s next)
      by_byte next =
          let n = get_or s next 0 in
          let a : next ≡ next + 1 + 8 * n - 8 * n - 1 = omega arith in
          let b : next + 1 ≡ next + 1 + 8 * n - 8 * n = omega arith in
          after_byte (Counted s) s next _ (roughnesses_say (Counted s) n s (next + 1) λ few. (few.0, few.1, rw (← a) refl, rw (← b) refl))

  pub uncounted : bit 4 (get_or s at 0) ≡ false → said.finishes ≡ 1
  unfolding finishes_at
  uncounted h = (subst (Says (OfFinishes Alone)) read (settings_say Alone s at λ roughness next. rw h refl)).0
    where
      Alone : ℕ × List Float → ℕ → Type 0
      Alone finishes next = finishes.0 ≡ 1
