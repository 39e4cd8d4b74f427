-- The arrays of the settings that a card says have their lengths, whatever the bytes are.
use Rattle.std.specs.Prelude.{IfOk}
use mathlib.Core.Path.{◌≡◌, refl, ap}
use mathlib.Core.Bool.{Bool, true, false, not}
use mathlib.Core.List.{List}
use Prim.Native.Nat.{ℕ, ◌+◌, ◌*◌, ◌≤◌}
use native.Mathlib.Omega.{arith}
use lib.ListN.{length, get_or, length-append, length-replicate}
use lib.Dec.{ltb}
use lib.Ieee.{Float}
use borrow.Author.Tests.{ltb-false}
use Rattle.aero_error.specs.declared.Rule.TheVariants.{FinishCount}
use Rattle.aero_error.specs.Checks.{unless}
use Rattle.sheet_data.specs.declared.Settings.{Settings}
use Rattle.sheet_data.specs.Layout.{most_columns, most_finishes}
use Rattle.sheet_data.specs.Tests.{finishes_wrong}
use Rattle.sheet_data.proofs.Held.{finishes_passed}
use Rattle.cards.specs.Fields.{Read, number_bytes, pair_bytes, bit, has, byte_at, number_at, numbers_at}
use Rattle.cards.specs.Cards.{no_settings, slots, two_roughnesses, columns_at, roughnesses_at, finishes_at, settings_fields, settings_at}
use Rattle.cards.proofs.Numbers.{numbers_long}
use Rattle.cards.proofs.Says.{Says, after_test, after_known, after, after_byte}

abbrev pub Long : Settings → Type 0
Long said = (length said.roughnesses ≡ most_finishes) × (length said.machs ≡ most_columns) × (length said.reynolds ≡ most_columns)

pub no_settings_long : Long no_settings
no_settings_long = (refl, refl, refl)

-- where they are read
abbrev pub LongRead : Read Settings → Type 0
LongRead r = IfOk r (λ said. Long said.0)

slots_long : (most step n : ℕ) (s : List ℕ) (at : ℕ) → n ≤ most → length (slots most n (numbers_at step n s at)) ≡ most
slots_long most step n s at h = simp (length-append, length-replicate) (omega (arith, numbers_long step n s at))

-- the two arrays of the columns
abbrev BothLong : List Float × List Float → ℕ → Type 0
BothLong columns next = (length columns.0 ≡ most_columns) × (length columns.1 ≡ most_columns)

columns_long : (n : ℕ) (s : List ℕ) (at : ℕ) → Says BothLong (columns_at n s at)
unfolding columns_at
columns_long n s at =
    after_test BothLong (ltb most_columns n) _ _ λ e.
    after_test BothLong (not (has s at (pair_bytes * n))) _ _ λ there.
    let h = ltb-false most_columns n e in
    (slots_long most_columns pair_bytes n s at h, slots_long most_columns pair_bytes n s (at + number_bytes) h)

-- what holds of the finishes that are read and of where they end, holds of those of a settings card that is read and of where that ends
abbrev pub OfFinishes : (ℕ × List Float → ℕ → Type 0) → Settings → ℕ → Type 0
OfFinishes Q said next = Q (said.finishes, said.roughnesses) next × (length said.machs ≡ most_columns) × (length said.reynolds ≡ most_columns)

pub settings_say : (Q : ℕ × List Float → ℕ → Type 0) (s : List ℕ) (at : ℕ) → ((roughness : Float) (next : ℕ) → Says Q (finishes_at (bit 4 (get_or s at 0)) roughness s next))
    → Says (OfFinishes Q) (settings_at s at)
unfolding settings_at settings_fields
settings_say Q s at h =
    let P = OfFinishes Q in
    let map = get_or s at 0 in
    after_byte P s at _ (
    after_test P (ltb 31 map) _ _ λ e.
    after_test P (not (bit 0 map)) _ _ λ e.
    after_test P (not (bit 2 map)) _ _ λ e.
    after_test P (two_roughnesses map) _ _ λ e.
    after P (number_at true s (at + 1)) _ λ D second.
    after P (number_at (bit 1 map) s second) _ λ roughness third.
    after P (number_at true s third) _ λ B fourth.
    after P (byte_at (bit 3 map) s fourth) _ λ n fifth.
    after_known P BothLong (columns_at n s fifth) _ (columns_long n s fifth) λ columns sixth long.
    after_known P Q (finishes_at (bit 4 map) roughness s sixth) _ (h roughness sixth) λ finishes last known.
    (known, long.0, long.1))

-- counted finishes are from 1 to 4
pub roughnesses_say : (P : ℕ × List Float → ℕ → Type 0) (n : ℕ) (s : List ℕ) (at : ℕ)
    → ((1 ≤ n) × (n ≤ 4) → P (n, slots most_finishes n (numbers_at number_bytes n s at)) (at + number_bytes * n)) → Says P (roughnesses_at n s at)
unfolding roughnesses_at
roughnesses_say P n s at h =
    after_test P (finishes_wrong n) _ _ λ e.
    after_test P (not (has s at (number_bytes * n))) _ _ λ there.
    h (finishes_passed n (ap (λ (t : Bool). unless t FinishCount) e))

abbrev FinishesLong : ℕ × List Float → ℕ → Type 0
FinishesLong finishes next = length finishes.1 ≡ most_finishes

finishes_long : (present : Bool) (roughness : Float) (s : List ℕ) (at : ℕ) → Says FinishesLong (finishes_at present roughness s at)
unfolding finishes_at
finishes_long false roughness s at = refl
finishes_long true roughness s at =
    after_byte FinishesLong s at _ (roughnesses_say FinishesLong (get_or s at 0) s (at + 1) λ few. slots_long most_finishes number_bytes _ s (at + 1) few.1)

pub settings_long : (s : List ℕ) (at : ℕ) → LongRead (settings_at s at)
settings_long s at = settings_say FinishesLong s at λ roughness next. finishes_long (bit 4 (get_or s at 0)) roughness s next
