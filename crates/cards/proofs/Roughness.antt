-- "A part gets its own roughness, card bit 6 .. absent, it is the settings' one": a part card whose bits end below bit 6 says the settings' roughness, which is
-- no number, and any other says one of its own, the number in the card's last eight bytes.
use Rattle.std.specs.Prelude.{Option, Some, None, Ok}
use mathlib.Core.Path.{◌≡◌, refl, ap, subst}
use mathlib.Core.Bool.{Bool, true, false, not}
use mathlib.Core.List.{List}
use Prim.Native.Nat.{ℕ, ◌+◌, ◌-◌, ◌/◌, ◌%◌, ◌≤◌, ◌<◌}
use native.Mathlib.Omega.{arith}
use lib.ListN.{get_or}
use lib.Dec.{ltb}
use lib.Ieee.{Float}
use borrow.Author.Tests.{ltb-false}
use Rattle.elementary.specs.Arithmetic.{bits}
use Rattle.aero_error.specs.declared.Rule.TheVariants.{CardEnds}
use Rattle.aero_error.specs.Checks.{unless, ◌and_then◌, ◌for_value◌}
use Rattle.sheet_data.specs.declared.Part.{Part}
use Rattle.cards.specs.Fields.{number_bytes, bit, has, eight_bytes, number_at}
use Rattle.cards.specs.Cards.{shape_at, roughness_at, part_fields, part_at}
use Rattle.cards.proofs.Says.{Says, after_test, after_known, after, after_byte}

-- what holds of a roughness that is read and of where it ends, holds of the roughness of a part card that is read and of where that ends
card_says : (P : Option Float → ℕ → Type 0) (s : List ℕ) (at n : ℕ) (part : Part) → part_at s at ≡ Ok (part, n)
    → (get_or s at 0 ≤ 127 → (next : ℕ) → Says P (roughness_at (bit 6 (get_or s at 0)) s next)) → P part.roughness n
unfolding part_at part_fields
card_says P s at n part e h =
    let map = get_or s at 0 in
    subst (Says Own) e (
    after_byte Own s at _ (
    after_test Own (ltb 127 map) _ _ λ t.
    after Own (shape_at map s (at + 1)) _ λ shape a.
    after Own (number_at (bit 2 map) s a) _ λ L b.
    after Own (number_at (bit 3 map) s b) _ λ d c.
    after Own (number_at (bit 4 map) s c) _ λ angle w-at.
    after Own (number_at (bit 5 map) s w-at) _ λ w last.
    after_known Own P (roughness_at (bit 6 map) s last) _ (h (ltb-false 127 map t) last) λ k next known. known))
  where
    Own : Part → ℕ → Type 0
    Own said next = P said.roughness next

pub absent_is_settings : (s : List ℕ) (at n : ℕ) (part : Part) → part_at s at ≡ Ok (part, n) → get_or s at 0 < 64 → part.roughness ≡ None
absent_is_settings s at n part e h =
    let z : get_or s at 0 / 64 % 2 ≡ 0 = omega arith in
    card_says (λ k m. k ≡ None) s at n part e (λ l next. rw z refl)

pub own_is_last : (s : List ℕ) (at n : ℕ) (part : Part) → part_at s at ≡ Ok (part, n) → 64 ≤ get_or s at 0 → part.roughness ≡ Some (bits (eight_bytes s (n - number_bytes)))
own_is_last s at n part e h = card_says Last s at n part e (λ l next. let z : get_or s at 0 / 64 % 2 ≡ 1 = omega arith in rw z (by_test next (has s next number_bytes)))
  where
    Last : Option Float → ℕ → Type 0
    Last k m = k ≡ Some (bits (eight_bytes s (m - number_bytes)))

    by_test : (next : ℕ) (t : Bool) → Says Last ((unless (not t) CardEnds and_then Ok (bits (eight_bytes s next), next + number_bytes)) for_value λ (x, last). Ok (Some x, last))
    by_test next true = let q : next ≡ next + number_bytes - number_bytes = omega arith in ap (λ (m : ℕ). Some (bits (eight_bytes s m))) q
    by_test next false = tt
