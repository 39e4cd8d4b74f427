-- `replay::digits` meets its contract.
use Rattle.std.proofs.Common.{◌≡◌, ℕ, ◌+◌, ◌*◌, ◌^◌, ◌<◌, suc, List, length, drop, get_or, sym, ◌∙◌, add-one, arith, drop-cons, Some}
use native.Mathlib.Nat.{pow-le-pow_right, lt_of_lt_of_le}
use Rattle.std.proofs.lemmas.Bool.Decides.{nat_tests}
use Rattle.replay.specs.Words.{digit_of, digits_of}
use Rattle.replay.proofs.digits.Goals as goal

-- one digit more
grown : (i n d : ℕ) → n < 16 ^ i → d < 16 → n * 16 + d < 16 ^ suc i
grown i n d below digit = omega arith

-- 16 digits are 64 bits
room : (i n d : ℕ) → i < 16 → n < 16 ^ i → d < 16 → n * 16 + d < 2 ^ 64
room i n d h below digit = lt_of_lt_of_le (grown i n d below digit) (pow-le-pow_right (omega arith) h)

small : (byte d : ℕ) → digit_of byte ≡ Some d → d < 16
unfolding digit_of
small byte d h = grind (arith, nat_tests)

-- reading on is one digit, and then reading on
on : (i n d : ℕ) (text : List ℕ) → i < length text → digit_of (get_or text i 0) ≡ Some d
    → digits_of (drop i text) n ≡ digits_of (drop (i + 1) text) (n * 16 + d)
on i n d text h e = rw (add-one, drop-cons text i 0, e, digits_of)

pub overflow_mul-number : goal.overflow_mul-number
overflow_mul-number c = omega (arith, room c.loop-byte.byte-index c.loop-byte.number 0 (omega arith) c.loop-byte.invariant.small (omega arith))

pub overflow_add-number : goal.overflow_add-number
overflow_add-number c = omega (arith, room c.loop-byte.byte-index c.loop-byte.number c.in_ok-number.field-0 (omega arith) c.loop-byte.invariant.small (small _ _ (sym c.in_ok-number.ensures)))

pub loop-byte-preserved : goal.loop-byte-preserved
loop-byte-preserved c =
    let l = c.loop-byte in
    let e = sym c.in_ok-number.ensures in
    record {
      small = rw add-one (grown _ _ _ l.invariant.small (small _ _ e));
      onward = sym (on l.byte-index l.number _ c.args.text.now (omega arith) e) ∙ l.invariant.onward;
    }
