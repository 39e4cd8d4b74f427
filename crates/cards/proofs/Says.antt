-- What holds of what a card says and of where it ends, carried through the tests and the fields before it.
use Rattle.std.specs.Prelude.{Ok, Err, IfOk}
use mathlib.Core.Path.{◌≡◌, refl}
use mathlib.Core.Bool.{Bool, true, false, not}
use mathlib.Core.List.{List}
use Prim.Native.Nat.{ℕ, ◌+◌}
use lib.ListN.{get_or}
use Rattle.aero_error.specs.declared.Rule.{Rule}
use Rattle.aero_error.specs.declared.Rule.TheVariants.{CardEnds}
use Rattle.aero_error.specs.Checks.{unless, ◌and_then◌, ◌for_value◌}
use Rattle.cards.specs.Fields.{Read, has, byte_at}

module _ {B : Type 0} (P : B → ℕ → Type 0) where
  abbrev pub Says : Read B → Type 0
  Says r = IfOk r (λ said. P said.0 said.1)

  pub after_test : (t : Bool) (rule : Rule) (r : Read B) → (t ≡ false → Says r) → Says (unless t rule and_then r)
  after_test true rule r h = tt
  after_test false rule r h = h refl

  -- a field of which something is known
  pub after_known : {A : Type 0} (Q : A → ℕ → Type 0) (r : Read A) (go : A × ℕ → Read B) → IfOk r (λ said. Q said.0 said.1) → ((x : A) (next : ℕ) → Q x next → Says (go (x, next)))
      → Says (r for_value go)
  after_known Q (Ok said) go known h = h said.0 said.1 known
  after_known Q (Err e) go known h = tt

  pub after : {A : Type 0} (r : Read A) (go : A × ℕ → Read B) → ((x : A) (next : ℕ) → Says (go (x, next))) → Says (r for_value go)
  after (Ok said) go h = h said.0 said.1
  after (Err e) go h = tt

  -- a byte is the one at its position
  pub after_byte : (s : List ℕ) (at : ℕ) (go : ℕ × ℕ → Read B) → Says (go (get_or s at 0, at + 1)) → Says (byte_at true s at for_value go)
  after_byte s at go h = by_test (has s at 1)
    where
      by_test : (t : Bool) → Says ((unless (not t) CardEnds and_then Ok (get_or s at 0, at + 1)) for_value go)
      by_test true = h
      by_test false = tt
