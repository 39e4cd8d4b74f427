-- Whether two floats are one, as a test that computes: binary64 holds both, and their bits are the same.
use Rattle.std.specs.Prelude.{◌≡◌, Bool, ◌&&◌, T, eqb, Float}
use Rattle.std.proofs.Common.{sym, ap, ◌∙◌, eqb→eq}
use Rattle.std.specs.Float.{binary64}
use Rattle.std.specs.Float.Ieee.{fits, to_bits, of_bits}
use Rattle.std.specs.Float.Ieee.Bits.{of_bits-to_bits}
use Rattle.std.specs.Float.Ieee.Fits.{and_l, and_r}

abbrev pub same : Float → Float → Bool
same x y = fits binary64 x && fits binary64 y && eqb (to_bits binary64 x) (to_bits binary64 y)

pub same_is : (x y : Float) → T (same x y) → x ≡ y
same_is x y t =
    let both = fits binary64 x && fits binary64 y in
    let bits = eqb (to_bits binary64 x) (to_bits binary64 y) in
    let held = and_l both bits t in
    sym (of_bits-to_bits binary64 x (and_l (fits binary64 x) (fits binary64 y) held))
    ∙ ap (of_bits binary64) (eqb→eq (to_bits binary64 x) (to_bits binary64 y) (and_r both bits t))
    ∙ of_bits-to_bits binary64 y (and_r (fits binary64 x) (fits binary64 y) held)
