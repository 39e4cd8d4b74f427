-- The order of floats, as a walk through rising numbers needs it: what is at or below M is not above it (any two floats), and `≼` and `≺` go through a number
-- that is finite and above zero.
use Rattle.std.specs.Prelude.{◌≡◌, refl, Bool, true, false, ◌&&◌, ◌||◌, ℕ, ◌+◌, ◌*◌, ◌≤◌, ◌<◌, T, ltb, eqb, Float}
use Rattle.std.proofs.Common.{sym, subst, le_refl, le_of_eq, le_of_lt, lt_of_not-le, not-le_of_lt, mul-pos, arith, eqb→eq, ltb→lt, lt→ltb, le-ltb}
use Rattle.std.specs.Float.{nan, inf, fin}
use Rattle.std.specs.Float.Ieee.{up, down, below, level, lt, eq, le}
use Rattle.std.specs.Float.Ieee.Fits.{up_pos, down_pos, and_l, and_r}
use Rattle.std.specs.Float.Ieee.Positive.{num, den, positive, above, above_of_le, le→cross, cross→le, le_trans_positive, through}
use Rattle.elementary.specs.Arithmetic.{◌≺◌, ◌≼◌}

-- ---- what is at or below M is not above it

at_most : (a b : ℕ) (x y : Bool) → (T x → a < b) → (T y → a ≡ b) → T (x || y) → a ≤ b
at_most a b true y f g h = le_of_lt (f tt)
at_most a b false y f g h = le_of_eq (g h)

-- ±a and ±b, of one denominator
not_below : (s t : Bool) (a b : ℕ) → T (below s a t b || level s a t b) → below t b s a ≡ false
not_below false false a b h = le-ltb b a (at_most a b (ltb a b) (eqb a b && true) (ltb→lt a b) (λ e. eqb→eq a b (and_l (eqb a b) true e)) h)
not_below false true a b h =
    let e : a ≡ b = eqb→eq a b (and_l (eqb a b) (eqb a 0) h) in
    let z : a ≡ 0 = eqb→eq a 0 (and_r (eqb a b) (eqb a 0) h) in
    le-ltb 0 (b + a) (omega arith)
not_below true false a b h = refl
not_below true true a b h = le-ltb a b (at_most b a (ltb b a) (eqb a b && true) (ltb→lt b a) (λ t. sym (eqb→eq a b (and_l (eqb a b) true t))) h)

pub not_above : (x y : Float) → T (x ≼ y) → (y ≺ x) ≡ false
unfolding le lt eq
not_above nan y h = absurd h
not_above (inf s) nan h = absurd h
not_above (inf true) (inf true) h = refl
not_above (inf true) (inf false) h = refl
not_above (inf false) (inf true) h = absurd h
not_above (inf false) (inf false) h = refl
not_above (inf true) (fin t n d) h = refl
not_above (inf false) (fin t n d) h = absurd h
not_above (fin s m e) nan h = absurd h
not_above (fin s m e) (inf true) h = absurd h
not_above (fin s m e) (inf false) h = refl
not_above (fin s m e) (fin t n d) h = not_below s t (m * up e * down d) (n * up d * down e) h

pub not_at_most : (x y : Float) → T (y ≺ x) → (x ≼ y) ≡ false
not_at_most x y h = go (x ≼ y) refl
  where
    go : (b : Bool) → (x ≼ y) ≡ b → (x ≼ y) ≡ false
    go false e = e
    go true e = absurd (subst T (not_above x y (subst T (sym e) tt)) h)

-- ---- through a number that is finite and above zero

or_l : (a b : Bool) → T a → T (a || b)
or_l true b t = tt
or_l false b t = absurd t

pub lt_le : (x y : Float) → T (x ≺ y) → T (x ≼ y)
unfolding le
lt_le x y h = or_l (lt x y) (eq x y) h

below_top : (x : Float) → T (positive x) → T (x ≼ inf false)
unfolding le
below_top nan p = absurd p
below_top (inf s) p = absurd p
below_top (fin true m e) p = absurd p
below_top (fin false m e) p = tt

pub itself : (x : Float) → T (positive x) → T (x ≼ x)
itself x p = cross→le x x p p (le_refl (num x * den x))

-- z may be +infinity
pub le_through : (x y z : Float) → T (positive x) → T (positive y) → T (x ≼ y) → T (y ≼ z) → T (x ≼ z)
le_through x y z p q h k = go z (above_of_le y z q k) k
  where
    go : (w : Float) → T (above w) → T (y ≼ w) → T (x ≼ w)
    go nan a l = absurd a
    go (inf true) a l = absurd a
    go (inf false) a l = below_top x p
    go (fin true n d) a l = absurd a
    go (fin false n d) a l = le_trans_positive x y (fin false n d) p q a h l

-- x may be negative, or -infinity
pub lt_through : (x y z : Float) → T (positive y) → T (positive z) → T (x ≺ y) → T (y ≼ z) → T (x ≺ z)
unfolding lt
lt_through x nan z q r h k = absurd q
lt_through x (inf s) z q r h k = absurd q
lt_through x (fin true m e) z q r h k = absurd q
lt_through x (fin false m e) nan q r h k = absurd r
lt_through x (fin false m e) (inf s) q r h k = absurd r
lt_through x (fin false m e) (fin true n d) q r h k = absurd r
lt_through x (fin false m e) (fin false n d) q r h k = go x h
  where
    go : (w : Float) → T (w ≺ fin false m e) → T (w ≺ fin false n d)
    go nan l = absurd l
    go (inf true) l = tt
    go (inf false) l = absurd l
    go (fin true a i) l =
        let some : 0 < n * up d * down i = mul-pos (mul-pos (ltb→lt 0 n r) (up_pos d)) (down_pos i) in
        lt→ltb 0 (a * up i * down d + n * up d * down i) (omega arith)
    go (fin false a i) l =
        lt→ltb (a * up i * down d) (n * up d * down i)
        (lt_of_not-le
        (λ (g : n * up d * down i ≤ a * up i * down d).
        not-le_of_lt (ltb→lt (a * up i * down e) (m * up e * down i) l)
        (through (m * up e) (n * up d) (a * up i) (down e) (down d) (down i) (down_pos d) (le→cross (fin false m e) (fin false n d) q r k) g)))
