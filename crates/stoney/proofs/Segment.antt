-- One segment: a computed test of its two ends and its rounded slope (`fair_segment`), and the law that where the test passes the lookup's line is within 2 ^ -50 of the
-- exact one at every Mach number on the segment (`on_line`). The account, in steps of 2 ^ -54: 12 for the slope over the whole segment, 1 for the difference of
-- Machs, counted twice since no slope is above 2, 1 for the product, 1 for the sum; 16 in all.
use mathlib.Core.Path.{◌≡◌, refl, sym, ap, ◌∙◌}
use mathlib.Core.Bool.{Bool, true, false, ◌&&◌}
use Prim.Native.Nat.{ℕ, ◌+◌, ◌-◌, ◌*◌, ◌≤◌, ◌<◌}
use native.Mathlib.Nat.{le_trans, le_of_eq, lt_of_le_of_lt, lt_of_lt_of_le, mul_comm, mul_assoc, mul_left_comm, mul-add, add-mul, mul-le-mul_right, mul-le-mul_left, mul-lt-mul_of_pos_right, le_of_mul-le-mul_right}
use native.Mathlib.Omega.{arith}
use lib.Dec.{T, leb, ltb, leb→le, ltb→lt, lit≤}
use lib.Ieee.{Float, nan, inf, fin, up, down}
use lib.Ieee.Exact.{HasValue}
use lib.Ieee.Fits.{and_l, and_r, down_pos}
use Rattle.elementary.specs.Arithmetic.{◌⊕◌, ◌⊖◌, ◌⊗◌, ◌⊘◌}
use Rattle.elementary.specs.Nearest.{units_of}
use Rattle.elementary.specs.Distance.{two^_, Counts, Fraction, Apart, OffBy}
use Rattle.elementary.proofs.Rounding.{apart_times, apart_cancel, apart_more, half_step, product, plus, less, minus}
use Rattle.stoney.specs.Points.{Point}
use Rattle.stoney.specs.Lookup.{line}
use Rattle.stoney.specs.BrokenLine.{across, height, straight}
use Rattle.stoney.specs.Distance.{bound}

-- ---- the arithmetic, in whole numbers: the slope A / B over a segment D wide and R high, at q from its left end; E is the error of one operation

module _ (E D q R A B d : ℕ) (some : 0 < B) (inside : q ≤ D) (flat : A ≤ 2 * B) (fair : Apart (12 * (B * E)) (A * D) (B * R)) (gap : Apart E d q) where
  steep : A * E ≤ 2 * (B * E)
  steep = le_trans (mul-le-mul_right E flat) (le_of_eq (mul_assoc 2 B E))

  -- the exact product is below W where R, and a little, is
  reach : (W : ℕ) → R + 14 * E < W → A * d < B * W
  reach W h =
      let a : A * d ≤ A * (D + E) = mul-le-mul_left A (omega arith) in
      let b = mul-add A D E in
      let c : (R + 14 * E) * B ≡ B * R + 14 * (B * E) = simp (add-mul, mul_assoc, mul_comm) in
      let e : A * d ≤ (R + 14 * E) * B = omega (arith, steep) in
      lt_of_le_of_lt e (lt_of_lt_of_le (mul-lt-mul_of_pos_right h some) (le_of_eq (mul_comm W B)))

  -- p is the product, then with the exact way for d, then with the exact slope
  risen : (p : ℕ) → Apart (E * B) (p * B) (A * d) → Apart (15 * (E * D)) (p * D) (R * q)
  risen p product =
      let by_product = apart_times D product in
      let by_way = apart_times D (apart_times A gap) in
      let by_slope = apart_times q fair in
      let a : p * D * B ≡ p * B * D = simp (mul_assoc, mul_comm, mul_left_comm) in
      let b : d * A * D ≡ A * d * D = simp (mul_assoc, mul_comm, mul_left_comm) in
      let c : q * A * D ≡ A * D * q = simp (mul_assoc, mul_comm, mul_left_comm) in
      let f : R * q * B ≡ B * R * q = simp (mul_assoc, mul_comm, mul_left_comm) in
      let g : 15 * (E * D) * B ≡ 15 * (E * B * D) = simp (mul_assoc, mul_comm) in
      let h : E * A * D ≤ 2 * (E * B * D) = le_trans (mul-le-mul_right D (le_trans (le_of_eq (mul_comm E A)) steep)) (le_of_eq (simp (mul_assoc, mul_comm))) in
      let i : 12 * (B * E) * q ≤ 12 * (E * B * D) = le_trans (mul-le-mul_left (12 * (B * E)) inside) (le_of_eq (simp (mul_assoc, mul_comm))) in
      apart_cancel B (15 * (E * D)) (p * D) (R * q) some (record { up = omega arith; down = omega arith })

-- from the product p to the sum
module _ (E D q R p : ℕ) (some : 0 < D) (inside : q ≤ D) (near : Apart (15 * (E * D)) (p * D) (R * q)) where
  at_most : p ≤ R + 15 * E
  at_most =
      let a : R * q ≤ R * D = mul-le-mul_left R inside in
      let b : (R + 15 * E) * D ≡ R * D + 15 * (E * D) = add-mul R (15 * E) D ∙ ap (λ (z : ℕ). R * D + z) (mul_assoc 15 E D) in
      le_of_mul-le-mul_right {k = D} (omega arith) some

  -- a line that rises from Y by R
  upwards : (Y v : ℕ) → Apart E v (Y + p) → Apart (16 * (E * D)) (v * D) (Y * (D - q) + (Y + R) * q)
  upwards Y v sum =
      let s = apart_times D sum in
      let a = add-mul Y p D in
      let b : Y * (D - q) + Y * q ≡ Y * D = sym (mul-add Y (D - q) q) ∙ ap (λ (z : ℕ). Y * z) (omega arith) in
      let c = add-mul Y R q in
      record { up = omega arith; down = omega arith }

  -- a line that falls by R to Y
  downwards : (Y v : ℕ) → p ≤ Y + R → Apart E v (Y + R - p) → Apart (16 * (E * D)) (v * D) ((Y + R) * (D - q) + Y * q)
  downwards Y v o sum =
      let t : Apart E (v + p) (Y + R) = record { up = omega (arith, sum.up); down = omega (arith, sum.down) } in
      let s = apart_times D t in
      let a = add-mul v p D in
      let b : (Y + R) * (D - q) + (Y + R) * q ≡ (Y + R) * D = sym (mul-add (Y + R) (D - q) q) ∙ ap (λ (z : ℕ). (Y + R) * z) (omega arith) in
      let c = add-mul Y R q in
      record { up = omega arith; down = omega arith }

-- ---- the test: a segment D wide that goes from the height Y to Y'

abbrev E : ℕ
E = half_step

-- how far from Y to Y', up or down
abbrev change : ℕ → ℕ → ℕ
change Y Y' = Y' - Y + (Y - Y')

-- the slope's sign is the line's, and a line that falls ends above 0
abbrev right_way : ℕ → ℕ → Bool → Bool
right_way Y Y' false = leb Y Y'
right_way Y Y' true = leb Y' Y && leb (15 * E) Y'

-- narrower than 1 and below 1, not steeper than 2, and A / B times the width is the change, but for 12 steps of 2 ^ -54
abbrev fair : ℕ → ℕ → ℕ → ℕ → ℕ → Bool
fair D Y Y' A B =
    ltb D (two^_ 0)
    && (ltb (Y + Y' + 16 * E) (two^_ 0)
    && (leb A (2 * B) && (leb (A * D) (B * change Y Y' + 12 * (B * E)) && leb (B * change Y Y') (A * D + 12 * (B * E)))))

abbrev fair_slope : ℕ → ℕ → ℕ → Float → Bool
fair_slope D Y Y' nan = false
fair_slope D Y Y' (inf s) = false
fair_slope D Y Y' (fin s n e) = right_way Y Y' s && fair D Y Y' (n * up e) (down e)

abbrev pub fair_segment : Point → Point → Bool
fair_segment p q = fair_slope (across q - across p) (height p) (height q) ((q.drag ⊖ p.drag) ⊘ (q.mach ⊖ p.mach))

-- ---- what it says

record Fair (D Y Y' A B : ℕ) : Type 0 where
  narrow : D < two^_ 0
  low : Y + Y' + 16 * E < two^_ 0
  flat : A ≤ 2 * B
  near : Apart (12 * (B * E)) (A * D) (B * change Y Y')

is_fair : (D Y Y' A B : ℕ) → T (fair D Y Y' A B) → Fair D Y Y' A B
is_fair D Y Y' A B t =
    let a = ltb D (two^_ 0) in
    let b = ltb (Y + Y' + 16 * E) (two^_ 0) in
    let c = leb A (2 * B) in
    let d = leb (A * D) (B * change Y Y' + 12 * (B * E)) in
    let e = leb (B * change Y Y') (A * D + 12 * (B * E)) in
    let u = and_r a (b && (c && (d && e))) t in
    let v = and_r b (c && (d && e)) u in
    let w = and_r c (d && e) v in
    record {
      narrow = ltb→lt D (two^_ 0) (and_l a (b && (c && (d && e))) t);
      low = ltb→lt (Y + Y' + 16 * E) (two^_ 0) (and_l b (c && (d && e)) u);
      flat = leb→le A (2 * B) (and_l c (d && e) v);
      near = record { up = leb→le (A * D) (B * change Y Y' + 12 * (B * E)) (and_l d e w); down = leb→le (B * change Y Y') (A * D + 12 * (B * E)) (and_r d e w) };
    }

-- ---- the law (first what it needs of linear arithmetic, with no large number in sight)

low_change : (y z E W : ℕ) → y + z + 16 * E < W → z - y + (y - z) + 14 * E < W
low_change y z E W h = omega arith

low_sum : (y z p E W : ℕ) → y ≤ z → p ≤ z - y + (y - z) + 15 * E → y + z + 16 * E < W → y + p < W
low_sum y z p E W o l h = omega arith

low_rest : (y z p E W : ℕ) → y + z + 16 * E < W → y - p < W
low_rest y z p E W h = omega arith

stays_above : (y z p E : ℕ) → z ≤ y → 15 * E ≤ z → p ≤ z - y + (y - z) + 15 * E → p ≤ y
stays_above y z p E o f l = omega arith

rises_to : (y z : ℕ) → y ≤ z → z ≡ y + (z - y + (y - z))
rises_to y z o = omega arith

falls_to : (y z : ℕ) → z ≤ y → y ≡ z + (z - y + (y - z))
falls_to y z o = omega arith

-- from the point (x, y), which is (X, Y) in units, to (X', Y'); M is m
module _ (x y M : Float) (X X' Y Y' m : ℕ) (hM : Counts M false m) (hx : Counts x false X) (hy : Counts y false Y) (from : X ≤ m) (to : m < X') where
  inside : m - X ≤ X' - X
  inside = omega arith

  some : 0 < X' - X
  some = omega arith

  left : X' - m ≡ X' - X - (m - X)
  left = omega arith

  sixteen : 16 * (E * (X' - X)) ≤ bound * (X' - X)
  sixteen = le_trans (le_of_eq (sym (mul_assoc 16 E (X' - X)))) (mul-le-mul_right (X' - X) (lit≤ tt))

  -- P is the line's rise or fall up to M, but for 15 steps
  abbrev Gone : Float → Type 0
  Gone P = Apart (15 * (E * (X' - X))) (units_of P * (X' - X)) (change Y Y' * (m - X))

  gone : (S : Float) (s : Bool) (A B : ℕ) → 0 < B → HasValue S s A B → Fair (X' - X) Y Y' A B → let P = S ⊗ (M ⊖ x) in Counts P s (units_of P) × Gone P
  gone S s A B B+ v f =
      let d = minus M x m X hM hx from (lt_of_le_of_lt inside f.narrow) in
      let u = units_of (M ⊖ x) in
      let r = product S (M ⊖ x) s A B u v d.number (reach E (X' - X) (m - X) (change Y Y') A B u B+ inside f.flat f.near d.apart (two^_ 0) (low_change Y Y' E (two^_ 0) f.low)) in
      (r.number, risen E (X' - X) (m - X) (change Y Y') A B u B+ inside f.flat f.near d.apart (units_of (S ⊗ (M ⊖ x))) r.apart)

  abbrev exact : Fraction
  exact = record { over = Y * (X' - m) + Y' * (m - X); under = X' - X }

  -- at the end of the 16 steps
  landed : (r : Float) → Counts r false (units_of r) → Apart (16 * (E * (X' - X))) (units_of r * (X' - X)) (Y * (X' - X - (m - X)) + Y' * (m - X)) → OffBy bound r exact
  landed r hr a = record { some = some; number = hr; apart = apart_more sixteen (rw left a) }

  on_rising : (P : Float) → Counts P false (units_of P) → Y ≤ Y' → Y + Y' + 16 * E < two^_ 0 → Gone P → OffBy bound (y ⊕ P) exact
  on_rising P hP o low a =
      let l = at_most E (X' - X) (m - X) (change Y Y') (units_of P) some inside a in
      let v = plus y P Y (units_of P) hy hP (low_sum Y Y' (units_of P) E (two^_ 0) o l low) in
      landed (y ⊕ P) v.number (rw (rises_to Y Y' o) (upwards E (X' - X) (m - X) (change Y Y') (units_of P) some inside a Y (units_of (y ⊕ P)) v.apart))

  on_falling : (P : Float) → Counts P true (units_of P) → Y' ≤ Y → 15 * E ≤ Y' → Y + Y' + 16 * E < two^_ 0 → Gone P → OffBy bound (y ⊕ P) exact
  on_falling P hP o above low a =
      let l = at_most E (X' - X) (m - X) (change Y Y') (units_of P) some inside a in
      let under = stays_above Y Y' (units_of P) E o above l in
      let v = less y P Y (units_of P) hy hP under (low_rest Y Y' (units_of P) E (two^_ 0) low) in
      let e = falls_to Y Y' o in
      landed (y ⊕ P) v.number (rw e (downwards E (X' - X) (m - X) (change Y Y') (units_of P) some inside a Y' (units_of (y ⊕ P)) (rw e at under) (rw e at v.apart)))

  by_slope : (S : Float) → T (fair_slope (X' - X) Y Y' S) → OffBy bound (y ⊕ S ⊗ (M ⊖ x)) exact
  by_slope nan t = absurd t
  by_slope (inf s) t = absurd t
  by_slope (fin false n e) t =
      let f = is_fair (X' - X) Y Y' (n * up e) (down e) (and_r (leb Y Y') _ t) in
      let r = gone (fin false n e) false (n * up e) (down e) (down_pos e) (refl, refl) f in
      on_rising (fin false n e ⊗ (M ⊖ x)) r.0 (leb→le Y Y' (and_l (leb Y Y') _ t)) f.low r.1
  by_slope (fin true n e) t =
      let way = and_l (leb Y' Y && leb (15 * E) Y') _ t in
      let f = is_fair (X' - X) Y Y' (n * up e) (down e) (and_r (leb Y' Y && leb (15 * E) Y') _ t) in
      let r = gone (fin true n e) true (n * up e) (down e) (down_pos e) (refl, refl) f in
      on_falling (fin true n e ⊗ (M ⊖ x)) r.0 (leb→le Y' Y (and_l (leb Y' Y) _ way)) (leb→le (15 * E) Y' (and_r (leb Y' Y) _ way)) f.low r.1

pub on_line : (p q : Point) (M : Float) (m : ℕ) → Counts M false m → Counts p.mach false (across p) → Counts p.drag false (height p) → across p ≤ m → m < across q
    → T (fair_segment p q) → OffBy bound (line p q M).value (straight p q m)
unfolding line
on_line p q M m hM hx hy from to t = by_slope p.mach p.drag M (across p) (across q) (height p) (height q) m hM hx hy from to ((q.drag ⊖ p.drag) ⊘ (q.mach ⊖ p.mach)) t
