-- A turn of the program's loops: one point more is met by a query, and one query more is answered.
use Rattle.std.specs.Prelude.{Option, Some}
use Rattle.std.proofs.Common.{◌≡◌, true, false, List, [], ◌∷◌, ℕ, suc, ◌+◌, ◌-◌, ◌≤◌, ◌<◌, length, get_or, take, drop, set, add-one, drop-cons, arith}
use Rattle.std.proofs.lemmas.List.{take_all, drop_all}
use Rattle.std.proofs.lemmas.List.Edits.{sets}
use native.Mathlib.Nat.{add-zero, zero-add}
use lib.Ieee.{Float, nan}
use Rattle.stoney.specs.Points.{Point}
use Rattle.walk.specs.Walk.{Stand, Went, reached, leg, went, once_more, read_at, walk_from}
use Rattle.walk.specs.Walker.{after}

after_more : (n : ℕ) (w : Went) → after n (once_more w) ≡ after (n + 1) w
after_more n w = let e : n + suc w.compared ≡ n + 1 + w.compared = omega arith in rw e

pub after_none : (w : Went) → w ≡ after 0 w
after_none w = rw (zero-add w.compared)

-- ---- a query that meets these points, after n comparisons

module _ (passed : Option Point) (M : Float) (n : ℕ) (d : Point) where
  pub moves : (ps : List Point) → 0 < length ps → reached (get_or ps 0 d) M ≡ true
      → after n (leg passed ps M) ≡ after (n + 1) (leg (Some (get_or ps 0 d)) (take (length ps - 1) (drop 1 ps)) M)
  unfolding leg
  moves [] h e = absurd (omega arith)
  moves (p ∷ ps) h e = let l : length ps ≤ length (p ∷ ps) - 1 = omega arith in rw (e, take_all (length (p ∷ ps) - 1) ps l) (after_more n _)

  pub stops : (ps : List Point) → 0 < length ps → reached (get_or ps 0 d) M ≡ false → after n (leg passed ps M) ≡ record { compared = n + 1; ends = record { passed = passed; ahead = ps } }
  unfolding leg
  stops [] h e = absurd (omega arith)
  stops (p ∷ ps) h e = rw e

  pub ends_past : (ps : List Point) → length ps < 1 → after n (leg passed ps M) ≡ record { compared = n; ends = record { passed = passed; ahead = ps } }
  unfolding leg
  ends_past [] h = rw (add-zero n)
  ends_past (p ∷ ps) h = absurd (omega arith)

-- ---- the queries from the place i on

pub none_left : (stand : Stand) (Ms : List Float) (i : ℕ) → length Ms ≤ i → walk_from stand (drop i Ms) ≡ record { values = []; compared = 0 }
unfolding walk_from
none_left stand Ms i h = rw (drop_all i Ms h)

-- the query at the place i, with `before` comparisons before it: it comes to w, and the table's value there is v

module _ (stand : Stand) (before : ℕ) (Ms : List Float) (i : ℕ) where
  pub record OneMore (w : Went) (v : Float) : Type 0 where
    pub counted : before + (walk_from stand (drop i Ms)).compared ≡ w.compared + (walk_from w.ends (drop (i + 1) Ms)).compared
    pub written : (ys : List Float) → sets ys i (walk_from stand (drop i Ms)).values ≡ sets (set ys i v) (i + 1) (walk_from w.ends (drop (i + 1) Ms)).values

  pub one_more : (w : Went) (v : Float) → i < length Ms → w ≡ after before (went stand (get_or Ms i nan)) → v ≡ (read_at w.ends (get_or Ms i nan)).value → OneMore w v
  unfolding walk_from
  one_more w v h e f = record { counted = rw (drop-cons Ms i nan h, e, add-one i) (omega arith); written = λ ys. rw (drop-cons Ms i nan h, f, e, add-one i) }
