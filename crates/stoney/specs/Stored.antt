-- Points as a stretch of two rows of numbers, their Machs and their drags, and the steps of the walk along such a stretch. Any table is the stretch of its
-- own two rows (`any_stretch`), so the code's walk goes by these steps, and the stretch of a nose's range of all points is the nose's own (`own_stretch`).
use Rattle.std.specs.Prelude.{◌≡◌, refl, true, false, List, [], ◌∷◌, map, Float, length, get_or, take, drop}
use Rattle.std.proofs.Common.{◌∙◌, add-one, drop-cons, not-suc-le-zero, arith}
use Prim.Native.Nat.{ℕ, zero, suc, ◌+◌, ◌-◌, ◌≤◌, ◌<◌}
use Rattle.std.specs.Float.{nan}
use Rattle.std.proofs.Math.ListN.{get_or-map}
use Rattle.stoney.specs.declared.StoneyNose.{StoneyNose}
use Rattle.stoney.specs.Points.{Point, points, all_points, no_point, any_default, range_of, range_within, part_of_all}
use Rattle.stoney.specs.Lookup.{before, line, held, is_short_of, walk, lookup}

-- some points, all of them among the 149
pub record Stored (first count : ℕ) : Type 0 where
  pub some : 0 < count
  pub within : first + count ≤ 149

-- the point at a place of two rows of numbers
abbrev pub point_in : List Float → List Float → ℕ → Point
point_in machs drags place = record { mach = get_or machs place nan; drag = get_or drags place nan }

-- the next so many points from a place on
unfoldable pub stretch : List Float → List Float → ℕ → ℕ → List Point
stretch machs drags place zero = []
stretch machs drags place (suc more) = point_in machs drags place ∷ stretch machs drags (place + 1) more

pub stretch_long : (machs drags : List Float) (place n : ℕ) → length (stretch machs drags place n) ≡ n
unfolding stretch
stretch_long machs drags place zero = refl
stretch_long machs drags place (suc n) = rw (stretch_long machs drags (place + 1) n)

one_less : (n : ℕ) → suc n - 1 ≡ n
one_less n = omega arith

-- ---- one step of the definition's walk

module _ (machs drags : List Float) (M : Float) where
  pub before_first : (first count : ℕ) → 0 < count → is_short_of M (point_in machs drags first) ≡ true → lookup (stretch machs drags first count) M ≡ before (point_in machs drags first) M
  unfolding lookup stretch
  before_first first zero h t = absurd (not-suc-le-zero h)
  before_first first (suc more) h t = rw t

  pub from_first : (first count : ℕ) → 0 < count → is_short_of M (point_in machs drags first) ≡ false
      → lookup (stretch machs drags first count) M ≡ walk (point_in machs drags first) (stretch machs drags (first + 1) (count - 1)) M
  unfolding lookup stretch
  from_first first zero h t = absurd (not-suc-le-zero h)
  from_first first (suc more) h t = rw (one_less more, t)

  pub before_next : (p : Point) (place more : ℕ) → 0 < more → is_short_of M (point_in machs drags place) ≡ true → walk p (stretch machs drags place more) M ≡ line p (point_in machs drags place) M
  unfolding walk stretch
  before_next p place zero h t = absurd (not-suc-le-zero h)
  before_next p place (suc more) h t = rw t

  pub from_next : (p : Point) (place more : ℕ) → 0 < more → is_short_of M (point_in machs drags place) ≡ false
      → walk p (stretch machs drags place more) M ≡ walk (point_in machs drags place) (stretch machs drags (place + 1) (more - 1)) M
  unfolding walk stretch
  from_next p place zero h t = absurd (not-suc-le-zero h)
  from_next p place (suc more) h t = rw (one_less more, t)

  pub past_last : (p : Point) (place more : ℕ) → more ≡ 0 → walk p (stretch machs drags place more) M ≡ held p
  unfolding walk stretch
  past_last p place more z = rw z

-- ---- any table

-- what a read past the end of a table would be, which never happens
abbrev pub never : Point
never = record { mach = nan; drag = nan }

module _ (ps : List Point) where
  abbrev pub machs_of : List Float
  machs_of = map (λ p. p.mach) ps

  abbrev pub drags_of : List Float
  drags_of = map (λ p. p.drag) ps

  pub any_point : (place : ℕ) (d : Point) → place < length ps → point_in machs_of drags_of place ≡ get_or ps place d
  any_point place d h =
      (λ i. record { mach = get_or-map (λ p. p.mach) ps place never i; drag = get_or-map (λ p. p.drag) ps place never i })
      ∙ any_default ps place never d h

  pub any_stretch : (place n : ℕ) → place + n ≤ length ps → stretch machs_of drags_of place n ≡ take n (drop place ps)
  unfolding stretch
  any_stretch place zero h = refl
  any_stretch place (suc n) h =
      let l : place < length ps = omega arith in
      rw (any_point place never l, any_stretch (place + 1) n (omega arith), drop-cons ps place never l, add-one place)

-- ---- the stored points

abbrev pub stored_machs : List Float
stored_machs = map (λ p. p.mach) all_points

abbrev pub stored_drags : List Float
stored_drags = map (λ p. p.drag) all_points

-- each nose's range lies among the stored points
pub own_stored : (nose : StoneyNose) → Stored (range_of nose).first (range_of nose).count
own_stored nose = let r = range_within nose in record { some = r.0; within = r.1 }

all_149 : length all_points ≡ 149
unfolding all_points points
all_149 = refl

pub own_stretch : (nose : StoneyNose) → stretch stored_machs stored_drags (range_of nose).first (range_of nose).count ≡ points nose
own_stretch nose = let w = (own_stored nose).within in any_stretch all_points (range_of nose).first (range_of nose).count (omega (arith, all_149)) ∙ part_of_all nose

pub stored_at : (place : ℕ) → place < 149 → point_in stored_machs stored_drags place ≡ get_or all_points place no_point
stored_at place h = any_point all_points place no_point (omega (arith, all_149))
