-- `walk_points` meets its contract: each turn is one step of the definition's walk, as specs/Stored.antt has them.
use Rattle.std.proofs.Common.{◌≡◌, refl, Bool, ℕ, ◌+◌, ◌-◌, ◌≤◌, ◌<◌, true, false, List, length, length-drop, get_or, take, drop, sym, ap, ◌∙◌, arith}
use Rattle.std.proofs.lemmas.List.{take_all, drop_all}
use lib.Ieee.{Float}
use Rattle.stoney.specs.Points.{Point}
use Rattle.stoney.specs.Lookup.{before, line, held, is_short_of, walk, lookup}
use Rattle.stoney.specs.Stored as steps
use Rattle.stoney.specs.Stored.{point_in, stretch, machs_of, drags_of, any_point, any_stretch, before_first, before_next, past_last}
use Rattle.stoney.proofs.walk_points.Goals as goal

module _ (M : Float) where
  -- the points as the stretch of their two rows of numbers: its steps are those of specs/Stored.antt
  ahead : (ps : List Point) (k : ℕ) → k ≤ length ps → stretch (machs_of ps) (drags_of ps) k (length ps - k) ≡ drop k ps
  ahead ps k h = any_stretch ps k (length ps - k) (omega arith) ∙ take_all (length ps - k) (drop k ps) (rw (length-drop k ps) (omega arith))

  is_short : (ps : List Point) (k : ℕ) (d : Point) {b : Bool} → k < length ps → is_short_of M (get_or ps k d) ≡ b → is_short_of M (point_in (machs_of ps) (drags_of ps) k) ≡ b
  is_short ps k d h t = ap (is_short_of M) (any_point ps k d h) ∙ t

  first_above : (ps : List Point) (d : Point) → 0 < length ps → is_short_of M (get_or ps 0 d) ≡ true → lookup ps M ≡ before (get_or ps 0 d) M
  first_above ps d h t =
      ap (λ (l : List Point). lookup l M) (sym (ahead ps 0 (omega arith)))
      ∙ before_first (machs_of ps) (drags_of ps) M 0 (length ps - 0) (omega arith) (is_short ps 0 d h t)
      ∙ ap (λ (p : Point). before p M) (any_point ps 0 d h)

  from_first : (ps : List Point) (d : Point) → 0 < length ps → is_short_of M (get_or ps 0 d) ≡ false
      → lookup ps M ≡ walk (get_or ps 0 d) (drop 0 (take (length ps - 1) (drop 1 ps))) M
  from_first ps d h t =
      let less : length ps - 0 - 1 ≡ length ps - 1 = omega arith in
      ap (λ (l : List Point). lookup l M) (sym (ahead ps 0 (omega arith)))
      ∙ steps.from_first (machs_of ps) (drags_of ps) M 0 (length ps - 0) (omega arith) (is_short ps 0 d h t)
      ∙ ap (λ (p : Point). walk p (stretch (machs_of ps) (drags_of ps) (0 + 1) (length ps - 0 - 1)) M) (any_point ps 0 d h)
      ∙ ap (λ (l : List Point). walk (get_or ps 0 d) l M) (any_stretch ps (0 + 1) (length ps - 0 - 1) (omega arith) ∙ ap (λ (n : ℕ). take n (drop 1 ps)) less)

  next_above : (last : Point) (ps : List Point) (k : ℕ) (d : Point) → k < length ps → is_short_of M (get_or ps k d) ≡ true → walk last (drop k ps) M ≡ line last (get_or ps k d) M
  next_above last ps k d h t =
      ap (λ (l : List Point). walk last l M) (sym (ahead ps k (omega arith)))
      ∙ before_next (machs_of ps) (drags_of ps) M last k (length ps - k) (omega arith) (is_short ps k d h t)
      ∙ ap (λ (p : Point). line last p M) (any_point ps k d h)

  from_next : (last : Point) (ps : List Point) (k : ℕ) (d : Point) → k < length ps → is_short_of M (get_or ps k d) ≡ false
      → walk last (drop k ps) M ≡ walk (get_or ps k d) (drop (k + 1) ps) M
  from_next last ps k d h t =
      let n : length ps - k - 1 ≡ length ps - (k + 1) = omega arith in
      ap (λ (l : List Point). walk last l M) (sym (ahead ps k (omega arith)))
      ∙ steps.from_next (machs_of ps) (drags_of ps) M last k (length ps - k) (omega arith) (is_short ps k d h t)
      ∙ rw (any_point ps k d h, n, ahead ps (k + 1) (omega arith))

  past_end : (last : Point) (ps : List Point) (k : ℕ) → length ps ≤ k → walk last (drop k ps) M ≡ held last
  unfolding stretch
  past_end last ps k h = ap (λ (l : List Point). walk last l M) (drop_all k ps h) ∙ past_last (machs_of ps) (drags_of ps) M last k 0 refl

pub returns-then-mach-last : goal.returns-then-mach-last
returns-then-mach-last c = c.run_down.ensures ∙ sym (first_above c.args.mach c.args.points.now _ c.requires c.if-mach-last.true)

pub loop-next-init : goal.loop-next-init
loop-next-init c = from_first c.args.mach c.args.points.now _ c.requires c.if-mach-last.false

pub returns-then-mach-next : goal.returns-then-mach-next
returns-then-mach-next c = c.line_to.ensures ∙ sym (c.loop-next.invariant ∙ next_above c.args.mach _ _ _ _ c.loop-next-test.true c.if-mach-next.true)

pub loop-next-preserved : goal.loop-next-preserved
loop-next-preserved c = c.loop-next.invariant ∙ from_next c.args.mach _ _ _ _ c.loop-next-test.true c.if-mach-next.false

pub returns : goal.returns
returns c = sym (c.loop-next.invariant ∙ past_end c.args.mach _ _ _ c.loop-next-test.false)
