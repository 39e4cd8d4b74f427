-- `add_by_place` meets its contract.
use mathlib.Core.Path.{◌≡◌, sym, ◌∙◌}
use Prim.Native.Nat.{ℕ}
use native.Mathlib.Omega.{arith}
use lib.ListN.{length, get_or}
use lib.Ieee.{Float, nan}
use Rattle.elementary.specs.Arithmetic.{◌⊗◌}
use Rattle.elementary.specs.Constants.{0·0}
use Rattle.drag.specs.Friction.{wall_of}
use Rattle.sheet_data.specs.Contents.{part_at}
use Rattle.sheet_data.specs.Tables.{tab_same, tab_constant}
use Rattle.drag_sheet.specs.Body.{flow_at, formed, formed_for}
use Rattle.drag_sheet.proofs.Sums.{sum_none, terms_more}
use Rattle.drag_sheet.proofs.friction.add_by_place.Goals as goal
use Rattle.drag_sheet.proofs.friction.add_by_place.Goals.{At-loop-part, in-None, in-Some}

pub loop-part-preserved : goal.loop-part-preserved
loop-part-preserved c =
    let l = c.loop-part in
    let ps = c.args.parts.now in
    let xs = c.args.common.now in
    let w = (part_at ps l.part-index).wetted_ratio in
    let f : ℕ → ℕ → Float = λ k i. formed_for (part_at ps i).roughness (get_or xs k nan) c.args.form (flow_at c.args.flows.now k) ⊗ (part_at ps i).wetted_ratio in
    elim c.match-part.branch [
      | in-None b ↦ terms_more (length xs) l.part-index f l.sum _ (λ k. get_or xs k nan ⊗ w) l.invariant (b.sum-is ∙ b.add_part.ensures) (λ k h. rw (b.in-None.is))
      | in-Some b ↦ terms_more (length xs) l.part-index f l.sum _ (λ k. formed (wall_of b.in-Some.k) c.args.form (flow_at c.args.flows.now k) ⊗ w) l.invariant (b.sum-is ∙ b.add_own.ensures) (λ k h. rw (b.in-Some.is))
    ]

pub returns : goal.returns
returns c =
    let l = c.loop-part in
    let e : l.part-index ≡ length c.args.parts.now = omega arith in
    l.invariant ∙ rw e

pub loop-part-init : goal.loop-part-init
loop-part-init c = c.requires.1 ∙ tab_constant _ 0·0 ∙ tab_same _ _ _ (λ k h. sym (sum_none _))
