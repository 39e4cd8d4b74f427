-- `add_common` meets its contract.
use Rattle.std.proofs.Common.{◌≡◌, ℕ, ◌+◌, ◌*◌, ◌<◌, sym, ap, ◌∙◌, arith, length, get_or}
use Rattle.std.specs.Prelude.{Float, ◌/◌, []}
use Rattle.std.specs.Float.{nan}
use Rattle.std.proofs.lemmas.List.{get_or-drop}
use Rattle.elementary.specs.Arithmetic.{◌⊗◌}
use Rattle.elementary.specs.Constants.{0·0}
use Rattle.sheet_data.specs.declared.Part.{Part}
use Rattle.sheet_data.specs.Contents.{no_part, part_at}
use Rattle.sheet_data.specs.Tables.{tab_same, tab_constant}
use Rattle.sheet_data.proofs.Chunks.{in_chunk}
use Rattle.drag_sheet.proofs.Sums.{sum_none, terms_more, four_terms_more}
use Rattle.drag_sheet.proofs.friction.add_common.Goals as goal
use Rattle.drag_sheet.proofs.friction.add_common.Goals.{At-loop-four, At-loop-part}

pub loop-four-init : goal.loop-four-init
loop-four-init c = c.requires ∙ tab_constant _ 0·0 ∙ tab_same _ _ _ (λ k h. sym (sum_none _))

pub loop-four-preserved : goal.loop-four-preserved
loop-four-preserved c =
    let q = c.loop-four.four-index in
    let n = 4 * q in
    let ps = c.args.parts.now in
    let xs = c.args.common.now in
    let f : ℕ → ℕ → Float = λ k i. get_or xs k nan ⊗ (part_at ps i).wetted_ratio in
    let x : ℕ → ℕ → Float = λ j k. get_or xs k nan ⊗ (part_at (get_or c.as_chunks.result.0.now q []) j).wetted_ratio in
    let next : 4 * (q + 1) ≡ n + 4 = omega arith in
    let same : (j i k : ℕ) → j < 4 → i ≡ n + j → x j k ≡ f k i = λ j i k h e. rw (c.as_chunks.ensures.front, e) (ap (λ (p : Part). get_or xs k nan ⊗ p.wetted_ratio) (in_chunk 4 (length ps / 4) q j ps no_part (omega arith) h)) in
    rw next (four_terms_more (length xs) n f c.loop-four.sum _ (x 0) (x 1) (x 2) (x 3) c.loop-four.invariant c.add_four.ensures
    (λ k h. (same 0 n k (omega arith) (omega arith), same 1 (n + 1) k (omega arith) (omega arith), same 2 (n + 2) k (omega arith) (omega arith), same 3 (n + 3) k (omega arith) (omega arith))))

pub loop-part-preserved : goal.loop-part-preserved
loop-part-preserved c =
    let before = length c.args.parts.now / 4 * 4 in
    let i = c.loop-part.part-index in
    let xs = c.args.common.now in
    let f : ℕ → ℕ → Float = λ k i. get_or xs k nan ⊗ (part_at c.args.parts.now i).wetted_ratio in
    let next : before + (i + 1) ≡ before + i + 1 = omega arith in
    rw next (terms_more (length xs) (before + i) f c.loop-part.sum _ (λ k. get_or xs k nan ⊗ (part_at c.as_chunks.result.1.now i).wetted_ratio) c.loop-part.invariant c.add_part.ensures (λ k h. rw c.as_chunks.ensures.back (ap (λ (p : Part). get_or xs k nan ⊗ p.wetted_ratio) (get_or-drop before c.args.parts.now i no_part))))

pub returns : goal.returns
returns c =
    let l = c.loop-part in
    let e : length c.args.parts.now / 4 * 4 + l.part-index ≡ length c.args.parts.now = omega arith in
    l.invariant ∙ rw e
