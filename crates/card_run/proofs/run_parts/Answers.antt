-- `run_parts` meets its contract: it stops where a card or its part is refused, and else where the bytes end.
use Rattle.std.specs.Prelude.{◌≡◌, ℕ, Ok}
use Rattle.std.proofs.Common.{refl, sym, ap, subst, ◌∙◌, arith}
use Rattle.aero_error.specs.Checks.{Check}
use Rattle.aero_error.proofs.HandedOn.{handed_on}
use Rattle.sheet_data.specs.declared.Sheet.{Sheet}
use Rattle.sheet_data.specs.Contents.{Fits}
use Rattle.cards.specs.Cards.{part_at}
use Rattle.drag_sheet.specs.Planes.{Lent, lent, cells_lent}
use Rattle.drag_sheet.proofs.Verdicts.{never}
use Rattle.card_run.specs.Run.{stopped, run_stopped, all_part_cards}
use Rattle.card_run.proofs.Stream.{cards_end, card_refused, part_refused, part_accepted, part_reach, sheet_then, lent_then}
use Rattle.card_run.proofs.Answers.{refused_call, accepted_call, stopped_at_lem, fits_after}
use Rattle.card_run.proofs.run_parts.Goals as goal
use Rattle.card_run.proofs.run_parts.Goals.{In_ok-part}

-- the card that was read
card_read : (c : In_ok-part) → part_at c.args.s.now c.loop-at.at ≡ Ok (c.in_ok-part.part, c.in_ok-part.next)
card_read c = sym c.read_part.ensures ∙ c.in_ok-part.was

pub returns-in_err-part : goal.returns-in_err-part
returns-in_err-part c =
    let l = c.loop-at in
    let xs = lent l.cells l.marks in
    stopped_at_lem _ _ _ l.sheet xs _ (l.invariant.same ∙ card_refused c.args.s.now l.at l.sheet xs _ c.loop-at-test.true (sym c.read_part.ensures ∙ c.in_err-part.was))
    (ap (λ (o : Check). run_stopped o l.sheet) (handed_on _ _ c.from_residual.ensures)) (omega (arith, l.invariant.fits.parts)) (never refl)

pub returns-in_err-insert : goal.returns-in_err-insert
returns-in_err-insert c =
    let l = c.loop-at in
    let r = refused_call c.insert.ensures _ c.in_err-insert.was in
    let ran = l.invariant.same ∙ part_refused c.args.s.now l.at l.sheet (lent l.cells l.marks) _ _ c.loop-at-test.true (card_read (goal.at.returns-in_err-insert c).In_ok-part) _ r.0 in
    stopped_at_lem _ _ _ l.sheet (lent c.insert.new.cells c.insert.new.marks) _ (ran ∙ ap (stopped _ l.sheet) (sym r.2))
    (ap (λ (o : Check). run_stopped o c.insert.new.sheet) (handed_on _ _ c.from_residual-in_err-insert.ensures) ∙ ap (run_stopped _) r.1) (omega (arith, l.invariant.fits.parts)) (never refl)

pub loop-at-smaller : goal.loop-at-smaller
loop-at-smaller c =
    let l = c.loop-at in
    let r = part_reach _ l.at _ _ (card_read (goal.at.loop-at-smaller c).In_ok-part) in
    omega (arith, c.loop-at-test.true, r)

pub loop-at-preserved : goal.loop-at-preserved
loop-at-preserved c =
    let l = c.loop-at in
    let a = c.args in
    let part = c.in_ok-part.part in
    let next = c.in_ok-part.next in
    let xs = lent l.cells l.marks in
    let ys = lent c.insert.new.cells c.insert.new.marks in
    let r = accepted_call c.insert.ensures c.in_ok-insert.was in
    let j = c.insert.auto.cells in
    let k = c.insert.auto.marks in
    let many : cells_lent ys ≡ cells_lent xs = rw (j, k) in
    let fits = subst (λ (n : ℕ). Fits (sheet_then l.sheet part) n) (sym many) (fits_after l.sheet part (cells_lent xs) r.0) in
    let ran = l.invariant.same ∙ part_accepted a.s.now l.at l.sheet xs part next c.loop-at-test.true (card_read (goal.at.loop-at-preserved c).In_ok-part) r.0 in
    record {
      long = (j ∙ l.invariant.long.0, k ∙ l.invariant.long.1);
      fits = subst (λ (z : Sheet). Fits z (cells_lent ys)) (sym r.1) fits;
      same =
          ran
          ∙ ap (λ (z : Sheet). all_part_cards a.s.now next z (lent_then l.sheet part xs)) (sym r.1)
          ∙ ap (λ (zs : Lent). all_part_cards a.s.now next c.insert.new.sheet zs) (sym r.2);
    }

pub returns : goal.returns
returns c =
    let l = c.loop-at in
    let xs = lent l.cells l.marks in
    stopped_at_lem _ _ _ l.sheet xs _ (l.invariant.same ∙ cards_end c.args.s.now l.at l.sheet xs c.loop-at-test.false) refl (omega (arith, l.invariant.fits.parts)) (λ e. l.invariant.fits)
