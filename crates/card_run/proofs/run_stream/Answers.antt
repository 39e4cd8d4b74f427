-- `run_stream` meets its contract: it stops at the settings card, at the open, or where the part cards do.
use Rattle.std.specs.Prelude.{◌≡◌, ℕ, Ok, Err}
use Rattle.std.proofs.Common.{refl, sym, ap, subst, ◌∙◌, arith}
use Rattle.sheet_data.specs.declared.Sheet.{Sheet}
use Rattle.sheet_data.specs.Contents.{contents_of, blank, Fits}
use Rattle.drag_sheet.specs.Planes.{Lent, lent, cells_lent}
use Rattle.drag_sheet.specs.Writing.{whole, rewritten}
use Rattle.drag_sheet.proofs.Verdicts.{never}
use Rattle.cards.specs.Cards.{no_settings}
use Rattle.card_run.specs.Run.{card_of, first_card, run_stopped, Ran, Stopped, stopped_at, all_part_cards}
use Rattle.card_run.proofs.Answers.{refused_open, accepted_open, stream_unread, stream_unopened, stream_opened, stopped_at_lem, fits_open}
use Rattle.card_run.proofs.run_stream.Goals as goal
use Rattle.card_run.proofs.run_stream.Goals.{In-Ok}

pub returns-in-Err : goal.returns-in-Err
returns-in-Err c =
    let e = c.in-Err.e in
    let read = sym c.first_card.ensures ∙ c.in-Err.is in
    stopped_at_lem _ 0 (Err e) (blank no_settings) (lent c.args.cells.now c.args.marks.now) _ (stream_unread c.args.s.now (lent c.args.cells.now c.args.marks.now) (card_of (Err e)) (ap card_of (sym read)) e refl)
    (ap (λ (z : Sheet). record { outcome = Err e; card = 0; sheet = z }) (c.blank.ensures ∙ ap blank c.no_settings.ensures)) (omega arith) (never refl)

-- the settings card was read
card_read : (c : In-Ok) → first_card c.args.s.now ≡ card_of (Ok c.in-Ok.card)
card_read c = ap card_of (sym c.first_card.ensures ∙ c.in-Ok.is)

pub returns-in-Err-opened : goal.returns-in-Err-opened
returns-in-Err-opened c =
    let e = c.in-Err-opened.e in
    let card = card_of (Ok c.in-Ok.card) in
    let r = refused_open c.open-opened.ensures e c.in-Err-opened.is in
    stopped_at_lem _ 0 (Err e) (blank card.settings) (lent c.open-opened.new.cells c.open-opened.new.marks) _
    (stream_unopened c.args.s.now (lent c.args.cells.now c.args.marks.now) card (sym (card_read (goal.at.returns-in-Err-opened c).In-Ok)) e refl r.0 ∙ ap (stopped_at 0 (Err e) (blank card.settings)) (sym r.2))
    (ap (λ (z : Sheet). record { outcome = Err e; card = 0; sheet = z }) r.1) (omega arith) (never refl)

pub run_parts-outcome-requires : goal.run_parts-outcome-requires
run_parts-outcome-requires c =
    let s = c.in-Ok.card.0 in
    let xs = lent c.args.cells.now c.args.marks.now in
    let ys = lent c.open-opened.new.cells c.open-opened.new.marks in
    let r = accepted_open c.open-opened.ensures c.in_default.is in
    let many : cells_lent ys ≡ cells_lent xs = rw (c.open-opened.auto.cells, c.open-opened.auto.marks) in
    subst (λ (z : Sheet). Fits z (cells_lent ys)) (sym r.1) (subst (λ (n : ℕ). Fits (blank s) n) (sym many) (fits_open s (cells_lent xs) r.0))

pub returns : goal.returns
returns c =
    let a = c.args in
    let xs = lent a.cells.now a.marks.now in
    let card = card_of (Ok c.in-Ok.card) in
    let t = c.run_parts-outcome in
    let r = accepted_open c.open-opened.ensures c.in_default.is in
    let ran = stream_opened a.s.now xs card (sym (card_read (goal.at.returns c).In-Ok)) refl r.0 in
    let same =
    ran
    ∙ ap (λ (z : Sheet). all_part_cards a.s.now card.next z (rewritten whole (contents_of (blank card.settings)) xs)) (sym r.1)
    ∙ ap (λ (zs : Lent). all_part_cards a.s.now card.next c.open-opened.result.0 zs) (sym r.2) in
    subst (λ (z : Ran). Stopped z (run_stopped t.result t.new.sheet) (lent t.new.cells t.new.marks)) (sym same) t.ensures
