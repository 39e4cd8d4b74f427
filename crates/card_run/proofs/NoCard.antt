-- What a stream of no bytes comes to: the sheet of its settings with no parts. Every other stream comes to what it came to when a settings card was asked of each.
use Rattle.std.specs.Prelude.{Ok}
use mathlib.Core.Path.{◌≡◌, refl, sym, ap, subst, ◌∙◌}
use mathlib.Core.List.{List, [], ◌∷◌, ◌++◌}
use Prim.Native.Nat.{ℕ, ◌≤◌, ◌<◌}
use native.Mathlib.Omega.{arith}
use lib.ListN.{length, drop}
use Rattle.elementary.specs.Constants.{0·0}
use lib.Ieee.{le, of_bits}
use borrow.Author.Tests.{le-ltb}
use Rattle.elementary.specs.Tests.{between}
use Rattle.aero_error.specs.Checks.{dimension, up_to}
use Rattle.sheet_data.specs.Layout.{needed}
use Rattle.sheet_data.specs.Contents.{contents_of, blank}
use Rattle.sheet_data.specs.Tests.{roughnesses_test, columns_test, settings_test}
use Rattle.drag_sheet.specs.Planes.{Plane, cell_plane, mark_plane, Lent, cells_lent}
use Rattle.drag_sheet.specs.Writing.{whole, overwritten, rewritten}
use Rattle.drag_sheet.specs.Lists.{Matches}
use Rattle.drag_sheet.proofs.Overwritten.{keeps}
use Rattle.cards.specs.Fields.{eight_bytes, numbers_at}
use Rattle.cards.specs.Cards.{columns_at, finishes_at, settings_fields, settings_at}
use Rattle.card_run.specs.Run.{FirstCard, card_of, Ran, stopped_at, no_card, stream_from, stream_of}
use Rattle.card_run.specs.Said.{parts_said, said}
use Rattle.card_run.proofs.Stream.{cards_end, outcome}
use Rattle.card_run.proofs.Answers.{first_of_some}
use Rattle.card_run.proofs.Built.{stream_built}

-- the bytes of 1, low byte first, and of a settings card with D = 1 and B = 1 alone
abbrev one : List ℕ
one = 0 ∷ 0 ∷ 0 ∷ 0 ∷ 0 ∷ 0 ∷ 0xf0 ∷ 0x3f ∷ []

abbrev pub card_05 : List ℕ
card_05 = 5 ∷ one ++ one

-- no columns need no cells
none_needed : needed 1 0 ≡ 0
none_needed = omega arith

module _ (xs : Lent) where
  -- these settings are accepted, however many cells there are, and nothing is written
  accepted : (cells : ℕ) → settings_test no_card.settings cells ≡ Ok tt
  unfolding settings_test roughnesses_test columns_test between dimension up_to le of_bits
  accepted cells = rw (le-ltb cells (needed 1 0) (omega arith))

  -- in either plane
  plane_unwritten : {A : Type 0} (P : Plane A) (ps : List A) → overwritten P whole (contents_of (blank no_card.settings)) ps ≡ ps
  plane_unwritten P ps =
      let c = contents_of (blank no_card.settings) in
      subst (λ (n : ℕ). drop n (overwritten P whole c ps) ≡ drop n ps) none_needed (keeps P c ps (omega arith) whole tt).past

  unwritten : rewritten whole (contents_of (blank no_card.settings)) xs ≡ xs
  unwritten = λ i. record { cells = plane_unwritten cell_plane xs.cells i; marks = plane_unwritten mark_plane xs.marks i }

  alone : (s : List ℕ) (card : FirstCard) → card.outcome ≡ Ok tt → card.settings ≡ no_card.settings → length s ≤ card.next
      → stream_from s card xs ≡ stopped_at 1 (Ok tt) (blank no_card.settings) xs
  alone s card o e h = rw (o, e, accepted (cells_lent xs), unwritten) (cards_end s card.next (blank no_card.settings) xs h)

  -- a sheet of these settings with no parts, and the cells as they were
  pub no_bytes : stream_of [] xs ≡ stopped_at 1 (Ok tt) (blank no_card.settings) xs
  unfolding stream_of
  no_bytes = alone [] no_card refl refl (omega arith)

  -- so it is one build from nothing of these settings and no parts
  pub no_bytes_built : Matches (blank no_card.settings) xs (record { settings = no_card.settings; parts = []; nozzle = 0·0 })
  unfolding parts_said
  no_bytes_built =
      subst (λ (r : Ran). Matches r.run.sheet r.lent (said [])) no_bytes (stream_built [] xs (ap outcome no_bytes))

  -- a card that says D = 1 and B = 1 and nothing else, `05`, comes to the same
  pub as_card : stream_of [] xs ≡ stream_of card_05 xs
  unfolding stream_of settings_at settings_fields columns_at finishes_at numbers_at eight_bytes
  as_card = no_bytes ∙ sym (alone card_05 (card_of (settings_at card_05 0)) refl refl (omega arith))

  -- every stream that has a byte: as if there were no other
  pub other_streams : (s : List ℕ) → 0 < length s → stream_of s xs ≡ stream_from s (card_of (settings_at s 0)) xs
  unfolding stream_of
  other_streams s h = rw (first_of_some s h)
