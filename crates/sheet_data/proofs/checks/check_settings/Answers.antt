-- The cells that `check_settings` asks for can be counted, since finishes and columns are few then.
use borrow.Author.Tests.{ltb-false}
use Rattle.std.proofs.Common.{sym, ◌∙◌}
use Rattle.aero_error.specs.CheckLaws.{unless_passed}
use Rattle.sheet_data.proofs.Held.{held_finishes}
use Rattle.sheet_data.proofs.checks.check_settings.Goals as goal

pub invariant_of-layout : goal.invariant_of-layout
invariant_of-layout c = record { few = ((held_finishes c.args.settings (sym c.check_body.ensures ∙ c.in_ok-check_body.was)).1, ltb-false _ _ (unless_passed _ _ (sym c.unless.ensures ∙ c.in_ok-unless.was))) }
