-- The model that a list of calls is held against: the copy that is kept by hand (docs/REFERENCE.md, Hand copy). It is fed the calls' arguments and the number
-- of cells lent, and nothing else. It holds contents: the settings with their columns, the parts in order, and the nozzle diameter, "which the hand copy keeps too".
use Rattle.aero_error.specs.Checks.{◌then◌, Check}
use Rattle.std.specs.Prelude.{List, [], ◌∷◌, map, ℕ, length}
use Rattle.std.proofs.Math.Option.{Option}
use Rattle.elementary.specs.Constants.{0·0}
use Rattle.aero_error.specs.Told.{Told, told}
use Rattle.sheet_data.specs.declared.Settings.{Settings}
use Rattle.sheet_data.specs.Contents.{Contents}
use Rattle.sheet_data.specs.Tests.{settings_test, sheet_test}
use Rattle.drag_sheet.specs.Build.{trial}
use Rattle.drag_sheet.specs.Writing.{chosen}
use Rattle.drag_sheet.specs.Calls.{Call, applied, arguments_test}

-- "Open is refused where the order below refuses it", with the number of cells lent
abbrev pub open_decision : ℕ → Settings → Check
open_decision cells s = settings_test s cells

-- "an accepted one gives its settings and no parts"; "open starts coasting"
abbrev pub opened_model : Settings → Contents
opened_model s = record { settings = s; parts = []; nozzle = 0·0 }

-- "Any other call is refused where the order below refuses it with the copy as the sheet given", and "Rows are tried on the copy as the call would leave it":
-- the same line for every call, all rows of one build of the contents applied
abbrev pub model_decision : ℕ → Call → Contents → Check
model_decision cells call m =
    sheet_test m cells (length m.parts)
    then arguments_test call m.settings (length m.parts)
    then trial (applied call m)

-- "and the copy then stays as it was"
abbrev pub moved : ℕ → Call → Contents → Contents
moved cells call m = chosen (model_decision cells call m) m (applied call m)

-- the model after a list of calls
unfoldable pub model_after : ℕ → List Call → Contents → Contents
model_after cells [] m = m
model_after cells (c ∷ cs) m = model_after cells cs (moved cells c m)

-- its decisions, call by call
unfoldable pub model_decisions : ℕ → List Call → Contents → List Check
model_decisions cells [] m = []
model_decisions cells (c ∷ cs) m = model_decision cells c m ∷ model_decisions cells cs (moved cells c m)

-- its answers: "accepted, or the refusal's number, with 1's code and value"
abbrev pub model_answers : ℕ → List Call → Contents → List (Option Told)
model_answers cells calls m = map told (model_decisions cells calls m)
