-- Demand 3, stated: an open with whatever settings, cells and marks, and from an accepted one every list of replace, insert, remove, column, ignite and burnout
-- calls, refused ones anywhere in it.
use Rattle.std.specs.Prelude.{◌≡◌, List, [], ◌∷◌, map, length, take, drop, Ok, Err}
use Rattle.aero_error.specs.Checks.{Check}
use Rattle.aero_error.specs.declared.AeroError.{AeroError}
use Rattle.aero_error.specs.Told.{told}
use Rattle.sheet_data.specs.declared.Settings.{Settings}
use Rattle.sheet_data.specs.declared.Sheet.{Sheet}
use Rattle.sheet_data.specs.Layout.{most_parts, most_columns, needed}
use Rattle.sheet_data.specs.Contents.{Contents, contents_of, blank}
use Rattle.drag_sheet.specs.Planes.{cell_plane, mark_plane, Lent, cells_lent}
use Rattle.drag_sheet.specs.Calls.{Answer, Call, Called}
use Rattle.drag_sheet.specs.Build.{trial, build}
use Rattle.drag_sheet.specs.Model.{open_decision, opened_model, model_after, model_answers}

-- What holds of every sheet value that a program can make: the arrays of its columns and of its design have their lengths.
pub record Arrays (sheet : Sheet) : Type 0 where
  pub machs : length sheet.settings.machs ≡ most_columns
  pub reynolds : length sheet.settings.reynolds ≡ most_columns
  pub slots : length sheet.design.parts ≡ most_parts

-- The program's calls one after the other, each given the sheet, the cells and the marks that the one before left. Every step is what that function's own contract says (`Called`).
-- Sequence sheet xs calls sheet' ys outcomes: from the sheet and its lent buffers to the sheet' and its buffers, with the outcomes.
pub data Sequence : Sheet → Lent → List Call → Sheet → Lent → List Check → Type 0 where
  stop : {sheet : Sheet} {xs : Lent} → Sequence sheet xs [] sheet xs []
  go : {sheet last : Sheet} {xs ys zs : Lent} {call : Call} {calls : List Call} {r : Answer} {outcomes : List Check}
      → Called call sheet xs r ys → Sequence r.sheet ys calls last zs outcomes → Sequence sheet xs (call ∷ calls) last zs (r.outcome ∷ outcomes)

-- A sheet and its buffers are what the model says: its rows can be built, cells and marks are one build of it from nothing, and the settings and the design are its own.
pub record Matches (sheet : Sheet) (xs : Lent) (m : Contents) : Type 0 where
  pub tried : trial m ≡ Ok tt
  pub rows : take (needed m.settings.finishes m.settings.count) xs.cells ≡ build cell_plane m
  pub marks : take (needed m.settings.finishes m.settings.count) xs.marks ≡ build mark_plane m
  pub contents : contents_of sheet ≡ m
  pub count : sheet.design.count ≡ length m.parts

-- what lies past the rows of these settings is what was lent there
pub record PastRows (s : Settings) (lent xs : Lent) : Type 0 where
  pub cells : drop (needed s.finishes s.count) xs.cells ≡ drop (needed s.finishes s.count) lent.cells
  pub marks : drop (needed s.finishes s.count) xs.marks ≡ drop (needed s.finishes s.count) lent.marks

-- After a list of calls the sheet and the buffers match the model, every call gave the model's answer, and past the rows stands what was lent.
pub record Agrees (lent : Lent) (start : Contents) (calls : List Call) (sheet : Sheet) (xs : Lent) (outcomes : List Check) : Type 0 where
  pub matches : Matches sheet xs (model_after (cells_lent lent) calls start)
  pub answers : map told outcomes ≡ model_answers (cells_lent lent) calls start
  pub beyond : PastRows start.settings lent xs

-- Of an open with whatever settings, cells and marks, its answer r and the buffers ys that it left: it is answered as the model answers it; refused, it hands back its
-- settings with no parts and leaves both buffers; accepted, every list of calls that follows agrees with the model.
pub record FromOpen (s : Settings) (lent : Lent) (r : Answer) (ys : Lent) : Type 0 where
  pub answer : told r.outcome ≡ told (open_decision (cells_lent lent) s)
  pub refused : (e : AeroError) → r.outcome ≡ Err e → (r.sheet ≡ blank s) × (ys ≡ lent)
  pub accepted : r.outcome ≡ Ok tt → {calls : List Call} {last : Sheet} {zs : Lent} {outcomes : List Check}
      → Sequence r.sheet ys calls last zs outcomes → Agrees lent (opened_model s) calls last zs outcomes
