-- The rows, the settings and the design after every list of calls are the model's, and so is every answer. It takes of the program nothing but its contracts, and
-- that a sheet's arrays have their lengths.
use Rattle.std.specs.Prelude.{Ok, Err}
use Rattle.aero_error.specs.Checks.{◌then◌, Check}
use mathlib.Core.Path.{◌≡◌, refl, sym, ap, ◌∙◌, subst}
use mathlib.Core.List.{List, ◌++◌, map}
use Prim.Native.Nat.{ℕ, ◌≤◌}
use native.Mathlib.Omega.{arith}
use lib.ListN.{length, drop, length-set, length-append, length-drop}
use lib.Seq.{length-take-le}
use Rattle.aero_error.specs.declared.AeroError.{AeroError}
use Rattle.aero_error.specs.CheckLaws.{then_assoc}
use Rattle.aero_error.specs.Told.{told}
use Rattle.sheet_data.specs.declared.Settings.{Settings}
use Rattle.sheet_data.specs.declared.Sheet.{Sheet}
use Rattle.sheet_data.specs.Layout.{most_parts, most_columns, needed}
use Rattle.sheet_data.specs.Contents.{contents_of, parts_of, blank}
use Rattle.sheet_data.specs.Tests.{settings_test, sheet_test}
use Rattle.drag_sheet.specs.Calls.{Answer, Call, replace, insert, remove, set_column, ignite, burnout, arguments_test, scope, after, call_test, decision, sheet_with, answered, Called, Opened}
use Rattle.drag_sheet.specs.Planes.{Plane, cell_plane, mark_plane, Lent, cells_lent}
use Rattle.drag_sheet.specs.Build.{trial}
use Rattle.drag_sheet.specs.Writing.{whole, overwritten, rewritten}
use Rattle.drag_sheet.specs.Model.{opened_model, model_decision, moved, model_after, model_decisions}
use Rattle.drag_sheet.specs.Lists.{Sequence, stop, go, Arrays, Matches, Agrees, FromOpen}
use Rattle.drag_sheet.proofs.Overwritten.{Holds, holds_build, whole_holds, keeps}
use Rattle.drag_sheet.proofs.Answers.{settings_facts, call_facts, Bounds, contents_with, blank_tried, same_layout}
use Rattle.drag_sheet.proofs.Duties.{narrow, call_holds}
use Rattle.drag_sheet.proofs.CallLaws.{Ended, accepted, refusal, ended, Accepted, shown, left, parts_few}

-- ---- one call

-- what a plane of a sheet keeps through every call; N is the number of cells needed, `given` the plane as it was lent
record KeptPlane {A : Type 0} (P : Plane A) (given : List A) (N : ℕ) (sheet : Sheet) (xs : List A) : Type 0 where
  pub holds : Holds P (contents_of sheet) xs
  pub long : length xs ≡ length given
  pub past : drop N xs ≡ drop N given

-- and what a sheet and both buffers do
record Kept (given : Lent) (N : ℕ) (sheet : Sheet) (xs : Lent) : Type 0 where
  pub cells : KeptPlane cell_plane given.cells N sheet xs.cells
  pub marks : KeptPlane mark_plane given.marks N sheet xs.marks
  pub tried : trial (contents_of sheet) ≡ Ok tt
  pub need : needed sheet.settings.finishes sheet.settings.count ≡ N
  pub arrays : Arrays sheet
  pub few : sheet.design.count ≤ most_parts

module _ (given : Lent) (N : ℕ) (sheet : Sheet) (xs : Lent) (k : Kept given N sheet xs) where
  parts_long : length (parts_of sheet.design) ≡ sheet.design.count
  parts_long = length-take-le sheet.design.count sheet.design.parts (omega (arith, k.few, k.arrays.slots))

  -- as many cells as were lent
  as_many : cells_lent xs ≡ cells_lent given
  as_many = rw (k.cells.long, k.marks.long)

  -- the program and the model decide alike: by the rows that the call writes, and by all rows
  same_decision : (call : Call) → decision call sheet (cells_lent xs) ≡ model_decision (cells_lent given) call (contents_of sheet)
  same_decision call =
      let s = sheet.settings in
      let n = sheet.design.count in
      by (call_test call sheet (cells_lent xs)) refl
      ∙ then_assoc (sheet_test (contents_of sheet) (cells_lent xs) n) (arguments_test call s n) (trial (after call sheet))
      ∙ rw (parts_long, as_many)
    where
      by : (d : Check) → call_test call sheet (cells_lent xs) ≡ d → decision call sheet (cells_lent xs) ≡ (call_test call sheet (cells_lent xs) then trial (after call sheet))
      by (Err e) p = rw p
      by (Ok _) p =
          let f = call_facts call sheet (cells_lent xs) p in
          rw p (narrow call (contents_of sheet) (subst (Bounds call sheet.settings) (sym parts_long) f.within) k.tried)

arrays_after : (call : Call) (sheet : Sheet) → Arrays sheet → length (after call sheet).parts ≤ most_parts → Arrays (sheet_with (after call sheet) sheet)
arrays_after call sheet z few = record { machs = machs call; reynolds = reynolds call; slots = slots }
  where
    machs : (call : Call) → length (after call sheet).settings.machs ≡ most_columns
    machs (replace place p) = z.machs
    machs (insert place p) = z.machs
    machs (remove place) = z.machs
    machs (set_column k M R) = length-set sheet.settings.machs k M ∙ z.machs
    machs (ignite n) = z.machs
    machs burnout = z.machs

    reynolds : (call : Call) → length (after call sheet).settings.reynolds ≡ most_columns
    reynolds (replace place p) = z.reynolds
    reynolds (insert place p) = z.reynolds
    reynolds (remove place) = z.reynolds
    reynolds (set_column k M R) = length-set sheet.settings.reynolds k R ∙ z.reynolds
    reynolds (ignite n) = z.reynolds
    reynolds burnout = z.reynolds

    slots : length ((after call sheet).parts ++ drop (length (after call sheet).parts) sheet.design.parts) ≡ most_parts
    slots = simp (length-append, length-drop) (omega (arith, z.slots))

-- a plane through an accepted call
plane_kept : {A : Type 0} (P : Plane A) (given : List A) (N : ℕ) (sheet : Sheet) (xs : Lent) (ps : List A) (call : Call) → Accepted call sheet xs → needed sheet.settings.finishes sheet.settings.count ≡ N
    → KeptPlane P given N sheet ps → KeptPlane P given N (sheet_with (after call sheet) sheet) (overwritten P (scope call (after call sheet)) (after call sheet) ps)
plane_kept P given N sheet xs ps call a need k =
    let new = after call sheet in
    let l = left P call sheet xs ps a k.holds.room in
    record {
      holds = rw (contents_with new sheet) (call_holds P call (contents_of sheet) ps a.within a.few k.holds);
      long = l.long ∙ k.long;
      past = subst (λ n. drop n (overwritten P (scope call new) new ps) ≡ drop n ps) need l.past ∙ k.past;
    }

kept : (given : Lent) (N : ℕ) (sheet : Sheet) (xs : Lent) (call : Call) → Kept given N sheet xs → decision call sheet (cells_lent xs) ≡ Ok tt
    → Kept given N (sheet_with (after call sheet) sheet) (rewritten (scope call (after call sheet)) (after call sheet) xs)
kept given N sheet xs call k p =
    let a = shown call sheet xs k.arrays.slots p in
    let w = same_layout call (contents_of sheet) in
    let new = after call sheet in
    let few = parts_few call (contents_of sheet) a.within a.few in
    let need : needed new.settings.finishes new.settings.count ≡ needed sheet.settings.finishes sheet.settings.count = rw (w.finishes, w.columns) refl in
    record {
      cells = plane_kept cell_plane given.cells N sheet xs xs.cells call a k.need k.cells;
      marks = plane_kept mark_plane given.marks N sheet xs xs.marks call a k.need k.marks;
      tried = rw (contents_with new sheet) (sym (narrow call (contents_of sheet) a.within k.tried) ∙ a.tried);
      need = need ∙ k.need;
      arrays = arrays_after call sheet k.arrays few;
      few = few;
    }

-- what is kept, where the model goes, and the answer
step : (given : Lent) (N : ℕ) (sheet : Sheet) (xs : Lent) (call : Call) (r : Answer) (ys : Lent) → Kept given N sheet xs → Called call sheet xs r ys
    → Kept given N r.sheet ys × (contents_of r.sheet ≡ moved (cells_lent given) call (contents_of sheet)) × (r.outcome ≡ model_decision (cells_lent given) call (contents_of sheet))
step given N sheet xs call r ys k c = by (ended call sheet xs r ys c)
  where
    by : Ended call sheet xs r ys
        → Kept given N r.sheet ys × (contents_of r.sheet ≡ moved (cells_lent given) call (contents_of sheet)) × (r.outcome ≡ model_decision (cells_lent given) call (contents_of sheet))
    by (accepted p a l) = rw (sym (same_decision given N sheet xs k call), p, a, l) (kept given N sheet xs call k p, contents_with (after call sheet) sheet, refl)
    by (refusal e p a l) = rw (sym (same_decision given N sheet xs k call), p, a, l) (k, refl, refl)

-- ---- a list of calls

runs : (given : Lent) (N : ℕ) {sheet last : Sheet} {xs zs : Lent} {calls : List Call} {outcomes : List Check} → Kept given N sheet xs → Sequence sheet xs calls last zs outcomes
    → Kept given N last zs × (contents_of last ≡ model_after (cells_lent given) calls (contents_of sheet)) × (outcomes ≡ model_decisions (cells_lent given) calls (contents_of sheet))
unfolding model_after model_decisions
runs given N k stop = (k, refl, refl)
runs given N {sheet} {last} {xs} k (go {ys} {call} {calls} {r} c rest) =
    let a = step given N sheet xs call r ys k c in
    let b = runs given N a.0 rest in
    (b.0, b.1 ∙ ap (model_after (cells_lent given) calls) a.1, rw (b.2, a.1, a.2))

-- ---- an open

-- open's outcome is its test's, and refused it leaves the buffers
open_outcome : (d : Check) (sheet : Sheet) → (answered d sheet sheet).outcome ≡ d
open_outcome (Ok _) sheet = refl
open_outcome (Err e) sheet = refl

outcome_of : (s : Settings) (xs : Lent) (r : Answer) (ys : Lent) → Opened s xs r ys → r.outcome ≡ settings_test s (cells_lent xs)
outcome_of s xs r ys o = ap (λ (q : Answer). q.outcome) o.answer ∙ open_outcome (settings_test s (cells_lent xs)) (blank s)

open_refused : (s : Settings) (xs : Lent) (r : Answer) (ys : Lent) (e : AeroError) → Opened s xs r ys → r.outcome ≡ Err e → (r.sheet ≡ blank s) × (ys ≡ xs)
open_refused s xs r ys e o f =
    let d = sym (outcome_of s xs r ys o) ∙ f in
    let e : r ≡ record { outcome = Err e; sheet = blank s } = o.answer ∙ rw d in
    (ap (λ (q : Answer). q.sheet) e, o.left ∙ rw d)

-- a plane of a sheet just opened
opened_plane : {A : Type 0} (P : Plane A) (s : Settings) (xs : List A) → needed s.finishes s.count ≤ length xs → KeptPlane P xs (needed s.finishes s.count) (blank s) (overwritten P whole (contents_of (blank s)) xs)
opened_plane P s xs room =
    let c = contents_of (blank s) in
    let g = keeps P c xs room whole tt in
    record { holds = whole_holds P c xs room; long = g.long; past = g.past }

opens : (s : Settings) (xs : Lent) (r : Answer) (ys : Lent) → length s.machs ≡ most_columns → length s.reynolds ≡ most_columns
    → Opened s xs r ys → r.outcome ≡ Ok tt → Kept xs (needed s.finishes s.count) r.sheet ys × (r.sheet ≡ blank s)
opens s xs r ys m n o a =
    let p = sym (outcome_of s xs r ys o) ∙ a in
    let f = settings_facts s (cells_lent xs) p in
    let e : r ≡ record { outcome = Ok tt; sheet = blank s } = o.answer ∙ rw p in
    let l : ys ≡ rewritten whole (contents_of (blank s)) xs = o.left ∙ rw p in
    let k : Kept xs (needed s.finishes s.count) (blank s) (rewritten whole (contents_of (blank s)) xs) = record {
      cells = opened_plane cell_plane s xs.cells (omega (arith, f.room));
      marks = opened_plane mark_plane s xs.marks (omega (arith, f.room));
      tried = blank_tried s;
      need = refl;
      arrays = record { machs = m; reynolds = n; slots = refl };
      few = omega arith;
    } in
    (rw (e, l) k, ap (λ (x : Answer). x.sheet) e)

-- from an accepted open, for every list of calls
agrees : (s : Settings) (xs : Lent) (r : Answer) (ys : Lent) {calls : List Call} {last : Sheet} {zs : Lent} {outcomes : List Check}
    → Kept xs (needed s.finishes s.count) r.sheet ys × (r.sheet ≡ blank s) → Sequence r.sheet ys calls last zs outcomes → Agrees xs (opened_model s) calls last zs outcomes
agrees s xs r ys {calls} {last} {zs} k run =
    let b = runs xs (needed s.finishes s.count) k.0 run in
    let start : contents_of r.sheet ≡ opened_model s = ap contents_of k.1 in
    let model = b.1 ∙ ap (model_after (cells_lent xs) calls) start in
    let matches : Matches last zs (contents_of last) = record {
      tried = b.0.tried;
      rows = holds_build cell_plane (contents_of last) zs.cells b.0.cells.holds;
      marks = holds_build mark_plane (contents_of last) zs.marks b.0.marks.holds;
      contents = refl;
      count = sym (parts_long xs (needed s.finishes s.count) last zs b.0);
    } in
    record {
      matches = subst (Matches last zs) model matches;
      answers = ap (map told) (b.2 ∙ ap (model_decisions (cells_lent xs) calls) start);
      beyond = record { cells = b.0.cells.past; marks = b.0.marks.past };
    }

-- Demand 3. The two lengths are those of the arrays of every `Settings`.
pub lists_agree : (s : Settings) (xs : Lent) (r : Answer) (ys : Lent) → length s.machs ≡ most_columns → length s.reynolds ≡ most_columns
    → Opened s xs r ys → FromOpen s xs r ys
lists_agree s xs r ys m n o = record {
  answer = ap told (outcome_of s xs r ys o);
  refused = λ e f. open_refused s xs r ys e o f;
  accepted = λ a run. agrees s xs r ys (opens s xs r ys m n o a) run;
}
