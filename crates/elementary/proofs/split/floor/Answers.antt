-- `elementary::split::floor` meets its contract.
use mathlib.Core.Logic.{inl, inr}
use mathlib.Core.Path.{◌≡◌, sym, ap, ◌∙◌}
use lib.Dec.{T}
use lib.Ieee.{binary64, fits}
use Rattle.elementary.specs.Split.{floor_of}
use Rattle.elementary.proofs.Floats.{true_t}
use Rattle.elementary.proofs.Value.{floor_parts, floor_is, few}
use Rattle.elementary.proofs.split.floor.Goals as goal
use Rattle.elementary.proofs.split.floor.Goals.{After-split}

fits_at : (c : After-split) → T (fits binary64 c.args.x)
fits_at c = true_t c.well_formed.0.1

-- the floor, by the parts that `split` gave
by_parts : (c : After-split) → floor_of c.args.x ≡ floor_parts c.split.result
by_parts c = floor_is c.args.x (fits_at c) c.requires ∙ ap floor_parts (sym c.split.ensures)

pub floor_size-requires : goal.floor_size-requires
floor_size-requires c =
    let x = c.args.x in
    let e = sym c.split.ensures ∙ c.in-Finite.is in
    few x (fits_at (goal.at.floor_size-requires c).After-split) e c.requires

pub returns-in-Nan : goal.returns-in-Nan
returns-in-Nan c =
    let parts = by_parts (goal.at.returns-in-Nan c).After-split in
    elim c.in-Nan.is [ inl e ↦ rw (parts, e) | inr e ↦ rw (parts, e.1) ]

pub returns-in-Zero : goal.returns-in-Zero
returns-in-Zero c = rw (by_parts (goal.at.returns-in-Zero c).After-split, c.in-Zero.is)

pub returns-in-Finite : goal.returns-in-Finite
returns-in-Finite c = rw (by_parts (goal.at.returns-in-Finite c).After-split, c.in-Finite.is, ← c.floor_size.ensures)
