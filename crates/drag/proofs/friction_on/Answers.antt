-- `friction_on` meets its contract: the turbulent friction is asked for unless the roughness limits.
use mathlib.Core.Path.{◌≡◌, refl, ap, ◌∙◌}
use mathlib.Core.Logic.{◌⊎◌, inl, inr}
use mathlib.Core.Bool.{Bool, true, false, not}
use Rattle.drag.specs.Flows.{flow_of, friction_in, in_flow}
use Rattle.drag.proofs.friction_on.Goals as goal

either : (limited : Bool) → (not limited ≡ true) ⊎ (limited ≡ true)
either true = inr refl
either false = inl refl

pub returns : goal.returns
returns c =
    let a = c.args in
    c.friction_in.ensures
    ∙ ap (friction_in a.wall) (c.flow_of-flow.ensures ∙ ap (λ (limited : Bool). flow_of (not limited) a.reynolds a.mach) c.limits.ensures)
    ∙ in_flow a.wall _ a.reynolds a.mach (either _)
