-- `formula_of` meets its contract; the quotient of 1 and 3 is the parameter that the last formula gives.
use Rattle.shapes.specs.Numbers.{third}
use Rattle.cobalnis.specs.Answers.{formula_of}
use Rattle.cobalnis.proofs.formulas.formula_of.Goals as goal

pub returns-in-21 : goal.returns-in-21
unfolding formula_of
returns-in-21 c = simp (c.in-21.is, c.parameter-in-21.ensures, third.1)
