-- The steps are the formula's.
-- Assumes nothing.
use native.Mathlib.Omega.{arith}
use mathlib.Core.Path.{◌∙◌}
use Rattle.approach.specs.Approach.{formula_length}
use Rattle.approach.proofs.ApproachLaws.{sizes}
use Rattle.approach.proofs.FormulaLaws.{ceil_same}
use Rattle.approach.proofs.Approach.formula_length.Goals as goal

pub returns : goal.returns
unfolding formula_length
returns c = c.div_ceil.ensures ∙ ceil_same _ _ (omega (arith, sizes _ _ _ _ _ _ c.requires))
