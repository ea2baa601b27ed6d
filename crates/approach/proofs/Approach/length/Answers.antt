-- The formula with the chosen b is the rule.
-- Assumes nothing.
use mathlib.Core.Path.{◌∙◌}
use Rattle.approach.proofs.ApproachLaws.{flare_domain, flare_length}
use Rattle.approach.proofs.Approach.length.Goals as goal

pub formula_length-requires : goal.formula_length-requires
formula_length-requires c = rw c.flare_across-across.ensures (flare_domain _ _ _ _ _ _ c.requires)

pub returns : goal.returns
returns c = c.formula_length.ensures ∙ rw c.flare_across-across.ensures (flare_length _ _ _ _ _ _ c.requires)
