-- The length that the rule gives, raised.
-- Assumes nothing.
use native.Mathlib.Omega.{arith}
use mathlib.Core.Path.{ap, ◌∙◌}
use Rattle.base.specs.Least.{next_multiple}
use Rattle.approach.specs.Panel.{raised_length}
use Rattle.approach.proofs.ApproachLaws.{length_fits}
use Rattle.approach.proofs.Approach.raised_length.Goals as goal

pub raised_to-requires-clause-length_bound : goal.raised_to-requires-clause-length_bound
raised_to-requires-clause-length_bound c = omega (arith, c.length.ensures, length_fits _ _ _ _ _ _ c.requires.domain)

pub returns : goal.returns
unfolding raised_length
returns c = c.raised_to.ensures ∙ ap (next_multiple c.args.panel) c.length.ensures
