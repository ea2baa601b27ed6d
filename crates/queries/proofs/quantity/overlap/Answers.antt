-- `queries::quantity::overlap`: std's words are ours. Assumes nothing.
use Rattle.std.proofs.Common.{arith}
use Rattle.std.proofs.lemmas.Grind.{common_steps}
use Rattle.queries.specs.Walk.{overlap}
use Rattle.queries.proofs.quantity.overlap.Goals as goal

pub returns : goal.returns
unfolding overlap
returns c = grind (arith, common_steps)
