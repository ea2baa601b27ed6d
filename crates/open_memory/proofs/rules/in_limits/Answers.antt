-- `open_memory::rules::in_limits` meets its contract: the tests of the definition. Assumes nothing.
use Rattle.std.proofs.Common.{refl}
use Rattle.open_memory.specs.Steps.{in_limits}
use Rattle.open_memory.proofs.rules.in_limits.Goals as goal

pub returns : goal.returns
unfolding in_limits
returns c = refl
