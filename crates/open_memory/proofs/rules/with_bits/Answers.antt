-- `open_memory::rules::with_bits` meets its contract. Assumes nothing.
use Rattle.open_memory.specs.Steps.{with_bits}
use Rattle.open_memory.proofs.rules.with_bits.Goals as goal

pub returns : goal.returns
unfolding with_bits
returns c = rw c.rest_of.ensures
