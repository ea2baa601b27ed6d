-- `planning::envelope::adjacent_traffic` meets its contract: forward where it is adjacent, else opposite. Assumes nothing.
use Rattle.std.proofs.Common.{sym, ◌∙◌}
use Rattle.planning.specs.Envelope.{adjacent_traffic}
use Rattle.planning.proofs.envelope.adjacent_traffic.Goals as goal

pub returns-then-is_adjacent : goal.returns-then-is_adjacent
unfolding adjacent_traffic
returns-then-is_adjacent c = rw (sym c.is_adjacent.ensures ∙ c.if-is_adjacent.true)

pub returns-else-is_adjacent : goal.returns-else-is_adjacent
unfolding adjacent_traffic
returns-else-is_adjacent c = rw (sym c.is_adjacent.ensures ∙ c.if-is_adjacent.false)
