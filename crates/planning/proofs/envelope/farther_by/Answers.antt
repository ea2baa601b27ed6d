-- `planning::envelope::farther_by` meets its contract. Assumes nothing.
use Rattle.std.proofs.Common.{sym, ◌∙◌}
use Rattle.planning.specs.Envelope.{farther}
use Rattle.planning.proofs.envelope.farther_by.Goals as goal

pub returns-then-is_adjacent : goal.returns-then-is_adjacent
unfolding farther
returns-then-is_adjacent c = rw (sym c.is_adjacent.ensures ∙ c.if-is_adjacent.true)

pub returns-else-is_adjacent : goal.returns-else-is_adjacent
unfolding farther
returns-else-is_adjacent c = rw (sym c.is_adjacent.ensures ∙ c.if-is_adjacent.false)
