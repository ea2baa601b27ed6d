-- What C is told is that of the answer.
use Rattle.std.proofs.Common.{ap, ◌∙◌}
use Rattle.replies.specs.Interface.{quantities_told}
use Rattle.replies.proofs.ToldLaws.{quantities_same}
use Rattle.barrier_engine.proofs.barrier_quantities.Goals as goal

pub returns : goal.returns
returns c = c.from.ensures ∙ ap quantities_told c.quantities.ensures ∙ quantities_same _
