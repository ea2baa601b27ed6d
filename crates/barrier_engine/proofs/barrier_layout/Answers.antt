-- What C is told is that of the answer.
use Rattle.std.proofs.Common.{ap, ◌∙◌}
use Rattle.replies.specs.Interface.{layout_told}
use Rattle.replies.proofs.ToldLaws.{layout_same}
use Rattle.barrier_engine.proofs.barrier_layout.Goals as goal

pub returns : goal.returns
returns c = c.from.ensures ∙ ap layout_told c.layout.ensures ∙ layout_same _
