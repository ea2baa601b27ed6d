-- What C is told is that of the answer.
use Rattle.std.proofs.Common.{ap, ◌∙◌}
use Rattle.replies.specs.Interface.{corners_told}
use Rattle.replies.proofs.ToldLaws.{corners_same}
use Rattle.barrier_engine.proofs.barrier_corners.Goals as goal

pub returns : goal.returns
returns c = c.from.ensures ∙ ap corners_told c.corners.ensures ∙ corners_same _
