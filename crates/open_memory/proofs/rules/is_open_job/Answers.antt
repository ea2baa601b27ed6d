-- The header, then the hazard count, then the places.
use Rattle.std.proofs.Common.{◌∙◌, arith}
use borrow.Author.Tests.{lt-leb}
use Rattle.open_memory.proofs.LimitLaws.{state_sound, state_none, state_many}
use Rattle.open_memory.proofs.rules.is_open_job.Goals as goal

pub returns-then-header-le256 : goal.returns-then-header-le256
returns-then-header-le256 c =
    let a = c.args.job in c.places_pass.ensures ∙ state_sound a.header a.header.count a.hazards c.in-Some.limits c.in-Some.ensures (omega arith)

pub returns-else-header-le256 : goal.returns-else-header-le256
returns-else-header-le256 c = let a = c.args.job in state_many a.header a.header.count a.hazards (lt-leb a.header.count 256 (omega arith))

pub returns-in-None : goal.returns-in-None
returns-in-None c = let a = c.args.job in state_none a.header a.header.count a.hazards c.in-None.ensures
