-- Refused memory has no schedule.
use Rattle.schedule.specs.Plan.{bytes_written}
use Rattle.open_job.proofs.calls.schedule.Goals as goal

pub returns-else-keeps_rules-clause-reply : goal.returns-else-keeps_rules-clause-reply
unfolding bytes_written
returns-else-keeps_rules-clause-reply c = rw (← c.keeps_rules.ensures, c.if-keeps_rules.false)
