-- The header that is read, and no hazard stands.
use Rattle.std.proofs.Common.{sym}
use Rattle.open_job.proofs.CallLaws.{opening_read}
use Rattle.open_job.proofs.calls.open.Goals as goal

pub returns-clause-opened_job : goal.returns-clause-opened_job
returns-clause-opened_job c = rw c.read_opening.ensures (sym (opening_read _))
