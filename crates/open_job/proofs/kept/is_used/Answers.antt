-- `open_job::kept::is_used` meets its contract: its test is the definition's. Assumes nothing.
use Rattle.std.proofs.Common.{refl}
use Rattle.open_job.specs.States.{is_used}
use Rattle.open_job.proofs.kept.is_used.Goals as goal

pub returns : goal.returns
unfolding is_used
returns c = refl
