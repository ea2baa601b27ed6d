-- The end of job bytes meets its contract: what is left over is 7. Assumes nothing.
use Rattle.job.proofs.RestLaws.{rest_over, rest_done}
use Rattle.job.proofs.read.ReaderHazards.end.Goals as goal

pub returns-then-self : goal.returns-then-self
returns-then-self c = λ h got. rest_over h got c.args.self.now.bytes.now c.args.self.now.at c.if-self.true

pub returns : goal.returns
returns c = λ h got. rest_done h got c.args.self.now.bytes.now c.args.self.now.at c.if-self.false
