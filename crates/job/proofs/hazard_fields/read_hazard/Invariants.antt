-- `job::hazard_fields::read_hazard`: the numbers read stand in the array, and what is left of the six gives the answer.
-- Assumes nothing.
use Rattle.std.proofs.Common.{◌≡◌}
use Rattle.job.proofs.HazardLaws.{HazardLeft}
use Rattle.job.proofs.hazard_fields.read_hazard.Given as goal

abbrev pub invariant-loop-k : goal.invariant-loop-k
invariant-loop-k l = (l.reader.bytes.now ≡ l.s) × HazardLeft l.header l.index l.s l.first l.numbers l.reader.at l.k
