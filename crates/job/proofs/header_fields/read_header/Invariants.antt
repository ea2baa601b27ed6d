-- `job::header_fields::read_header`: the numbers read stand in the array, and what is left of the first fourteen gives the answer. Assumes nothing.
use Rattle.std.proofs.Common.{◌≡◌}
use Rattle.job.proofs.HeaderLaws.{HeaderLeft}
use Rattle.job.proofs.header_fields.read_header.Given as goal

abbrev pub invariant-loop-k : goal.invariant-loop-k
invariant-loop-k l = (l.reader.bytes.now ≡ l.s) × HeaderLeft l.s l.numbers l.reader.at l.k
