-- Each branch by the tests that lead there.
use Rattle.std.proofs.Common.{arith}
use borrow.Author.Tests.{le-leb, lt-leb, eq-eqb, ne_eqb}
use Rattle.open_job.specs.Parts.{hazards_held}
use Rattle.open_job.proofs.kept.hazards_held.Goals as goal

pub returns-then-count-le256 : goal.returns-then-count-le256
unfolding hazards_held
returns-then-count-le256 c = rw (eq-eqb c.args.used 1 (omega arith), le-leb c.args.count 256 (omega arith))

pub returns-else-count-le256 : goal.returns-else-count-le256
unfolding hazards_held
returns-else-count-le256 c = rw (eq-eqb c.args.used 1 (omega arith), lt-leb c.args.count 256 (omega arith))

pub returns-then-used-count : goal.returns-then-used-count
unfolding hazards_held
returns-then-used-count c = rw (ne_eqb c.args.used 1 (λ e. omega arith), c.if-used-count.true)

pub returns-else-used-count : goal.returns-else-used-count
unfolding hazards_held
returns-else-used-count c = rw (ne_eqb c.args.used 1 (λ e. omega arith), c.if-used-count.false)
