-- `open_memory::rules::last_in_range` meets its contract, by kind. Assumes nothing.
use Rattle.open_memory.proofs.RangeLaws.{last_of_two, last_of_one}
use Rattle.open_memory.proofs.rules.last_in_range.Goals as goal

pub returns-then-h-eq2 : goal.returns-then-h-eq2
returns-then-h-eq2 c = last_of_two c.args.h c.if-h-eq2.true

pub returns-else-h-eq2 : goal.returns-else-h-eq2
returns-else-h-eq2 c = last_of_one c.args.h c.if-h-eq2.false
