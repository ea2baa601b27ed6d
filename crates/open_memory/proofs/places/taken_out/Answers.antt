-- Each turn moves one hazard down.
use Rattle.std.proofs.Common.{arith, rules}
use Rattle.open_memory.proofs.WalkLaws.{down_start, down_next, down_end}
use Rattle.open_memory.proofs.places.taken_out.Goals as goal

pub loop-i-init : goal.loop-i-init
loop-i-init c = down_start c.args.job (search rules) c.requires.zeros_after c.requires.count_bound c.args.at c.requires.at_lt_count

pub loop-i-preserved : goal.loop-i-preserved
loop-i-preserved c =
    down_next c.args.job (search rules) c.requires.zeros_after c.requires.count_bound c.args.at c.requires.at_lt_count c.loop-i.invariant (omega arith)

pub returns : goal.returns
returns c =
    rw c.with_count.ensures (down_end c.args.job (search rules) c.requires.zeros_after c.requires.count_bound c.args.at c.requires.at_lt_count
    c.loop-i.invariant (omega arith))
