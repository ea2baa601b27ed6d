-- Each turn moves one hazard up.
use Rattle.std.proofs.Common.{◌≡◌, ◌+◌, ◌-◌, arith, rules}
use Rattle.open_memory.proofs.WalkLaws.{up_start, up_next, up_end}
use Rattle.open_memory.proofs.places.put_in.Goals as goal

pub loop-i-init : goal.loop-i-init
loop-i-init c = up_start c.args.job (search rules) c.requires.zeros_after c.requires.count_bound c.args.at c.requires.at_le_count c.args.new

pub loop-i-preserved : goal.loop-i-preserved
loop-i-preserved c =
    let own : c.loop-i.i - 1 + 1 ≡ c.loop-i.i = omega (arith, c.loop-i-test.true) in
    rw own (up_next c.args.job (search rules) c.requires.zeros_after c.requires.count_bound c.args.at c.requires.at_le_count c.args.new c.loop-i.invariant
    (omega arith))

pub returns : goal.returns
returns c =
    rw c.with_count.ensures (up_end c.args.job (search rules) c.requires.zeros_after c.requires.count_bound c.args.at c.requires.at_le_count c.args.new
    c.loop-i.invariant c.loop-i-test.false)
