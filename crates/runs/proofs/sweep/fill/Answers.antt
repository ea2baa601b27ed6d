-- Assumes nothing.
use Rattle.std.proofs.Common.{refl, arith, le-ltb, lt-ltb}
use Rattle.runs.specs.Sweep.{filled_from}
use Rattle.runs.proofs.sweep.fill.Goals as goal

pub returns-then-p-v : goal.returns-then-p-v
unfolding filled_from
returns-then-p-v c = (c.set_from.ensures.0, rw (lt-ltb c.args.p.level.number c.args.v.number c.if-p-v.true) c.set_from.ensures.1)

pub returns : goal.returns
unfolding filled_from
returns c = (omega arith, rw (le-ltb c.args.p.level.number c.args.v.number c.if-p-v.false) refl)
