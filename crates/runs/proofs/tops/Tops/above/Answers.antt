-- A sum of six tests, or none.
-- Assumes nothing.
use Rattle.std.proofs.Common.{arith, rules}
use Rattle.runs.specs.Sweep.{above_to}
use Rattle.runs.proofs.TopLaws.{above_none}
use Rattle.runs.proofs.tops.Tops.above.Goals as goal

pub returns-then-self-t : goal.returns-then-self-t
returns-then-self-t c =
    omega (arith, above_none c.args.self.now.ends c.args.self.now.falling c.args.t 6 c.if-self-t.true)

pub returns : goal.returns
unfolding above_to
returns c = search rules
