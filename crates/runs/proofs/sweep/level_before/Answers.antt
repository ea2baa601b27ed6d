-- Assumes nothing.
use Rattle.std.proofs.Common.{sym, arith}
use Rattle.runs.proofs.PlaceLaws.{level_last_of, level_first}
use Rattle.runs.proofs.sweep.level_before.Goals as goal

pub returns-then-k-eq0 : goal.returns-then-k-eq0
returns-then-k-eq0 c = λ starts. sym (level_first starts c.args.levels.now c.args.k c.if-k-eq0.true)

pub returns : goal.returns
returns c = λ starts. sym (level_last_of starts c.args.levels.now c.args.k (omega arith))
