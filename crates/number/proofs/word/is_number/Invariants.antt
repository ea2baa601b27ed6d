-- `number::word::is_number`: the bytes passed have their top bits, and the rest is judged.
-- Assumes nothing.
use Rattle.std.proofs.Common.{◌≡◌, ◌-◌, ◌&&◌}
use Rattle.number.specs.Word.{is_number}
use Rattle.number.proofs.word.is_number.Given as goal

abbrev pub invariant-loop-k : goal.invariant-loop-k
invariant-loop-k g l = is_number g.row.MORE l.w ≡ (l.tops && is_number (g.row.MORE - l.k) l.rest)
