-- After some envelopes the sweep stands at the start of the last of them.
-- Assumes nothing.
use Rattle.std.proofs.Common.{◌≡◌, length}
use Rattle.runs.specs.Breaks.{breaks_to}
use Rattle.runs.proofs.SweptLaws.{Sweeping}
use Rattle.runs.proofs.sweep.sweep.Given as goal

abbrev pub invariant-loop-key : goal.invariant-loop-key
invariant-loop-key l = (length l.starts ≡ length l.initial.starts) × (length l.levels ≡ length l.initial.levels)
    × Sweeping l.envelopes.keys.now l.ends l.n l.g l.key-index l.tops.ends l.p.level.number (breaks_to l.starts l.levels l.p.count)
