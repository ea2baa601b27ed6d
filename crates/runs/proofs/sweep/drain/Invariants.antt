-- At each turn the sweep stands further on, at the top of the level that stood.
-- Assumes nothing.
use Rattle.std.proofs.Common.{◌≡◌, ℕ, ◌+◌, ◌≤◌, List, length}
use Rattle.runs.specs.declared.Stretch.{Stretch}
use Rattle.runs.specs.Breaks.{breaks_to}
use Rattle.runs.specs.Sweep.{distinct_to, SweptTo}
use Rattle.runs.proofs.StandLaws.{Standing}
use Rattle.runs.proofs.sweep.drain.Given as goal

abbrev pub invariant-loop-level : goal.invariant-loop-level
invariant-loop-level l = (length l.starts ≡ length l.initial.starts) × (length l.levels ≡ length l.initial.levels)
    × (l.count + distinct_to l.tops.ends l.level.number ≤ l.initial.count + distinct_to l.tops.ends l.initial.level.number)
    × ((es : List Stretch) (G u : ℕ) → u ≤ l.s → SweptTo es G u l.tops.ends l.initial.level.number (breaks_to l.initial.starts l.initial.levels l.initial.count)
    → Standing es G l.s l.tops.ends l.level.number (breaks_to l.starts l.levels l.count))

abbrev pub decreases-loop-level : goal.decreases-loop-level
decreases-loop-level l = l.level.number
