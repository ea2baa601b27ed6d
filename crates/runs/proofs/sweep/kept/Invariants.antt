-- What is cut off from the first k break points leaves what it leaves of all.
-- Assumes nothing.
use Rattle.std.proofs.Common.{◌≡◌, ℕ, List}
use Rattle.runs.specs.Breaks.{breaks_to, breaks_before}
use Rattle.runs.proofs.sweep.kept.Given as goal

abbrev pub invariant-loop-k : goal.invariant-loop-k
invariant-loop-k l = (levels : List ℕ) → breaks_before l.t (breaks_to l.starts levels l.k) ≡ breaks_before l.t (breaks_to l.starts levels l.count)
