use Rattle.std.proofs.Common.{ℕ, ◌≡◌, ◌+◌, ◌-◌, ◌*◌, length, get_or}
use Rattle.queries.specs.Sums.{below}
use Rattle.queries.proofs.NotedLaws.{Filled}
use Rattle.queries.proofs.quantities.differences.Given as goal

-- The places before `i` have their differences, and the others are 0.
abbrev pub invariant-loop-i : goal.invariant-loop-i
invariant-loop-i l =
    let under : ℕ → ℕ = λ (k : ℕ). below l.runs.starts l.runs.sums l.runs.count (get_or l.numbers k 0) in
    (length l.quantities ≡ 64) × Filled (λ (k : ℕ). under (2 * k + 1) - under (2 * k)) l.i l.quantities
