-- `queries::level_runs::LevelRuns::below`: nothing where no run starts before the station, else what the last that does gives. Assumes nothing.
use mathlib.Core.Path.{sym, ap, subst, ◌∙◌}
use Prim.Native.Nat.{ℕ, ◌+◌, ◌-◌}
use lib.ListN.{get_or}
use native.Mathlib.Omega.{arith}
use Rattle.queries.specs.Sums.{Halved}
use Rattle.queries.proofs.NotedLaws.{below_none, below_last}
use Rattle.queries.proofs.level_runs.LevelRuns.below.Goals as goal

pub returns-then-runs-eq0 : goal.returns-then-runs-eq0
returns-then-runs-eq0 c =
    let a = c.args in
    sym (below_none _ _ _ _ _ a.self.now.noted (subst (λ (k : ℕ). Halved a.self.now.starts a.self.now.count a.station k k) c.if-runs-eq0.true c.starting_before-runs.ensures))

pub returns : goal.returns
returns c =
    let a = c.args in
    let k = c.starting_before-runs.result in
    ap (λ (x : ℕ). get_or a.self.now.sums (k - 1) 0 + x) c.min.ensures
    ∙ sym (below_last _ _ _ _ _ a.self.now.noted k (omega (arith, c.if-runs-eq0.false)) c.starting_before-runs.ensures)
