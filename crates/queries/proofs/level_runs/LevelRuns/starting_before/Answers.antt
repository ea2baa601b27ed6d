-- `queries::level_runs::LevelRuns::starting_before`: the runs before `low` start before the station, and those from `high` on do not. Assumes nothing.
use native.Mathlib.Omega.{arith}
use Rattle.queries.proofs.NotedLaws.{noted_ascend, halved_none, halved_sooner, halved_later, halved_over}
use Rattle.queries.proofs.level_runs.LevelRuns.starting_before.Goals as goal

pub loop-low-init : goal.loop-low-init
loop-low-init c = halved_none _ _ _ (noted_ascend c.args.self.now.noted)

pub loop-low-preserved-then-self-middle : goal.loop-low-preserved-then-self-middle
loop-low-preserved-then-self-middle c =
    halved_sooner _ _ _ (noted_ascend c.args.self.now.noted) _ _ _ c.loop-low.invariant (omega arith) (omega arith) c.if-self-middle.true

pub loop-low-preserved : goal.loop-low-preserved
loop-low-preserved c =
    halved_later _ _ _ (noted_ascend c.args.self.now.noted) _ _ _ c.loop-low.invariant (omega arith) (omega arith) c.if-self-middle.false

pub returns : goal.returns
returns c = halved_over c.loop-low.invariant c.loop-low-test.false
