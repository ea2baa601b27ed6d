-- `report::lines::covered_length` meets its contract: run by run. Assumes nothing.
use Rattle.std.proofs.Common.{arith, sym, ap, ◌∙◌}
use Rattle.report.specs.Text.{covered}
use Rattle.runs.proofs.RunLaws.{run_list_rising}
use Rattle.runs.proofs.StoredLaws.{first_runs, runs_none, run_next, count_top}
use Rattle.report.proofs.LineLaws.{covered_nothing, covered_more, covered_within, covered_top}
use Rattle.report.proofs.lines.covered_length.Goals as goal

pub loop-i-init : goal.loop-i-init
loop-i-init c =
    let l = c.args.runs.list.now in
    (count_top l.starts l.ends l.levels l.count c.args.runs.run_list, sym (ap covered (runs_none l.starts l.ends l.levels) ∙ covered_nothing))

-- in a turn run i is not empty, and the sum with it stays small
pub overflow_sub-sum : goal.overflow_sub-sum
overflow_sub-sum c =
    let l = c.args.runs.list.now in
    omega (arith, (run_next l.starts l.ends l.levels l.count c.args.runs.run_list c.loop-i.i (omega arith)).long)

pub overflow_add-sum : goal.overflow_add-sum
overflow_add-sum c =
    let l = c.args.runs.list.now in
    let all = first_runs l.starts l.ends l.levels l.count in
    omega (
      arith,
      covered_within l.starts l.ends l.levels c.loop-i.i l.count (omega arith),
      covered_top all (run_list_rising all c.args.runs.run_list),
    )

pub loop-i-preserved : goal.loop-i-preserved
loop-i-preserved c =
    let l = c.args.runs.list.now in
    (c.loop-i.invariant.0, omega (arith, covered_more l.starts l.ends l.levels c.loop-i.i))
