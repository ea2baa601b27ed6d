-- `report::put_runs` meets its contract: the first refusal, or the runs of both sides, for which 32,768 bytes have room. Assumes nothing.
use Rattle.std.proofs.Common.{arith}
use Rattle.runs.specs.RunList.{runs_of}
use Rattle.report.proofs.ReportLaws.{runs_report_fits}
use Rattle.report.proofs.CallLaws.{runs_reported, refused_for}
use Rattle.report.proofs.put_runs.Goals as goal

pub returns-in_err-right-clause-refused : goal.returns-in_err-right-clause-refused
returns-in_err-right-clause-refused c =
    refused_for c.args.job.now 0 c.in_err-right.field-0.0 (rw c.in_err-right.was at c.side_runs.ensures.answer) c.from_residual.result c.from_residual.ensures.1

pub returns-in_err-left-clause-refused : goal.returns-in_err-left-clause-refused
returns-in_err-left-clause-refused c =
    refused_for c.args.job.now 1 c.in_err-left.field-0.0 (rw c.in_err-left.was at c.side_runs-2.ensures.answer) c.from_residual-in_err-left.result
    c.from_residual-in_err-left.ensures.1

pub invariant_of-runs : goal.invariant_of-runs
invariant_of-runs c =
    let right = runs_of c.in_ok-right.right in
    let left = runs_of c.in_ok-left.left in
    let told = runs_reported c.args.job.now right left (rw c.in_ok-right.was at c.side_runs.ensures.answer) (rw c.in_ok-left.was at c.side_runs-2.ensures.answer) in
    record { run_list = told.right_list }

pub invariant_of-runs-2 : goal.invariant_of-runs-2
invariant_of-runs-2 c =
    let right = runs_of c.in_ok-right.right in
    let left = runs_of c.in_ok-left.left in
    let told = runs_reported c.args.job.now right left (rw c.in_ok-right.was at c.side_runs.ensures.answer) (rw c.in_ok-left.was at c.side_runs-2.ensures.answer) in
    record { run_list = told.left_list }

pub runs-requires : goal.runs-requires
runs-requires c =
    let right = runs_of c.in_ok-right.right in
    let left = runs_of c.in_ok-left.left in
    let told = runs_reported c.args.job.now right left (rw c.in_ok-right.was at c.side_runs.ensures.answer) (rw c.in_ok-left.was at c.side_runs-2.ensures.answer) in
    omega (arith, runs_report_fits right left told.right_list told.left_list, c.requires)

pub returns-clause-ok : goal.returns-clause-ok
returns-clause-ok c =
    let right = runs_of c.in_ok-right.right in
    let left = runs_of c.in_ok-left.left in
    rw (runs_reported c.args.job.now right left (rw c.in_ok-right.was at c.side_runs.ensures.answer) (rw c.in_ok-left.was at c.side_runs-2.ensures.answer)).text c.runs.ensures
