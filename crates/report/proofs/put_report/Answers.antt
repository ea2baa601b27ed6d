-- `report::put_report` meets its contract: what the runs are not reported for is reported. Assumes nothing.
use Rattle.std.proofs.Common.{arith}
use Rattle.refusal.specs.Refusal.{number_of, value_of}
use Rattle.report.proofs.ReportLaws.{refused_fits}
use Rattle.report.proofs.put_report.Goals as goal

pub refused-requires : goal.refused-requires
refused-requires c =
    rw c.in-Err.ensures.unchanged (omega (arith, refused_fits (number_of c.in-Err.refusal) (value_of c.in-Err.refusal), c.requires))
