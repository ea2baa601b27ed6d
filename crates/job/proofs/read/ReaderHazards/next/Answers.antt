-- The next hazard of job bytes meets its contract: it is read, and then what is left. Assumes nothing.
use Rattle.std.proofs.Common.{List, arith, sym, ap, ◌∙◌}
use Rattle.refusal.specs.Refusal.{answer_of}
use Rattle.refusal.proofs.RefuseLaws.{passed_on}
use Rattle.job.specs.declared.Hazard.{Hazard}
use Rattle.job.specs.Job.{read_rest}
use Rattle.job.proofs.RangeLaws.{header_bounds}
use Rattle.job.proofs.JobLaws.{hazard_at_fits}
use Rattle.job.proofs.RestLaws.{step_refused, step_read}
use Rattle.job.proofs.read.ReaderHazards.next.Goals as goal

pub next_hazard-requires : goal.next_hazard-requires
next_hazard-requires c = omega (arith, (header_bounds c.args.header.now c.requires.header_fits).road)

pub returns-in_err-reading-clause-rest : goal.returns-in_err-reading-clause-rest
returns-in_err-reading-clause-rest c =
    λ k got l.
    step_refused c.args.header.now k got c.args.self.now.bytes.now c.args.self.now.at c.args.index l c.in_err-reading.field-0.0
    (sym c.next_hazard.ensures ∙ ap answer_of c.in_err-reading.was) c.from_residual.result
    (λ (zs : List Hazard). read_rest c.args.header.now k zs c.args.self.now.bytes.now c.args.self.now.at)
    (passed_on c.from_residual.result c.in_err-reading.field-0.0 c.from_residual.ensures.1)

pub returns-clause-rest : goal.returns-clause-rest
returns-clause-rest c =
    λ k got l.
    step_read c.args.header.now k got c.args.self.now.bytes.now c.args.self.now.at c.args.index l c.in_ok-reading.reading
    (sym c.next_hazard.ensures ∙ ap answer_of c.in_ok-reading.was)

pub returns-clause-hazard_fits : goal.returns-clause-hazard_fits
returns-clause-hazard_fits c =
    hazard_at_fits c.args.header.now c.args.index c.args.self.now.bytes.now c.args.self.now.at c.in_ok-reading.reading
    (sym c.next_hazard.ensures ∙ ap answer_of c.in_ok-reading.was)
