-- `planning::tests::walked` may walk: nothing is taken yet, and there is room. Assumes nothing.
use Rattle.std.proofs.Common.{arith, sym, ap, ◌∙◌}
use Rattle.refusal.specs.Refusal.{answer_of}
use Rattle.job.proofs.JobLaws.{header_at_fits}
use Rattle.job.proofs.RangeLaws.{header_bounds}
use Rattle.planning.proofs.TakerLaws.{none_keyed, side_begun}
use Rattle.planning.proofs.tests.walked.Goals as goal

pub walk-requires-clause-header_fits : goal.walk-requires-clause-header_fits
walk-requires-clause-header_fits c = header_at_fits _ _ (sym c.read_header.ensures ∙ ap answer_of c.in-Ok.is)

pub walk-requires-clause-ready_old : goal.walk-requires-clause-ready_old
walk-requires-clause-ready_old c =
    let count = (header_bounds _ (header_at_fits _ _ (sym c.read_header.ensures ∙ ap answer_of c.in-Ok.is))).count in
    record {
      keyed = none_keyed c.args.keys.now c.args.ends.now;
      few = omega arith;
      for_keys = λ l. omega (arith, (c.requires l).0, count);
      for_ends = λ l. omega (arith, (c.requires l).1, count);
    }

pub walk-requires-clause-none_taken : goal.walk-requires-clause-none_taken
walk-requires-clause-none_taken c = side_begun c.args.keys.now c.args.ends.now c.args.side _ _
