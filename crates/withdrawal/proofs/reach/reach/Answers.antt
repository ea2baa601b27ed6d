-- The hazard of an accepted job, or the refusal.
-- Assumes nothing.
use mathlib.Core.Path.{sym, ap, ◌∙◌}
use Rattle.refusal.specs.Refusal.{answer_of, number_of, value_of}
use Rattle.refusal.proofs.RefuseLaws.{passed_on}
use Rattle.planning.proofs.AcceptLaws.{indexed_fits}
use Rattle.withdrawal.proofs.HazardLaws.{told_there, told_refused}
use Rattle.withdrawal.proofs.reach.reach.Goals as goal

pub returns-in_err-asked : goal.returns-in_err-asked
returns-in_err-asked c =
    let x = c.in_err-asked.field-0.0 in
    passed_on c.from_residual.result x c.from_residual.ensures.1
    ∙ told_refused c.args.job.now c.args.hazard (number_of x) (value_of x) (sym c.indexed_hazard.ensures ∙ ap answer_of c.in_err-asked.was)

pub hazard_reach-requires : goal.hazard_reach-requires
hazard_reach-requires c =
    let fits = indexed_fits c.args.job.now c.args.hazard _ (sym c.indexed_hazard.ensures ∙ ap answer_of c.in_ok-asked.was) in
    record { header_fits = fits.header; hazard_fits = fits.hazard; passed = fits.passed }

pub returns : goal.returns
returns c =
    told_there c.args.job.now c.args.hazard (sym c.indexed_hazard.ensures ∙ ap answer_of c.in_ok-asked.was) c.hazard_reach.ensures
