-- Demand 2 by the formula: what the planned schedule covers upstream of a hazard, through approach's promise.
-- Assumes nothing.
use Rattle.approach.proofs.ApproachLaws.{divisor_some}
use Rattle.approach.proofs.PanelLaws.{raised_length_below}
use Rattle.job.proofs.RangeLaws.{header_bounds}
use Rattle.planning.proofs.EnvelopeLaws.{accepted_fits, domain_of}
use Rattle.schedule.proofs.PlannedLaws.{planned_length}
use Rattle.demands.specs.Demands.{Demand2Formula}

pub demand2_formula : Demand2Formula
demand2_formula s j side w a h p z m on traffic r d t u l road =
    let fits = accepted_fits s j a in
    let some = divisor_some _ _ _ _ _ _ (domain_of j fits z m traffic r) in
    planned_length s j side w a h p z m on traffic r d t u
    ((raised_length_below _ _ _ _ _ _ _ (header_bounds j.header fits.fits.header).panel_low some d).1 l) road
