-- The stretch by sums, which fit.
-- Assumes nothing.
use native.Mathlib.Omega.{arith}
use mathlib.Core.Path.{sym, ◌∙◌}
use Rattle.job.proofs.RangeLaws.{header_bounds}
use Rattle.withdrawal.proofs.HazardLaws.{found_end, told_found, told_missing}
use Rattle.withdrawal.proofs.reach.hazard_reach.Goals as goal

pub overflow_add-stretch : goal.overflow_add-stretch
overflow_add-stretch c =
    let a = c.args in
    let bounds = header_bounds a.header c.requires.header_fits in
    omega (arith, found_end a.header a.hazard _ (sym c.own_envelope.ensures ∙ c.in-Some.is), bounds.road_end, bounds.continuity_top)

pub returns-in-Some : goal.returns-in-Some
returns-in-Some c =
    told_found c.args.header c.args.hazard _ (sym c.own_envelope.ensures ∙ c.in-Some.is) (c.max.ensures ∙ rw c.saturating_sub-before.ensures) c.min.ensures

pub returns-in-None : goal.returns-in-None
returns-in-None c = told_missing c.args.header c.args.hazard (sym c.own_envelope.ensures ∙ c.in-None.is)
