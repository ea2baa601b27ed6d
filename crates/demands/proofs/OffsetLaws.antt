-- Smallest offset: when it gives each of its replies, and its refusals against plan's.
-- Assumes nothing.
use Prim.Native.Nat.{ℕ}
use mathlib.Core.Path.{sym, ap, ◌∙◌}
use borrow.Author.Tests.{ltb-true}
use Rattle.base.specs.Answer.{accepted}
use Rattle.job.specs.declared.Hazard.{Hazard}
use Rattle.job.specs.Job.{Job}
use Rattle.planning.proofs.EnvelopeLaws.{accepted_fits}
use Rattle.planning.proofs.ApproachedLaws.{reach_test, approached_fits}
use Rattle.planning.specs.Approached.{hazard_at}
use Rattle.clear_offset.specs.Offset.{Smallest, offset, none, hazard_offset, smallest_offset}
use Rattle.clear_offset.proofs.SearchLaws.{least_exactly, none_exactly, nothing_wanted}
use Rattle.clear_offset.proofs.OffsetLaws.{approached_clear}
use Rattle.demands.specs.Offset.{OffsetGiven, OffsetNone, OffsetZero, OffsetRefusals, OffsetFourteen}
use Rattle.demands.proofs.HazardLaws.{told_approached, told_given, told_fourteen, told_refusals}

-- What is told of the hazard.
abbrev smallest : (longest : ℕ) → Job → Hazard → Smallest
smallest longest j z = hazard_offset j.header z longest

pub offset_given : OffsetGiven
unfolding smallest_offset
offset_given s index longest M = (
  λ e. let (j, a, q) = told_given (smallest longest) s index (offset M) e in (j, a, (least_exactly j.header (hazard_at j index) longest M).0 q),
  λ (j, a, l). told_approached (smallest longest) s index j a ∙ ap accepted ((least_exactly j.header (hazard_at j index) longest M).1 l),
)

pub offset_none : OffsetNone
unfolding smallest_offset
offset_none s index longest = (
  λ e. let (j, a, q) = told_given (smallest longest) s index none e in (j, a, (none_exactly j.header (hazard_at j index) longest).0 q),
  λ (j, a, l). told_approached (smallest longest) s index j a ∙ ap accepted ((none_exactly j.header (hazard_at j index) longest).1 l),
)

pub offset_zero : OffsetZero
unfolding smallest_offset
offset_zero s j index a =
    let fits = accepted_fits s j a.job in
    let near = ltb-true _ _ (sym (reach_test j fits index a.there) ∙ a.reach) in
    told_approached (smallest 0) s index j a
    ∙ ap accepted (nothing_wanted j.header (hazard_at j index) (approached_clear (approached_fits j fits index a.there near)))

pub offset_fourteen : OffsetFourteen
unfolding smallest_offset
offset_fourteen s index longest v = told_fourteen (smallest longest) s index v

pub offset_refusals : OffsetRefusals
unfolding smallest_offset
offset_refusals s index longest side room k v h = told_refusals (smallest longest) s index side room k v h
