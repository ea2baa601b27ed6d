-- The call reach of an open job: what it answers after a list of calls, and that the withdrawal alters nothing outside the stretch given.
-- Assumes nothing.
use Prim.Native.Nat.{ℕ, ◌≤◌}
use native.Mathlib.Omega.{arith}
use mathlib.Core.Path.{◌≡◌, sym, ap, ap₂, ◌∙◌}
use mathlib.Core.Bool.{true, false}
use mathlib.Core.List.Memᴰ
use mathlib.Core.List.{List, Memᴰ}
use lib.ListN.{length-map}
use Rattle.base.specs.Answer.{accepted, refused}
use Rattle.job.specs.declared.Header.{Header}
use Rattle.job.specs.declared.Hazard.{Hazard}
use Rattle.job.specs.declared.NamedHazard.{NamedHazard}
use Rattle.job.specs.declared.StoredJob.{StoredJob}
use Rattle.job.specs.Job.{Job, unnamed, counted}
use Rattle.job.specs.Writing.{write_job}
use Rattle.job.proofs.RangeLaws.{hazard_bounds}
use Rattle.planning.specs.Required.{job_level}
use Rattle.planning.specs.Rows.{AcceptedFits}
use Rattle.planning.proofs.EnvelopeLaws.{accepted_fits}
use Rattle.planning.proofs.RoadLaws.{level_off_road}
use Rattle.schedule.specs.Planned.{schedule_level}
use Rattle.withdrawal.specs.declared.reply.Reach.{Reach}
use Rattle.withdrawal.specs.Reach.{hazard_reach}
use Rattle.demands.specs.Withdrawal.{SameLevels}
use Rattle.demands.specs.Reach.{Says, Untouched}
use Rattle.demands.proofs.DemandLaws.{demand2}
use Rattle.demands.proofs.WithdrawalLaws.{same_shown}
use Rattle.demands.proofs.ReachLaws.{own_side, hazard_says, untouched_side, untouched_levels, covers_envelope}
use Rattle.open_memory.specs.Memory.{standing, laid_out, stands, hazard_under, without}
use Rattle.open_job.specs.States.{kept_states, states_from}
use Rattle.open_job.specs.Calls.{withdraw_from, withdraw_in, reach_under, reach_in}
use Rattle.open_job.specs.declared.OpenStates.{OpenStates}
use Rattle.open_promises.specs.Lists.{Call, hazards_after, added_since, CallsFrom, Standing}
use Rattle.open_promises.specs.Withdrawal.{then_withdrawn, job_after, OpenReachesNoFarther}
use Rattle.open_promises.specs.Reach.{OpenReachIs, ReachPromise}
use Rattle.open_promises.proofs.HazardLaws.{stands_alike, under_which}
use Rattle.open_promises.proofs.ListLaws.{standing_promise}
use Rattle.open_promises.proofs.WithdrawalLaws.{unaltered_counted, beyond_counted, scheduled_planned, withdrawal_promise}

module _ (s : List ℕ) (j : Job) (calls : List Call) (m : OpenStates) (from : CallsFrom s j calls m) (name : ℕ) where
  abbrev h : Header
  h = j.header

  abbrev past : List NamedHazard
  past = added_since h calls

  abbrev old : Job
  old = job_after h calls

  abbrev new : Job
  new = job_after h (then_withdrawn calls name)

  stood : Standing h (hazards_after h calls) m
  stood = standing_promise s j calls m from

  -- The same names stand in the memory.
  alike : stands name (standing m.present) ≡ stands name past
  alike = stands_alike name (standing m.present) past stood.present_state.each

  absent : stands name past ≡ false → reach_in m name ≡ refused 12 name
  unfolding reach_in reach_under
  absent e = rw (stood.is_open, alike ∙ e)

  -- The header of the job that stands.
  same_header : m.present.header ≡ old.header
  same_header = ap (λ (a : StoredJob). a.header) stood.present_state.layout ∙ ap (counted h) (stood.present_state.many ∙ sym (length-map past unnamed))

  module _ (e : stands name past ≡ true) where
    abbrev next : OpenStates
    next = states_from (laid_out m.present.header (without name (standing m.present))) (kept_states m)

    done : withdraw_in m name ≡ accepted next
    unfolding withdraw_in withdraw_from
    done = rw (stood.is_open, alike ∙ e)

    far : OpenReachesNoFarther s j calls m name next
    far = withdrawal_promise s j calls m from name next done

    same_hazard : hazard_under name (standing m.present) ≡ far.hazard
    same_hazard =
        let w = under_which name (standing m.present) (alike ∙ e) in
        far.stood.alone (hazard_under name (standing m.present)) ((stood.present_state.each (hazard_under name (standing m.present))).0 w.0) w.1

    z : Hazard
    z = unnamed far.hazard

    r : Reach
    r = hazard_reach old.header z

    told : reach_in m name ≡ accepted r
    unfolding reach_in reach_under z r
    told = rw (stood.is_open, alike ∙ e) (ap accepted (ap₂ hazard_reach same_header (ap unnamed same_hazard)))

    fits : AcceptedFits old
    fits = accepted_fits (write_job old) old far.before.job_is_accepted

    own : Memᴰ z old.hazards
    unfolding z
    own = Memᴰ.map unnamed far.stood.member

    low : r.side ≤ 1
    unfolding r
    low = omega (arith, own_side old.header z, (hazard_bounds old.header z (fits.fits.hazards.each z own)).side)

    says : Says old.header z r
    unfolding r
    says = hazard_says old fits z own

    levels : SameLevels (Untouched r) (job_level old) (job_level new)
    unfolding r z
    levels =
        untouched_levels old.header z (job_level old) (job_level new) (λ side t off. level_off_road old side fits t off)
        (λ side t off. level_off_road new side (accepted_fits (write_job new) new far.after.job_is_accepted) t off)
        (λ side t b. far.levels side t (beyond_counted old.header h.count z side t b))

    reach_is : OpenReachIs s j calls m name r
    unfolding r z
    reach_is = record {
      next = next;
      done = done;
      withdrawal = far;
      says = says;
      covered = λ w p.
          covers_envelope old.header z (schedule_level w)
          (λ q t on k. (demand2 (write_job old) old r.side w far.before.job_is_accepted low (scheduled_planned m old far.before r.side w p)).covers z own
          (sym (own_side old.header z)) q t on k);
      levels = levels;
      shown = λ side good right left rightAfter leftAfter p q.
          same_shown (write_job old) (write_job new) old new far.before.job_is_accepted far.after.job_is_accepted (Untouched r) levels side good right left
          rightAfter leftAfter
          (scheduled_planned m old far.before side _ p) (scheduled_planned next new far.after side _ q);
      nothing_alters =
          λ side u room. far.nothing_alters side (unaltered_counted old.header h.count z side (untouched_side old.header z r says side u)) room;
    }

pub reach_promise : ReachPromise
reach_promise s j calls m from name = record {
  absent = absent s j calls m from name;
  standing = λ e. (r s j calls m from name e, told s j calls m from name e, reach_is s j calls m from name e);
}
