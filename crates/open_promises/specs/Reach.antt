-- The call reach of an open job: what it answers after every list of calls, and what the withdrawal of the hazard under that name then alters.
-- Assumes nothing.
use Rattle.std.specs.Prelude.{ℕ, ◌≡◌, true, false, List}
use Rattle.base.specs.Answer.{accepted, refused}
use Rattle.job.specs.Job.{Job, unnamed}
use Rattle.planning.specs.Required.{job_level}
use Rattle.withdrawal.specs.declared.reply.Reach.{Reach}
use Rattle.demands.specs.Withdrawal.{SameLevels, SameShown}
use Rattle.demands.specs.Reach.{Says, Untouched, UntouchedSide, Covered}
use Rattle.open_memory.specs.Memory.{stands}
use Rattle.open_job.specs.declared.OpenStates.{OpenStates}
use Rattle.open_job.specs.Calls.{withdraw_in, schedule_in, reach_in}
use Rattle.open_promises.specs.Lists.{Call, added_since, CallsFrom}
use Rattle.open_promises.specs.Withdrawal.{then_withdrawn, job_after, Scheduled, OpenReachesNoFarther}

-- A reply for the name of a hazard that stands in the memory m, left by a list of calls.
pub record OpenReachIs (s : List ℕ) (j : Job) (calls : List Call) (m : OpenStates) (name : ℕ) (r : Reach) : Type 0 where
  -- The hazard's withdrawal is not refused; the jobs that stand before and after it.
  pub next : OpenStates
  pub done : withdraw_in m name ≡ accepted next
  pub withdrawal : OpenReachesNoFarther s j calls m name next
  pub says : Says (job_after j.header calls).header (unnamed withdrawal.hazard) r
  pub covered : (w : List ℕ) → Scheduled m r.side w → Covered r withdrawal.hazard.level w
  -- They require the same level outside the stretch given, and lookup in the open job's schedules shows it.
  pub levels : SameLevels (Untouched r) (job_level (job_after j.header calls)) (job_level (job_after j.header (then_withdrawn calls name)))
  pub shown : SameShown (Untouched r) (job_level (job_after j.header calls)) (Scheduled m) (Scheduled next)
  -- "Nothing alters": the schedule call's whole reply, the overhangs too.
  pub nothing_alters : (side : ℕ) → UntouchedSide r side → (room : ℕ) → schedule_in next side room ≡ schedule_in m side room

-- What the call answers to a name: 12 and the name where it does not stand, else such a reply.
pub record OpenReachAnswers (s : List ℕ) (j : Job) (calls : List Call) (m : OpenStates) (name : ℕ) : Type 0 where
  pub absent : stands name (added_since j.header calls) ≡ false → reach_in m name ≡ refused 12 name
  pub standing : stands name (added_since j.header calls) ≡ true → (r : Reach) × (reach_in m name ≡ accepted r) × OpenReachIs s j calls m name r

-- After every list of calls. (Other memory is refused 3 with 0: `RulesPromise`.)
abbrev pub ReachPromise : Type 0
ReachPromise = (s : List ℕ) (j : Job) (calls : List Call) (m : OpenStates) → CallsFrom s j calls m → (name : ℕ) → OpenReachAnswers s j calls m name
