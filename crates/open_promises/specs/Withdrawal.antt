-- Document 02's request 14 of an open job: "the same is wanted for withdrawal from an open job, with cut and raised envelopes".
-- Assumes nothing.
use Rattle.std.specs.Prelude.{ℕ, ◌≤◌, ◌≡◌, length}
use mathlib.Core.List.{List, [], ◌∷◌, ◌++◌, map, Memᴰ}
use Rattle.base.specs.Answer.{accepted}
use Rattle.job.specs.declared.Header.{Header}
use Rattle.job.specs.declared.NamedHazard.{NamedHazard}
use Rattle.job.specs.Job.{Job, unnamed, made_from}
use Rattle.planning.specs.Required.{job_level}
use Rattle.schedule.specs.Planned.{schedule_alone}
use Rattle.demands.specs.Withdrawal.{Unaltered, Beyond, SameLevels, SameShown}
use Rattle.open_job.specs.declared.OpenStates.{OpenStates}
use Rattle.open_job.specs.Calls.{withdraw_in, schedule_in}
use Rattle.open_promises.specs.Lists.{withdraw, Call, edit, added_since, CallsFrom, AnswersAs}

-- The calls, and behind them the withdrawal of a name.
abbrev pub then_withdrawn : List Call → (name : ℕ) → List Call
then_withdrawn calls name = calls ++ edit (withdraw name) ∷ []

-- "A job made from the hazards added and not withdrawn since": what it requires is required of the open job, whose schedule is its schedule.
abbrev pub job_after : Header → List Call → Job
job_after h calls = made_from h (map unnamed (added_since h calls))

-- w is the schedule of a side of the open job: the bytes that its schedule call gives, into any output long enough.
abbrev pub Scheduled : OpenStates → (side : ℕ) → List ℕ → Type 0
Scheduled m side w = (room : ℕ) → length w ≤ room → schedule_alone (schedule_in m side room) ≡ accepted w

-- The one hazard that stands under a name.
pub record StandsUnder (name : ℕ) (past : List NamedHazard) (p : NamedHazard) : Type 0 where
  pub member : Memᴰ p past
  pub its_name : p.name ≡ name
  pub alone : (q : NamedHazard) → Memᴰ q past → q.name ≡ name → q ≡ p

-- A withdrawal that turns the memory m, left by a list of calls, into `next`.
pub record OpenReachesNoFarther (s : List ℕ) (j : Job) (calls : List Call) (m : OpenStates) (name : ℕ) (next : OpenStates) : Type 0 where
  -- The hazard withdrawn.
  pub hazard : NamedHazard
  pub stood : StandsUnder name (added_since j.header calls) hazard
  -- The memory after it is one that calls leave.
  pub called : CallsFrom s j (then_withdrawn calls name) next
  -- The jobs that stand before and after: the open job answers as they do.
  pub before : AnswersAs m (job_after j.header calls)
  pub after : AnswersAs next (job_after j.header (then_withdrawn calls name))
  -- They require the same level beyond the reach, and lookup in the open job's schedules shows it.
  pub levels : SameLevels (Beyond j.header (unnamed hazard)) (job_level (job_after j.header calls))
      (job_level (job_after j.header (then_withdrawn calls name)))
  pub shown : SameShown (Beyond j.header (unnamed hazard)) (job_level (job_after j.header calls)) (Scheduled m) (Scheduled next)
  -- "Where it has no envelope, and on the other side always, nothing alters": the schedule call's whole reply, the overhangs too.
  pub nothing_alters : (side : ℕ) → Unaltered j.header (unnamed hazard) side → (room : ℕ) → schedule_in next side room ≡ schedule_in m side room

-- For every list of calls, and every withdrawal after it that is not refused.
abbrev pub WithdrawalPromise : Type 0
WithdrawalPromise =
    (s : List ℕ) (j : Job) (calls : List Call) (m : OpenStates) → CallsFrom s j calls m
    → (name : ℕ) (next : OpenStates) → withdraw_in m name ≡ accepted next → OpenReachesNoFarther s j calls m name next
