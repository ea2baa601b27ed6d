-- Document 02's request 14 as statements about the definitions: how far the withdrawal of one hazard from a job reaches.
-- Assumes nothing.
use Rattle.std.specs.Prelude.{ℕ, zero, suc, ◌+◌, ◌≤◌, ◌<◌, ◌≡◌, ◌≢◌, false, List, [], ◌∷◌, length}
use Rattle.base.specs.Answer.{accepted}
use Rattle.job.specs.declared.Header.{Header}
use Rattle.job.specs.declared.Hazard.{Hazard}
use Rattle.job.specs.Job.{Job, made_from}
use Rattle.job.specs.Writing.{write_job}
use Rattle.runs.specs.Level.{Has}
use Rattle.planning.specs.Envelope.{reached}
use Rattle.planning.specs.Required.{job_level}
use Rattle.planning.specs.Approached.{hazard_at}
use Rattle.schedule.specs.Plan.{plan}
use Rattle.schedule.specs.Planned.{Accepted, Planned}
use Rattle.withdrawal.specs.Reach.{withdrawal_reach}
use Rattle.queries.specs.Lookup.{asked}
use Rattle.demands.specs.Level.{lookup_level}

-- The job without it

-- A list without what stands at an index; the others stay, in their order.
unfoldable pub without_at : {A : Type 0} (i : ℕ) → List A → List A
without_at i [] = []
without_at zero (x ∷ xs) = xs
without_at (suc i) (x ∷ xs) = x ∷ without_at i xs

-- "The job without it": made from the hazards at the other indices, so that its hazard count is one less. An equal hazard at another index stays.
abbrev pub without_hazard : Job → (i : ℕ) → Job
without_hazard j i = made_from j.header (without_at i j.hazards)

-- Where nothing alters

-- The sides of which the withdrawal of a hazard alters nothing.
pub data Unaltered (h : Header) (z : Hazard) (side : ℕ) : Type 0 where
  -- "Where it has no envelope": "a hazard that nobody reaches has none".
  without_envelope : reached h z ≡ false → Unaltered h z side
  -- "And on the other side always."
  other_side : side ≢ z.side → Unaltered h z side

-- The millimetres t of a side that it does not reach.
pub data Beyond (h : Header) (z : Hazard) (side t : ℕ) : Type 0 where
  -- "Every millimetre outside its envelope lengthened by G at both ends."
  outside : ¬ Has (withdrawal_reach h z) t → Beyond h z side t
  -- And all of a side that is not altered.
  unaltered : Unaltered h z side → Beyond h z side t

-- "Requires the same level" at the millimetres of a side that are `Away`, where f is the level required before the withdrawal and g the one after
-- it.
abbrev pub SameLevels : (Away : (side t : ℕ) → Type 0) → (f g : (side t : ℕ) → ℕ) → Type 0
SameLevels Away f g = (side t : ℕ) → Away side t → g side t ≡ f side t

-- Through the schedules

-- Lookup shows the level f at t, in the schedule of a side before the withdrawal and in the one after it, and is not refused.
pub record ShownAlike (f : (side t : ℕ) → ℕ) (right left rightAfter leftAfter : List ℕ) (side t : ℕ) : Type 0 where
  pub before : lookup_level right left side t ≡ accepted (f side t)
  pub after : lookup_level rightAfter leftAfter side t ≡ accepted (f side t)

-- "Offices re-issue sheets": lookup shows there what was required before the withdrawal, where Before w says that w is the side's schedule before it
-- and After w that it is the one after it; whatever the schedules of the other side are. An accepted job has one for each side (demand3_planned).
abbrev pub SameShown : (Away : (side t : ℕ) → Type 0) → (f : (side t : ℕ) → ℕ) → (Before After : (side : ℕ) → List ℕ → Type 0) → Type 0
SameShown Away f Before After =
    (side : ℕ) → side ≤ 1 → (right left rightAfter leftAfter : List ℕ) → Before side (asked side right left) → After side (asked side rightAfter leftAfter)
    → (t : ℕ) → Away side t → ShownAlike f right left rightAfter leftAfter side t

-- Of the hazard at an index of a job.
pub record ReachesNoFarther (s : List ℕ) (j : Job) (i : ℕ) : Type 0 where
  pub one_less : (without_hazard j i).header.count + 1 ≡ j.header.count
  pub still_accepted : Accepted (write_job (without_hazard j i)) (without_hazard j i)
  -- "The job without it requires the same level at every millimetre outside its envelope lengthened by G at both ends."
  pub levels : SameLevels (Beyond j.header (hazard_at j i)) (job_level j) (job_level (without_hazard j i))
  pub shown : SameShown (Beyond j.header (hazard_at j i)) (job_level j) (Planned s) (Planned (write_job (without_hazard j i)))
  -- "Where it has no envelope, and on the other side always, nothing alters": plan's whole reply, the overhangs too.
  pub nothing_alters : (side : ℕ) → Unaltered j.header (hazard_at j i) side → (room : ℕ) → plan (write_job (without_hazard j i)) side room ≡ plan s side room

-- "For every accepted job and each hazard of it."
abbrev pub WithdrawalReach : Type 0
WithdrawalReach = (s : List ℕ) (j : Job) → Accepted s j → (i : ℕ) → i < length j.hazards → ReachesNoFarther s j i
