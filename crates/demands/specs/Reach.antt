-- Document 02's request 14 as statements about the call reach: what its reply says of a hazard, that nothing alters outside the stretch given, and
-- its refusals against plan's.
-- Assumes nothing.
use Rattle.std.specs.Prelude.{ℕ, ◌+◌, ◌≤◌, ◌<◌, ◌≡◌, ◌↔◌, ◌≢◌, ◌⊎◌, true, false, List, length}
use Rattle.base.specs.Answer.{accepted, refused}
use Rattle.job.specs.declared.Header.{Header}
use Rattle.job.specs.declared.Hazard.{Hazard}
use Rattle.job.specs.Job.{Job}
use Rattle.job.specs.Writing.{write_job}
use Rattle.planning.specs.Envelope.{reached, Asked, overhang, OnRoad}
use Rattle.planning.specs.Required.{job_level}
use Rattle.planning.specs.Approached.{hazard_at}
use Rattle.schedule.specs.Plan.{plan}
use Rattle.schedule.specs.Planned.{Accepted, Planned, schedule_level}
use Rattle.withdrawal.specs.declared.reply.Reach.{Reach}
use Rattle.withdrawal.specs.Reach.{no_reach, reach}
use Rattle.demands.specs.Withdrawal.{without_hazard, SameLevels, SameShown, ReachesNoFarther}

-- What a reply says

-- The envelope given, [start, end), has t; the stretch given, [from, to), has t.
abbrev pub InEnvelope : Reach → (t : ℕ) → Type 0
InEnvelope r t = (r.start ≤ t) × (t < r.end)

abbrev pub InStretch : Reach → (t : ℕ) → Type 0
InStretch r t = (r.from ≤ t) × (t < r.to)

-- The road has the stretch, and the stretch the envelope, which has a millimetre.
pub record Around (h : Header) (r : Reach) : Type 0 where
  pub begins : h.begin ≤ r.from
  pub from_start : r.from ≤ r.start
  pub long : r.start < r.end
  pub end_to : r.end ≤ r.to
  pub ends : r.to ≤ h.end

-- Of a hazard that has an envelope.
pub record Enveloped (h : Header) (z : Hazard) (r : Reach) : Type 0 where
  -- The millimetres that an envelope is to have, by formula, rule and raising themselves, cut at A and B.
  pub envelope : (t : ℕ) → InEnvelope r t ↔ (OnRoad h t × Asked h z t)
  pub overhangs : r.overhangs ≡ overhang h z
  -- "Its envelope lengthened by G at both ends", cut at A and B.
  pub stretch : (t : ℕ) → InStretch r t ↔ (OnRoad h t × (r.start ≤ t + h.continuity) × (t < r.end + h.continuity))
  -- So it is never wider than the road.
  pub around : Around h r

-- Of every hazard.
pub record Says (h : Header) (z : Hazard) (r : Reach) : Type 0 where
  pub its_side : r.side ≡ z.side
  pub reached_so : reached h z ≡ true → Enveloped h z r
  -- "A hazard that nobody reaches has none": all else is 0.
  pub unreached : reached h z ≡ false → r ≡ no_reach z.side

-- What its withdrawal alters

-- The millimetres t of a side that it does not alter: those outside the stretch given, "and on the other side always".
pub data Untouched (r : Reach) (side t : ℕ) : Type 0 where
  outside : ¬ InStretch r t → Untouched r side t
  other_side : side ≢ r.side → Untouched r side t

-- The sides of which it alters nothing: where the stretch given is empty, "and on the other side always".
abbrev pub UntouchedSide : Reach → (side : ℕ) → Type 0
UntouchedSide r side = (r.from ≡ r.to) ⊎ (side ≢ r.side)

-- w covers the envelope given: at each of its millimetres a run has the hazard's level or a higher one.
abbrev pub Covered : Reach → (level : ℕ) (w : List ℕ) → Type 0
Covered r level w = (t : ℕ) → InEnvelope r t → level ≤ schedule_level w t

-- Of the hazard at an index of a job.
pub record ReachIs (s : List ℕ) (j : Job) (i : ℕ) (r : Reach) : Type 0 where
  -- Request 14 of this hazard: the job without it is accepted, and alters nothing beyond its envelope lengthened by G. What the call gives, cut at A and
  -- B, says the same in numbers, below.
  pub withdrawal : ReachesNoFarther s j i
  pub says : Says j.header (hazard_at j i) r
  pub covered : (w : List ℕ) → Planned s r.side w → Covered r (hazard_at j i).level w
  -- "The job without it requires the same level at every millimetre outside", and the planned schedules show it.
  pub levels : SameLevels (Untouched r) (job_level j) (job_level (without_hazard j i))
  pub shown : SameShown (Untouched r) (job_level j) (Planned s) (Planned (write_job (without_hazard j i)))
  -- "Nothing alters": plan's whole reply, the overhangs too.
  pub nothing_alters : (side : ℕ) → UntouchedSide r side → (room : ℕ) → plan (write_job (without_hazard j i)) side room ≡ plan s side room

-- "For every accepted job and each hazard of it" the call gives a reply, and the reply is so.
abbrev pub ReachGiven : Type 0
ReachGiven = (s : List ℕ) (j : Job) → Accepted s j → (i : ℕ) → i < length j.hazards → (r : Reach) × (reach s i ≡ accepted r) × ReachIs s j i r

-- Refusals

-- Plan's without 8 and 9: number and value, on either side of plan and whatever its room is; then 14.
abbrev pub ReachRefusals : Type 0
ReachRefusals = (s : List ℕ) (i side room k v : ℕ) → side ≤ 1 → ((reach s i ≡ refused k v) × (k ≢ 14)) ↔ ((plan s side room ≡ refused k v) × (k ≢ 9))

-- The bytes are an accepted job that has no hazard with the index.
pub record NoHazard (s : List ℕ) (i : ℕ) : Type 0 where
  pub job : Job
  pub taken : Accepted s job
  pub few : length job.hazards ≤ i

-- 14, with 0, where there is no such hazard: exactly then.
abbrev pub ReachFourteen : Type 0
ReachFourteen = (s : List ℕ) (i v : ℕ) → (reach s i ≡ refused 14 v) ↔ ((v ≡ 0) × NoHazard s i)
