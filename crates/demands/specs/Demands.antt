-- The owner's three demands, sentence by sentence, as statements about the definitions; since document 02's request 8 envelopes are cut, and
-- "coverage, leastness and the comparison of two jobs alike in their headers hold over the millimetres of [A, B)".
-- Assumes nothing.
use Rattle.std.specs.Prelude.{ℕ, ◌+◌, ◌≤◌, ◌≡◌, ◌↔◌, true, length, take, drop}
use mathlib.Core.List.{List, [], ◌∷◌, Memᴰ}
use Rattle.base.specs.Answer.{Answer, accepted, refused, ◌>>=◌}
use Rattle.number.specs.Number.{write_number}
use Rattle.job.specs.declared.Header.{Header}
use Rattle.job.specs.declared.Hazard.{Hazard}
use Rattle.job.specs.Job.{Job, counted}
use Rattle.runs.specs.declared.Stretch.{Stretch}
use Rattle.planning.specs.Envelope.{Traffic, envelope, reached, reaches, side_envelopes, OnRoad, Upstream, BelowApproach}
use Rattle.runs.specs.Level.{NoShortGap, NoShortGapIn, Has, InSet, Filled, Highest}
use Rattle.runs.specs.RunList.{is_run_list, IsRun}
use Rattle.schedule.specs.Schedule.{write_schedule, read_schedule}
use Rattle.schedule.specs.Planned.{Accepted, schedule_alone, Planned, schedule_level}
use Rattle.queries.specs.Ranges.{most_ranges, quantities, quantities_replied}
use Rattle.planning.specs.Required.{job_level, job_runs}
use Rattle.queries.specs.Lookup.{FoundRun, Found, found, nowhere, asked, lookup}
use Rattle.schedule.specs.Plan.{PlannedSide, output_after, plan}
use Rattle.queries.specs.Quantity.{millimetres, quantity}

-- Demand 1, of the definitions: after every call the output holds the complete schedule from its first byte, the bytes behind it untouched, or exactly what it
-- held before; its length never changes.
pub record OutputKept (s : List ℕ) (side : ℕ) (out : List ℕ) : Type 0 where
  pub planned : (w : List ℕ) → schedule_alone (plan s side (length out)) ≡ accepted w
      → (take (length w) (output_after (plan s side (length out)) out) ≡ w)
      × (drop (length w) (output_after (plan s side (length out)) out) ≡ drop (length w) out)
  pub refused : (k v : ℕ) → plan s side (length out) ≡ refused k v → output_after (plan s side (length out)) out ≡ out
  pub same_length : length (output_after (plan s side (length out)) out) ≡ length out

abbrev pub Demand1 : Type 0
Demand1 = (s : List ℕ) (side : ℕ) (out : List ℕ) → OutputKept s side out

-- An assignment of levels covers the envelope, not cut, of each reached hazard of a side, at that hazard's level or higher, on the road.
abbrev pub CoversHazards : Job → ℕ → (ℕ → ℕ) → Type 0
CoversHazards j side f =
    (z : Hazard) → Memᴰ z j.hazards → z.side ≡ side → reached j.header z ≡ true
    → (t : ℕ) → OnRoad j.header t → Has (envelope j.header z) t → z.level ≤ f t

-- At no level has it a gap under the continuity limit between two of its millimetres of the road.
abbrev pub NoShortGapOnRoad : Job → (ℕ → ℕ) → Type 0
NoShortGapOnRoad j f = NoShortGapIn j.header.begin j.header.end j.header.continuity f

-- Demand 2. The schedule has no short gap anywhere, shows nothing off the road, and is nowhere above another assignment that covers the
-- envelopes on the road and has no short gap there.
pub record LeastCovering (j : Job) (side : ℕ) (w : List ℕ) : Type 0 where
  pub covers : CoversHazards j side (schedule_level w)
  pub no_short_gap : NoShortGap j.header.continuity (schedule_level w)
  pub least : (f : ℕ → ℕ) → CoversHazards j side f → NoShortGapOnRoad j f → (t : ℕ) → schedule_level w t ≤ f t
  pub off_road : (t : ℕ) → (OnRoad j.header t → ⊥) → schedule_level w t ≡ 0
  pub reads : read_schedule w ≡ accepted (job_runs j side)
  pub level : (t : ℕ) → schedule_level w t ≡ job_level j side t
  pub highest : (t : ℕ) → Highest (λ (v : ℕ). Filled j.header.continuity (InSet (side_envelopes j side) v) t) (job_level j side t)

abbrev pub Demand2 : Type 0
Demand2 = (s : List ℕ) (j : Job) (side : ℕ) (w : List ℕ) → Accepted s j → side ≤ 1 → Planned s side w → LeastCovering j side w

-- Demand 2, "built in document 01 from the published length-of-need formula", with document 02's rules for the straight part and for whole
-- panels: formula and rules themselves, multiplied out, with no rounding and no division. Each millimetre of the road whose end towards the
-- hazard is nearer to it than the approach length in whole panels is covered.
abbrev pub Demand2Formula : Type 0
Demand2Formula =
    (s : List ℕ) (j : Job) (side : ℕ) (w : List ℕ) → Accepted s j → side ≤ 1 → Planned s side w
    → (z : Hazard) → Memᴰ z j.hazards → z.side ≡ side → (traffic : Traffic) → reaches j.header z traffic ≡ true
    → (d t : ℕ) → Upstream traffic z d t → BelowApproach j.header z traffic d → OnRoad j.header t
    → z.level ≤ schedule_level w t

-- What lookup finds at t in the schedule of a job that requires a level there: the record of a run of that level that has t, or nothing where the level is 0.
abbrev pub ShowsLevel : (w : List ℕ) (rs : List Stretch) (t level : ℕ) → Found → Type 0
ShowsLevel w rs t level (found p) = (f : FoundRun w 0 (length (write_number (length rs))) rs t p) × (f.run.level ≡ level) × (1 ≤ level)
ShowsLevel w rs t level nowhere = level ≡ 0

pub record Looked (j : Job) (side : ℕ) (right left : List ℕ) (t : ℕ) : Type 0 where
  pub answer : Found
  pub replies : lookup right left side t ≡ accepted answer
  pub shows : ShowsLevel (asked side right left) (job_runs j side) t (job_level j side t) answer

-- Demand 2, reading: lookup in the planned schedule of the side asked for, whatever the other schedule is.
abbrev pub Demand2Lookup : Type 0
Demand2Lookup = (s : List ℕ) (j : Job) (side : ℕ) (right left : List ℕ) → Accepted s j → side ≤ 1 → Planned s side (asked side right left) → (t : ℕ)
    → Looked j side right left t

-- Demand 3, the writing: the planned schedule is the writing of a run list whose members are the side's runs.
pub record WritesRuns (j : Job) (side : ℕ) (w : List ℕ) : Type 0 where
  pub writes : w ≡ write_schedule (job_runs j side)
  pub run_list : is_run_list (job_runs j side) ≡ true
  pub runs : (r : Stretch) → Memᴰ r (job_runs j side) ↔ IsRun (job_level j side) r

abbrev pub Demand3Writing : Type 0
Demand3Writing = (s : List ℕ) (j : Job) (side : ℕ) (w : List ℕ) → Accepted s j → side ≤ 1 → Planned s side w → WritesRuns j side w

-- There is a planned schedule, for each side of each accepted job.
abbrev pub Demand3Planned : Type 0
Demand3Planned = (s : List ℕ) (j : Job) (side : ℕ) → Accepted s j → side ≤ 1 → Planned s side (write_schedule (job_runs j side))

-- Whatever plan writes, into whatever output, is the planned schedule of an accepted job.
pub record PlannedJob (s : List ℕ) (side : ℕ) (w : List ℕ) : Type 0 where
  pub job : Job
  pub job_is_accepted : Accepted s job
  pub side_ok : side ≤ 1
  pub planned : Planned s side w

abbrev pub PlanAccepted : Type 0
PlanAccepted = (s : List ℕ) (side room : ℕ) (p : PlannedSide) → plan s side room ≡ accepted p → PlannedJob s side p.schedule

-- Demand 3, equal schedules: two accepted jobs, or one taken twice, and a side of each.
abbrev pub Demand3Equal : Type 0
Demand3Equal =
    (s₁ s₂ : List ℕ) (j₁ j₂ : Job) (side₁ side₂ : ℕ) (w₁ w₂ : List ℕ)
    → Accepted s₁ j₁ → Accepted s₂ j₂ → side₁ ≤ 1 → side₂ ≤ 1 → Planned s₁ side₁ w₁ → Planned s₂ side₂ w₂
    → (w₁ ≡ w₂) ↔ ((t : ℕ) → job_level j₁ side₁ t ≡ job_level j₂ side₂ t)

-- "Equal schedules still mean equal levels at every millimetre, 0 outside a job's road": there the required level is 0.
abbrev pub Demand3OffRoad : Type 0
Demand3OffRoad = (s : List ℕ) (j : Job) (side : ℕ) → Accepted s j → (t : ℕ) → (OnRoad j.header t → ⊥) → job_level j side t ≡ 0

-- Alike in every header number but the hazard count.
abbrev pub Alike : (h k : Header) → Type 0
Alike h k = counted h k.count ≡ k

-- Demand 3, growth: the second job has every hazard of the first, at whatever index. Off the road both show 0.
abbrev pub Demand3Growth : Type 0
Demand3Growth =
    (s₁ s₂ : List ℕ) (j₁ j₂ : Job) (side : ℕ) (w₁ w₂ : List ℕ)
    → Accepted s₁ j₁ → Accepted s₂ j₂ → side ≤ 1 → Planned s₁ side w₁ → Planned s₂ side w₂
    → Alike j₁.header j₂.header → ((z : Hazard) → Memᴰ z j₁.hazards → Memᴰ z j₂.hazards)
    → (t : ℕ) → schedule_level w₁ t ≤ schedule_level w₂ t

-- A rising list of stations: the first, and those after it; equal neighbours allowed. Its last station.
abbrev pub RisingStations : ℕ → List ℕ → Type 0
RisingStations p [] = Unit {0}
RisingStations p (q ∷ qs) = (p ≤ q) × RisingStations q qs

abbrev pub last_of : ℕ → List ℕ → ℕ
last_of p [] = p
last_of p (q ∷ qs) = last_of q qs

-- The quantities of level v in a schedule over all lots of a list, added up; a refusal where one of the calls is refused.
unfoldable pub lots_total : List ℕ → (v p : ℕ) → List ℕ → Answer ℕ
lots_total w v p [] = accepted 0
lots_total w v p (q ∷ qs) = quantity w v p q >>= λ n. lots_total w v q qs >>= λ m. accepted (n + m)

-- Demand 3, quantities.
abbrev pub Demand3Quantities : Type 0
Demand3Quantities =
    (s : List ℕ) (j : Job) (side : ℕ) (w : List ℕ) → Accepted s j → side ≤ 1 → Planned s side w
    → (v : ℕ) → 1 ≤ v → v ≤ 6 → (p : ℕ) (qs : List ℕ) → RisingStations p qs
    → lots_total w v p qs ≡ accepted (millimetres (job_level j side) v p (last_of p qs))

-- The lots of a list of stations as ranges, one from each station to the next.
unfoldable pub lots_of : (p : ℕ) → List ℕ → List ℕ
lots_of p [] = []
lots_of p (q ∷ qs) = p ∷ q ∷ lots_of q qs

unfoldable pub added : List ℕ → ℕ
added [] = 0
added (n ∷ ns) = n + added ns

-- One call for a whole contract that is not refused: all places of its reply, added up.
pub record OneCall (w : List ℕ) (v : ℕ) (numbers : List ℕ) (total : ℕ) : Type 0 where
  pub done : (quantities_replied (quantities w v numbers)).answer ≡ accepted tt
  pub adds_up : added (quantities_replied (quantities w v numbers)).places ≡ total

-- Demand 3, quantities, with up to 64 lots in one call.
abbrev pub Demand3OneCall : Type 0
Demand3OneCall =
    (s : List ℕ) (j : Job) (side : ℕ) (w : List ℕ) → Accepted s j → side ≤ 1 → Planned s side w
    → (v : ℕ) → 1 ≤ v → v ≤ 6 → (p : ℕ) (qs : List ℕ) → RisingStations p qs → length qs ≤ most_ranges
    → OneCall w v (lots_of p qs) (millimetres (job_level j side) v p (last_of p qs))
