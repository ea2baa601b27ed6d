-- Which traffic reaches a hazard, its envelope, what of it lies on the road and what hangs over, and refusal 5.
-- Assumes nothing.
use Rattle.std.specs.Prelude.{ℕ, ◌+◌, ◌-◌, min, max, ◌≤◌, ◌<◌, ◌≡◌, Bool, true, ◌&&◌, ◌||◌, not, ltb, eqb, if◌then◌else◌}
use mathlib.Core.List.{List, [], ◌∷◌, map, Memᴰ}
use Rattle.base.specs.Answer.{Answer, accepted, ◌>>=◌}
use Rattle.refusal.specs.Refusal.{unless_refuse}
use Rattle.refusal.specs.declared.Refusal.TheVariants as Row
use Rattle.approach.specs.Panel.{raised_length, BelowRaised}
use Rattle.job.specs.declared.Header.{Header}
use Rattle.job.specs.declared.Hazard.{Hazard}
use Rattle.job.specs.Job.{Job, read_job}
use Rattle.runs.specs.declared.Stretch.{Stretch}
use Rattle.planning.specs.declared.Overhangs.{Overhangs}

-- Traffic

pub data Traffic : Type 0 where
  forward opposite : Traffic

-- "LO, runout length of opposite traffic; 0 means one-way or separated": there is no opposite traffic then.
abbrev pub present : Header → Traffic → Bool
present h forward = true
present h opposite = ltb 0 h.opposite

-- "The adjacent traffic of the right side is forward; of the left side opposite. With LO = 0, forward is adjacent to both sides and there is no far traffic."
-- (Opposite traffic is then not present, so nothing asks on which side it would be.)
abbrev pub adjacent : Header → (side : ℕ) → Traffic → Bool
adjacent h side forward = eqb side 0 || eqb h.opposite 0
adjacent h side opposite = eqb side 1

-- The adjacent traffic of a side.
unfoldable pub adjacent_traffic : Header → (side : ℕ) → Traffic
adjacent_traffic h side = if adjacent h side forward then forward else opposite

-- A traffic that is there and adjacent, as this one is (law is_adjacent).
pub record Adjacent (h : Header) (side : ℕ) (t : Traffic) : Type 0 where
  pub there : present h t ≡ true
  pub beside : adjacent h side t ≡ true

abbrev pub runout : Header → Traffic → ℕ
runout h forward = h.forward
runout h opposite = h.opposite

-- Reach

-- What a traffic adds to the offsets of a side: nothing where it is adjacent, W where it is far.
unfoldable pub farther : Header → (side : ℕ) → Traffic → ℕ
farther h side t = if adjacent h side t then 0 else h.way

-- "Adjacent traffic reaches the hazard if n < C"; "far traffic reaches it if n + W < C".
unfoldable pub reaches : Header → Hazard → Traffic → Bool
reaches h z t = present h t && ltb (z.near + farther h z.side t) h.zone

unfoldable pub reached : Header → Hazard → Bool
reached h z = reaches h z forward || reaches h z opposite

-- "R is the lesser of f and C, and m = M"; of far traffic "the lesser of f + W and C, and m = M + W".
unfoldable pub reach_of : Header → Hazard → Traffic → ℕ
reach_of h z t = min (z.far + farther h z.side t) h.zone

unfoldable pub offset_of : Header → Hazard → Traffic → ℕ
offset_of h z t = h.offset + farther h z.side t

-- By how much a traffic lengthens the envelope at the end that it approaches: its approach length in whole panels where it reaches the hazard.
unfoldable pub lengthening : Header → Hazard → Traffic → ℕ
lengthening h z t =
    if reaches h z t
    then raised_length h.panel h.along h.across h.straight (runout h t) (reach_of h z t) (offset_of h z t)
    else 0

-- Envelope

-- "A reached hazard's envelope is [s, e), lengthened by each reaching traffic's approach length at the end that it approaches."
-- "Forward traffic approaches from lower stations, opposite from higher." Not cut; stations begin at 0, and there the subtraction stops.
unfoldable pub envelope : Header → Hazard → Stretch
envelope h z = record { start = z.start - lengthening h z forward; end = z.end + lengthening h z opposite; level = z.level }

-- A traffic's station upstream of a hazard, d whole millimetres before its end on that side.
abbrev pub Upstream : Traffic → Hazard → (d t : ℕ) → Type 0
Upstream forward z d t = t + d + 1 ≡ z.start
Upstream opposite z d t = t ≡ z.end + d

-- A distance below a traffic's approach length in whole panels, multiplied out: no rounding and no division.
abbrev pub BelowApproach : Header → Hazard → Traffic → (d : ℕ) → Type 0
BelowApproach h z t d = BelowRaised h.panel h.along h.across h.straight (runout h t) (reach_of h z t) (offset_of h z t) d

-- What an envelope is to have, by formula, rule and raising themselves: the hazard's own millimetres, and upstream of it those whose end
-- towards it is nearer than a reaching traffic's length in whole panels.
pub data Asked (h : Header) (z : Hazard) (t : ℕ) : Type 0 where
  beside : z.start ≤ t → t < z.end → Asked h z t
  upstream : (traffic : Traffic) → reaches h z traffic ≡ true → (d : ℕ) → Upstream traffic z d t → BelowApproach h z traffic d → Asked h z t

-- The envelopes of a side. "A hazard that nobody reaches has none."
unfoldable pub envelopes : Header → (side : ℕ) → List Hazard → List Stretch
envelopes h side [] = []
envelopes h side (z ∷ zs) =
    let r = envelopes h side zs in
    if eqb z.side side && reached h z then envelope h z ∷ r else r

-- The road

-- "Envelopes are cut at A and B."
unfoldable pub cut_to_road : Header → Stretch → Stretch
cut_to_road h e = record { start = max h.begin e.start; end = min e.end h.end; level = e.level }

unfoldable pub cut_envelope : Header → Hazard → Stretch
cut_envelope h z = cut_to_road h (envelope h z)

-- The envelopes of a side that the level is required of: cut "before gaps are added".
abbrev pub side_envelopes : Job → (side : ℕ) → List Stretch
side_envelopes j side = map (cut_to_road j.header) (envelopes j.header side j.hazards)

-- "Overhang in millimetres at each end": by how much the envelope, not cut, begins before A and ends behind B; 0 where it does not.
-- A + length − s and e + length − B: by sums, because the envelope itself may begin below station 0.
unfoldable pub overhang : Header → Hazard → Overhangs
overhang h z = record { before = h.begin + lengthening h z forward - z.start; after = z.end + lengthening h z opposite - h.end }

abbrev pub no_overhang : Overhangs
no_overhang = record { before = 0; after = 0 }

-- The greater one, at each end by itself.
unfoldable pub greater : Overhangs → Overhangs → Overhangs
greater a b = record { before = max a.before b.before; after = max a.after b.after }

-- "Among the asked side's hazards, the greatest overhang in millimetres at each end, 0 where none." Only a reached hazard has an envelope.
unfoldable pub overhangs : Header → (side : ℕ) → List Hazard → Overhangs
overhangs h side [] = no_overhang
overhangs h side (z ∷ zs) =
    let r = overhangs h side zs in
    if eqb z.side side && reached h z then greater (overhang h z) r else r

abbrev pub side_overhangs : Job → (side : ℕ) → Overhangs
side_overhangs j side = overhangs j.header side j.hazards

-- A millimetre of the road, [A, B).
abbrev pub OnRoad : Header → (t : ℕ) → Type 0
OnRoad h t = (h.begin ≤ t) × (t < h.end)

-- No envelope begins before A or ends after B, by sums. Before document 02's request 8 a job with one that did was refused, with 6 if with nothing
-- else.
abbrev pub StaysOnRoad : Job → Type 0
StaysOnRoad j = (z : Hazard) → Memᴰ z j.hazards → reached j.header z ≡ true
    → (j.header.begin + lengthening j.header z forward ≤ z.start) × (z.end + lengthening j.header z opposite ≤ j.header.end)

-- Refusal 5

-- 5: "reached hazard with n < M + D".
unfoldable pub stands_near : Header → Hazard → Bool
stands_near h z = reached h z && ltb z.near (h.offset + h.deflection)

-- It returns the hazard index.
unfoldable pub test_hazard : Header → (index : ℕ) → Hazard → Answer (Unit {0})
test_hazard h i z = unless_refuse (not (stands_near h z)) (Row.NearBarrier i)

-- "Hazards in order, both sides."
unfoldable pub test_hazards : Header → (index : ℕ) → List Hazard → Answer (Unit {0})
test_hazards h i [] = accepted tt
test_hazards h i (z ∷ zs) = test_hazard h i z >>= λ _. test_hazards h (i + 1) zs

-- "An accepted job is one to which none of 1 to 7 applies."
unfoldable pub accept_job : (s : List ℕ) → Answer Job
accept_job s = read_job s >>= λ j. test_hazards j.header 0 j.hazards >>= λ _. accepted j
