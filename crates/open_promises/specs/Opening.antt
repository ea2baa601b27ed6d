-- Document 02, request 3, opening: what it answers to any bytes.
-- Assumes nothing.
use Rattle.std.specs.Prelude.{ℕ, ◌≤◌, ◌<◌, ◌≡◌, ◌↔◌, ◌≢◌, List, [], ◌∷◌, replicate}
use Rattle.base.specs.Answer.{Answer, accepted, refused}
use Rattle.job.specs.declared.Header.{Header}
use Rattle.job.specs.declared.Hazard.{Hazard}
use Rattle.job.specs.Job.{Job, Fields, header_size, read_header, header_of}
use Rattle.planning.specs.Envelope.{accept_job}
use Rattle.schedule.specs.Plan.{plan}
use Rattle.open_memory.specs.Memory.{laid_out}
use Rattle.open_job.specs.declared.OpenStates.{OpenStates}
use Rattle.open_job.specs.States.{most_kept, nothing_kept, states_from}
use Rattle.open_job.specs.Calls.{open_states}

-- "Job bytes that carry no hazard": where their header can be read, its hazard count is 0.
abbrev pub CarriesNoHazard : (s : List ℕ) → Type 0
CarriesNoHazard s = (f : Fields) → read_header s ≡ accepted f → (header_of f.numbers).count ≡ 0

-- "It refuses as plan does without 9": number and value, on either side of plan and whatever the room of its output is.
abbrev pub OpeningRefusals : Type 0
OpeningRefusals =
    (s : List ℕ) (side room k v : ℕ) → side ≤ 1 → CarriesNoHazard s
    → (open_states s ≡ refused k v) ↔ ((plan s side room ≡ refused k v) × (k ≢ 9))

-- "And a hazard count above 0 is 3": at that number, 14, of a kind 2 job 15, whatever stands behind it.
abbrev pub OpeningWithHazards : Type 0
OpeningWithHazards =
    (s : List ℕ) (f : Fields) → read_header s ≡ accepted f → 0 < (header_of f.numbers).count
    → open_states s ≡ refused 3 (header_size (header_of f.numbers).kind)

-- The memory after an opening: no hazard stands, and nothing is kept.
abbrev pub empty_states : Header → OpenStates
empty_states h = states_from (laid_out h []) (replicate most_kept nothing_kept)

-- What opening answers to the bytes of an accepted job with these hazards: all of the memory, or 3.
abbrev pub opened_from : Header → List Hazard → Answer OpenStates
opened_from h [] = accepted (empty_states h)
opened_from h (z ∷ zs) = refused 3 (header_size h.kind)

-- Of every accepted job.
abbrev pub OpeningAccepted : Type 0
OpeningAccepted = (s : List ℕ) (j : Job) → accept_job s ≡ accepted j → open_states s ≡ opened_from j.header j.hazards
