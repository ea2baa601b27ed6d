-- Document 02, request 4: what a job of kind 1, which has no panel length, requires.
-- Assumes nothing.
use Rattle.std.specs.Prelude.{ℕ, ◌≡◌, true, List}
use Rattle.approach.specs.Approach.{approach_length}
use Rattle.job.specs.declared.Header.{Header}
use Rattle.job.specs.declared.Hazard.{Hazard}
use Rattle.job.specs.Job.{Job}
use Rattle.planning.specs.Envelope.{Traffic, runout, reaches, reach_of, offset_of, lengthening}
use Rattle.schedule.specs.Planned.{Accepted}

-- "Kind 1 acts as panel length 1": each reaching traffic lengthens an envelope by its approach length, as that is.
pub record NotRaised (h : Header) : Type 0 where
  pub panel : h.panel ≡ 1
  pub lengths : (z : Hazard) (t : Traffic) → reaches h z t ≡ true
      → lengthening h z t ≡ approach_length h.along h.across h.straight (runout h t) (reach_of h z t) (offset_of h z t)

abbrev pub KindOne : Type 0
KindOne = (s : List ℕ) (j : Job) → Accepted s j → j.header.kind ≡ 1 → NotRaised j.header
