-- What each function of the planning answers, and what it answers for.
-- Assumes nothing.
use Rattle.std.specs.Prelude.{ℕ, List, [], ◌∷◌, ◌++◌, map, Option, Some, None, Result, Ok, Err}
use Rattle.base.specs.Answer.{Answer, accepted, ◌>>=◌}
use Rattle.refusal.specs.Refusal.{refusal}
use Rattle.refusal.specs.declared.Refusal.{Refusal}
use Rattle.job.specs.declared.Header.{Header}
use Rattle.job.specs.declared.Hazard.{Hazard}
use Rattle.runs.specs.declared.Stretch.{Stretch}
use Rattle.runs.specs.declared.RunList.{RunList}
use Rattle.runs.specs.RunList.{runs_of}
use Rattle.planning.specs.declared.Overhangs.{Overhangs}
use Rattle.planning.specs.declared.envelope.Traffic.{Traffic}
use Rattle.planning.specs.declared.envelope.Traffic.TheVariants.{Forward, Opposite}
use Rattle.planning.specs.declared.envelope.CutEnvelope.{CutEnvelope}
use Rattle.planning.specs.Envelope as spec
use Rattle.planning.specs.Required.{job_runs}

abbrev pub traffic_of : Traffic → spec.Traffic
traffic_of Forward = spec.forward
traffic_of Opposite = spec.opposite

-- Envelopes of a side, cut, and the greatest overhangs among them.
pub record Cuts : Type 0 where
  pub envelopes : List Stretch
  pub overhangs : Overhangs

abbrev pub no_cuts : Cuts
no_cuts = record { envelopes = []; overhangs = spec.no_overhang }

-- Those of a side's hazards.
abbrev pub cuts_of : Header → (side : ℕ) → List Hazard → Cuts
cuts_of h side zs = record { envelopes = map (spec.cut_to_road h) (spec.envelopes h side zs); overhangs = spec.overhangs h side zs }

-- And with others behind them.
infixl 20 ◌followed_by◌
abbrev pub ◌followed_by◌ : Cuts → Cuts → Cuts
a followed_by b = record { envelopes = a.envelopes ++ b.envelopes; overhangs = spec.greater a.overhangs b.overhangs }

-- What one hazard gives: an envelope, or none.
abbrev pub cuts_given : Option CutEnvelope → Cuts
cuts_given (Some e) = record { envelopes = e.stretch ∷ []; overhangs = e.overhangs }
cuts_given None = no_cuts

-- The runs of a side of a job in bytes.
unfoldable pub accepted_runs : (s : List ℕ) (side : ℕ) → Answer (List Stretch)
accepted_runs s side = spec.accept_job s >>= λ j. accepted (job_runs j side)

abbrev pub runs_answer : Result RunList Refusal → Answer (List Stretch)
runs_answer (Ok l) = accepted (runs_of l)
runs_answer (Err r) = refusal r
