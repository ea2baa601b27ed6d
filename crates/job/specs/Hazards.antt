-- Sources of hazards: what a step answers, and the places of a stored job as one.
-- Assumes nothing.
use Rattle.std.specs.Prelude.{ℕ, ◌≤◌, ◌<◌, List, [], ◌∷◌, ◌++◌, length, take, drop, map, get_or, Result}
use Rattle.base.specs.Answer.{Answer, accepted, ◌>>=◌}
use Rattle.refusal.specs.Refusal.{answer_of}
use Rattle.refusal.specs.declared.Refusal.{Refusal}
use Rattle.job.specs.declared.Header.{Header}
use Rattle.job.specs.declared.Hazard.{Hazard}
use Rattle.job.specs.declared.NamedHazard.{NamedHazard}
use Rattle.job.specs.Job.{Job, unnamed}
use Rattle.job.specs.Reply.{unused}
use Rattle.job.specs.Fits.{HazardFits}

-- The job of a source behind the next hazard: what is left, with that hazard behind those in the list; or its refusal.
abbrev pub after_hazard : (got : List Hazard) → Result Hazard Refusal → (left : List Hazard → Answer Job) → Answer Job
after_hazard got r left = answer_of r >>= λ z. left (got ++ z ∷ [])

-- And behind the last one.
abbrev pub after_all : Header → (got : List Hazard) → Result (Unit {0}) Refusal → Answer Job
after_all h got r = answer_of r >>= λ _. accepted (record { header = h; hazards = got })

-- The first places of a stored job hold its hazards, each in its ranges.
pub record PlacesFit (places : List NamedHazard) (h : Header) : Type 0 where
  pub room : h.count ≤ length places
  pub each : (i : ℕ) → i < h.count → HazardFits h (unnamed (get_or places i unused))

-- The job of the hazards in a list and of the k places behind them.
abbrev pub stored_rest : (places : List NamedHazard) → Header → (k : ℕ) → (got : List Hazard) → Answer Job
stored_rest places h k got = accepted (record { header = h; hazards = got ++ map unnamed (take k (drop (length got) places)) })
