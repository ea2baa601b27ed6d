-- The call level: its complete reply.
-- Assumes nothing.
use Rattle.std.specs.Prelude.{ℕ, List, leb}
use Rattle.base.specs.Answer.{Answer, accepted, ◌>>=◌}
use Rattle.refusal.specs.Refusal.{unless_refuse}
use Rattle.refusal.specs.declared.Refusal.TheVariants as Row
use Rattle.planning.specs.Envelope.{accept_job}
use Rattle.planning.specs.Required.{job_level}

-- "Give the required level there". "Refusals are those of plan without 9": 8, then the job's, in plan's order. ("Directly from the hazards,
-- without making runs" is said of the code.)
unfoldable pub level_at : (s : List ℕ) (side t : ℕ) → Answer ℕ
level_at s side t =
    unless_refuse (leb side 1) Row.Argument >>= λ _.
    accept_job s >>= λ j.
    accepted (job_level j side t)
