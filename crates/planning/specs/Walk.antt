-- The walk over a job's hazards: their tests, in order.
-- Assumes nothing.
use Rattle.std.specs.Prelude.{ℕ, Bool, true, false, Option, Some, None}
use Rattle.base.specs.Answer.{Answer, accepted, ◌>>=◌}
use Rattle.refusal.specs.Refusal.{refusal}
use Rattle.refusal.specs.declared.Refusal.TheVariants as Row
use Rattle.job.specs.declared.Header.{Header}
use Rattle.job.specs.Job.{Job}
use Rattle.planning.specs.Envelope.{test_hazards}

-- 5, where a hazard stood too near.
abbrev pub near_answer : Option ℕ → Answer (Unit {0})
near_answer None = accepted tt
near_answer (Some index) = refusal (Row.NearBarrier index)

-- The first hazard that stands too near, where the hazard with an index does, or does not.
abbrev pub near_behind : (near : Bool) (index : ℕ) → Option ℕ → Option ℕ
near_behind true index None = Some index
near_behind true index (Some first) = Some first
near_behind false index first = first

-- The tests of the hazards of a job behind a header.
abbrev pub tests_of : Header → Answer Job → Answer (Unit {0})
tests_of h a = a >>= λ j. test_hazards h 0 j.hazards
