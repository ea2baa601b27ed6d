-- Plan: its complete reply, and the output memory.
-- Assumes nothing.
use Rattle.std.specs.Prelude.{ℕ, List, ◌++◌, length, drop, leb}
use Rattle.base.specs.Answer.{Answer, accepted, refused, ◌>>=◌}
use Rattle.refusal.specs.Refusal.{unless_refuse}
use Rattle.refusal.specs.declared.Refusal.TheVariants as Row
use Rattle.planning.specs.declared.Overhangs.{Overhangs}
use Rattle.planning.specs.Envelope.{side_overhangs, accept_job}
use Rattle.planning.specs.Required.{job_runs}
use Rattle.schedule.specs.declared.reply.Written.{Written}
use Rattle.schedule.specs.Schedule.{write_schedule}

-- What plan gives for a side: the schedule, and "among the asked side's hazards, the greatest overhang in millimetres at each end".
pub record PlannedSide : Type 0 where
  pub schedule : List ℕ
  pub overhangs : Overhangs

-- A schedule to be written into `room` bytes: 9 returns the bytes needed.
unfoldable pub fitted : (schedule : List ℕ) (overhangs : Overhangs) (room : ℕ) → Answer PlannedSide
fitted w o room = unless_refuse (leb (length w) room) (Row.Room (length w)) >>= λ _. accepted (record { schedule = w; overhangs = o })

-- The schedule to be written and the overhangs, or the refusal: "8; then numbers as they stand, each for 1, 2 and its range; 7; hazards in
-- order, both sides", for 5; "9".
unfoldable pub plan : (s : List ℕ) (side room : ℕ) → Answer PlannedSide
plan s side room =
    unless_refuse (leb side 1) Row.Argument >>= λ _.
    accept_job s >>= λ j.
    fitted (write_schedule (job_runs j side)) (side_overhangs j side) room

-- "Gives the bytes written", "and the reply carries" the overhangs; a refusal carries none.
unfoldable pub bytes_written : Answer PlannedSide → Answer Written
bytes_written a = a >>= λ p. accepted (record { bytes = length p.schedule; overhangs = p.overhangs })

-- The output memory afterwards: the schedule from its first byte and the bytes behind it untouched; unchanged after a refusal.
abbrev pub output_after : Answer PlannedSide → (out : List ℕ) → List ℕ
output_after (accepted p) out = p.schedule ++ drop (length p.schedule) out
output_after (refused k v) out = out
