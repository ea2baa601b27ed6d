-- The call reach: how far the withdrawal of one hazard reaches, its complete reply. Document 02, request 14, as an answer.
-- Assumes nothing.
use Rattle.std.specs.Prelude.{ℕ, ◌+◌, ◌-◌, List, length, ltb, if◌then◌else◌}
use Rattle.base.specs.Answer.{Answer, accepted, ◌>>=◌}
use Rattle.refusal.specs.Refusal.{unless_refuse}
use Rattle.refusal.specs.declared.Refusal.TheVariants as Row
use Rattle.job.specs.declared.Header.{Header}
use Rattle.job.specs.declared.Hazard.{Hazard}
use Rattle.runs.specs.declared.Stretch.{Stretch}
use Rattle.planning.specs.Envelope.{reached, cut_to_road, cut_envelope, overhang, no_overhang, accept_job}
use Rattle.planning.specs.Approached.{hazard_at}
use Rattle.withdrawal.specs.declared.reply.Reach.{Reach}

-- The stretch

-- A stretch "lengthened by G at both ends". Stations begin at 0, and there the subtraction stops.
unfoldable pub lengthened_at_both_ends : (G : ℕ) → Stretch → Stretch
lengthened_at_both_ends G e = record { start = e.start - G; end = e.end + G; level = e.level }

-- "Its envelope lengthened by G at both ends": the envelope with approach lengths raised to whole panels, cut at A and B.
unfoldable pub withdrawal_reach : Header → Hazard → Stretch
withdrawal_reach h z = lengthened_at_both_ends h.continuity (cut_envelope h z)

-- The part of it on the road, since outside A and B nothing stands: from the greater of A and start − G to the lesser of B and end + G.
unfoldable pub road_reach : Header → Hazard → Stretch
road_reach h z = cut_to_road h (withdrawal_reach h z)

-- What is told of a hazard

-- "Where it has no envelope": its side, and zeros.
abbrev pub no_reach : (side : ℕ) → Reach
no_reach side = record { side = side; start = 0; end = 0; overhangs = no_overhang; from = 0; to = 0 }

-- Its side, its envelope, cut, its own overhangs, and the stretch outside which its withdrawal alters no level of that side.
abbrev pub envelope_reach : Header → Hazard → Reach
envelope_reach h z = record {
  side = z.side;
  start = (cut_envelope h z).start;
  end = (cut_envelope h z).end;
  overhangs = overhang h z;
  from = (road_reach h z).start;
  to = (road_reach h z).end;
}

unfoldable pub hazard_reach : Header → Hazard → Reach
hazard_reach h z = if reached h z then envelope_reach h z else no_reach z.side

-- The call

-- Plan's refusals without 8 and 9, since no side and no output is asked for; then 14 where there is no such hazard.
unfoldable pub reach : (s : List ℕ) (index : ℕ) → Answer Reach
reach s index =
    accept_job s >>= λ j.
    unless_refuse (ltb index (length j.hazards)) Row.Hazard >>= λ _.
    accepted (hazard_reach j.header (hazard_at j index))
