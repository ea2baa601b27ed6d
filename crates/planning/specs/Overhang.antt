-- The greatest overhang at an end of the road, in the paper's words.
-- Assumes nothing.
use Rattle.std.specs.Prelude.{ℕ, ◌≤◌, ◌<◌, ◌≡◌, true}
use mathlib.Core.List.{Memᴰ}
use Rattle.job.specs.declared.Hazard.{Hazard}
use Rattle.job.specs.Job.{Job}
use Rattle.planning.specs.declared.Overhangs.{Overhangs}
use Rattle.planning.specs.Envelope.{reached, overhang}

-- A hazard of a side of the job that has an envelope.
pub record SideHazard (j : Job) (side : ℕ) (z : Hazard) : Type 0 where
  pub member : Memᴰ z j.hazards
  pub on_side : z.side ≡ side
  pub reach : reached j.header z ≡ true

-- "Among the asked side's hazards, the greatest overhang", at the one end or the other, "0 where none".
pub record Greatest (j : Job) (side : ℕ) (end : Overhangs → ℕ) (n : ℕ) : Type 0 where
  pub none_greater : (z : Hazard) → SideHazard j side z → end (overhang j.header z) ≤ n
  pub attained : 0 < n → (z : Hazard) × SideHazard j side z × (end (overhang j.header z) ≡ n)
