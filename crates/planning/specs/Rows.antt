-- When a job is refused, and with what value: rows 1 to 5 and 7 of document 01's table.
-- Assumes nothing.
use Rattle.std.specs.Prelude.{ℕ, ◌+◌, ◌≤◌, ◌<◌, ◌≡◌, true, length}
use mathlib.Core.List.{List, ◌∷◌, ◌++◌, Memᴰ}
use Rattle.base.specs.Answer.{accepted}
use Rattle.refusal.specs.declared.Refusal.{Refusal}
use Rattle.refusal.specs.declared.Refusal.TheVariants as Row
use Rattle.job.specs.declared.Header.{Header}
use Rattle.job.specs.declared.Hazard.{Hazard}
use Rattle.job.specs.Job.{Job, read_job}
use Rattle.job.specs.Rows.{ReadRow}
use Rattle.planning.specs.Envelope.{reached}
use Rattle.job.specs.Fits.{JobFits}

-- A "reached hazard with n < M + D".
pub record Near (h : Header) (z : Hazard) : Type 0 where
  pub reach : reached h z ≡ true
  pub near : z.near < h.offset + h.deflection

-- A hazard that passes 5.
pub record Passed (h : Header) (z : Hazard) : Type 0 where
  pub clear : reached h z ≡ true → h.offset + h.deflection ≤ z.near

-- An accepted job: in its ranges, and its hazards pass 5.
pub record AcceptedFits (j : Job) : Type 0 where
  pub fits : JobFits j
  pub passed : (z : Hazard) → Memᴰ z j.hazards → Passed j.header z

-- "Hazards in order, both sides": the hazard with an index stands too near, and those before it pass.
pub record FirstNear (h : Header) (zs : List Hazard) (index : ℕ) : Type 0 where
  pub before : List Hazard
  pub hazard : Hazard
  pub after : List Hazard
  pub split : zs ≡ before ++ hazard ∷ after
  pub passed : (z : Hazard) → Memᴰ z before → Passed h z
  pub fault : Near h hazard
  pub place : index ≡ length before

-- Of a job that could be read.
abbrev pub FirstNearOf : (s : List ℕ) (index : ℕ) → Type 0
FirstNearOf s index = (j : Job) × (read_job s ≡ accepted j) × FirstNear j.header j.hazards index

-- The table's rows of a job: those of its reading, and 5.
pub data JobRow (r : Refusal) (s : List ℕ) : Type 0 where
  of_reading : ReadRow r s → JobRow r s
  -- 5: "hazard index"; "reached hazard with n < M + D".
  near_barrier : (index : ℕ) → r ≡ Row.NearBarrier index → FirstNearOf s index → JobRow r s
