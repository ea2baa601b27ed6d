-- When a hazard may be added to an open job, in the words of document 01's tables and by inequalities.
-- Assumes nothing.
use Rattle.std.specs.Prelude.{ℕ, ◌+◌, ◌≤◌, ◌<◌, ◌≡◌, ◌↔◌, true, length}
use mathlib.Core.List.{List, Memᴰ}
use Rattle.base.specs.Answer.{accepted, replied}
use Rattle.job.specs.declared.Header.{Header}
use Rattle.job.specs.declared.Hazard.{Hazard}
use Rattle.job.specs.declared.NamedHazard.{NamedHazard}
use Rattle.open_memory.specs.Memory.{most_standing, standing}
use Rattle.open_job.specs.States.{are_open_states}
use Rattle.open_job.specs.Calls.{add_in}
use Rattle.open_job.specs.declared.OpenStates.{OpenStates}

-- Each of the six numbers lies in its range.
pub record InTable (h : Header) (z : Hazard) : Type 0 where
  -- "Side (0 right, 1 left)."
  pub side_top : z.side ≤ 1
  -- "s, from A to B − 1."
  pub start_low : h.begin ≤ z.start
  pub start_top : z.start < h.end
  -- "e, from s + 1 to B."
  pub end_low : z.start + 1 ≤ z.end
  pub end_top : z.end ≤ h.end
  -- "Near offset n .., 0 to 60,000."
  pub near_top : z.near ≤ 60000
  -- "Far offset f, n to 60,000."
  pub far_low : z.near ≤ z.far
  pub far_top : z.far ≤ 60000
  -- "Level 1 to 6."
  pub level_low : 1 ≤ z.level
  pub level_top : z.level ≤ 6

-- None of 12, 15, 4 and 5 applies.
pub record MayBeAdded (h : Header) (past : List NamedHazard) (name : ℕ) (z : Hazard) : Type 0 where
  -- Not "a name already standing".
  pub fresh : (p : NamedHazard) → Memᴰ p past → p.name ≡ name → ⊥
  -- Not "when 256 stand".
  pub room : length past < most_standing
  pub ranges : InTable h z
  -- Not a "reached hazard with n < M + D". Each side has adjacent traffic, which reaches it if n < C; far traffic reaches no others.
  pub clear : z.near < h.zone → h.offset + h.deflection ≤ z.near

-- In memory that keeps the rules, as an opening and calls leave it (`MemoryPromise`), an add is done exactly then.
abbrev pub AddPromise : Type 0
AddPromise =
    (m : OpenStates) (name : ℕ) (z : Hazard) → are_open_states m ≡ true
    → (replied (add_in m name z) ≡ accepted 0) ↔ MayBeAdded m.present.header (standing m.present) name z
