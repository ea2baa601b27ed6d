-- What the takers of a walk have taken.
-- Assumes nothing.
use Rattle.std.specs.Prelude.{ℕ, ◌+◌, ◌≤◌, ◌≡◌, List, [], length, get_or, ltb, if◌then◌else◌, Option, Some, None}
use native.Mathlib.Omega.{arith}
use Rattle.job.specs.declared.Header.{Header}
use Rattle.job.specs.declared.Hazard.{Hazard}
use Rattle.job.specs.Job.{hazard_of}
use Rattle.runs.specs.Keys.{keyed_envelopes, Keyed}
use Rattle.planning.specs.declared.Overhangs.{Overhangs}
use Rattle.planning.specs.declared.window.Window.{Window}
use Rattle.planning.specs.Window.{standing_in}
use Rattle.planning.specs.Reply.{Cuts, cuts_of}

-- The envelopes of a side

-- The arrays have room for the envelopes of the hazards from an index on, and those taken say their own indices. A side above 1 has none.
pub record SideReady (keys ends : List ℕ) (count side : ℕ) (h : Header) (index : ℕ) : Type 0 where
  pub keyed : Keyed keys ends count
  pub few : count ≤ index
  pub for_keys : side ≤ 1 → h.count ≤ length keys
  pub for_ends : side ≤ 1 → h.count ≤ length ends

-- A hazard that gives no envelope leaves the room.
pub side_passed_by : {keys ends : List ℕ} {count side : ℕ} {h : Header} {index : ℕ} → SideReady keys ends count side h index → SideReady keys ends count side h (index + 1)
side_passed_by r = record { keyed = r.keyed; few = omega (arith, r.few); for_keys = r.for_keys; for_ends = r.for_ends }

-- Envelopes in two arrays, and the greatest overhangs among them.
abbrev pub cuts_taken : (keys ends : List ℕ) (count : ℕ) → Overhangs → Cuts
cuts_taken keys ends count o = record { envelopes = keyed_envelopes keys ends count; overhangs = o }

-- They are those of these hazards.
abbrev pub side_took : (keys ends : List ℕ) (count : ℕ) → Overhangs → (side : ℕ) → Window → Header → List Hazard → Type 0
side_took keys ends count o side w h zs = cuts_taken keys ends count o ≡ cuts_of h side (standing_in w zs)

-- The hazard asked for

-- It is found where there are so many hazards.
abbrev pub asked_took : (index : ℕ) (found : Option Hazard) → List Hazard → Type 0
asked_took index found zs = found ≡ (if ltb index (length zs) then Some (get_or zs index (hazard_of [])) else None)
