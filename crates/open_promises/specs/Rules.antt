-- What the rules of an open job's memory mean: which memory the calls refuse, which memory calls can leave, and when two open jobs are equal.
-- Assumes nothing.
use Rattle.std.specs.Prelude.{ℕ, ◌≤◌, ◌≡◌, ◌↔◌, true, false, length, take}
use mathlib.Core.List.{List, Memᴰ}
use Rattle.base.specs.Answer.{refused}
use Rattle.job.specs.declared.Hazard.{Hazard}
use Rattle.job.specs.declared.NamedHazard.{NamedHazard}
use Rattle.job.specs.Job.{Job}
use Rattle.demands.specs.Demands.{Alike}
use Rattle.open_memory.specs.Memory.{most_standing, standing}
use Rattle.open_job.specs.declared.KeptState.{KeptState}
use Rattle.open_job.specs.declared.OpenStates.{OpenStates}
use Rattle.open_job.specs.States.{most_kept, greatest_state_number, is_used, kept_states, kept_under, are_open_states}
use Rattle.open_job.specs.Calls.{add_in, withdraw_in, schedule_in, reach_in, keep_in, return_in}
use Rattle.open_promises.specs.Lists.{Call, CallsFrom}

-- Memory that breaks the rules

-- Each call but opening is refused 3 with 0, whatever it is asked.
pub record AllRefused (m : OpenStates) : Type 0 where
  pub adds : (name : ℕ) (z : Hazard) → add_in m name z ≡ refused 3 0
  pub withdrawals : (name : ℕ) → withdraw_in m name ≡ refused 3 0
  pub schedules : (side room : ℕ) → schedule_in m side room ≡ refused 3 0
  pub reaches : (name : ℕ) → reach_in m name ≡ refused 3 0
  pub keeps : (number : ℕ) → keep_in m number ≡ refused 3 0
  pub returns : (number : ℕ) → return_in m number ≡ refused 3 0

-- "Any call but opening, on memory whose header, names or hazards break these rules, is refused 3 with 0 before any other test."
abbrev pub RulesPromise : Type 0
RulesPromise = (m : OpenStates) → are_open_states m ≡ false → AllRefused m

-- Memory that keeps them

-- Each array has the length of its type: eight kept states, and 256 places in each state. A list may have any length.
pub record HasPlaces (m : OpenStates) : Type 0 where
  pub present_state : length m.present.hazards ≡ most_standing
  pub eight : length m.kept ≡ most_kept
  pub states_kept : (k : KeptState) → Memᴰ k (kept_states m) → length k.hazards ≡ most_standing

-- Memory keeps the rules exactly if an opening and calls can leave it so.
abbrev pub MemoryPromise : Type 0
MemoryPromise = (m : OpenStates) → HasPlaces m → (are_open_states m ≡ true) ↔ ((s : List ℕ) × (j : Job) × (calls : List Call) × CallsFrom s j calls m)

-- Equal open jobs

-- The same hazards stand under the same names.
abbrev pub SameHazards : (ps qs : List NamedHazard) → Type 0
SameHazards ps qs = (p : NamedHazard) → Memᴰ p ps ↔ Memᴰ p qs

-- Those of a state that is kept.
abbrev pub kept_hazards : KeptState → List NamedHazard
kept_hazards k = take k.count k.hazards

-- The same is kept: nothing in both, or a state in both with the same hazards under the same names.
pub data SameKept (k l : KeptState) : Type 0 where
  both_nothing : is_used k ≡ false → is_used l ≡ false → SameKept k l
  both_states : is_used k ≡ true → is_used l ≡ true → SameHazards (kept_hazards k) (kept_hazards l) → SameKept k l

-- Headers alike in every number but the hazard count, which is how many stand; the same hazards; and the same kept under each number.
pub record SameOpenJob (a b : OpenStates) : Type 0 where
  pub header : Alike a.present.header b.present.header
  pub hazards : SameHazards (standing a.present) (standing b.present)
  pub kept : (number : ℕ) → number ≤ greatest_state_number → SameKept (kept_under a number) (kept_under b number)

-- As `include/barrier.h` has it: "two open jobs are equal, byte for byte, exactly if their headers are equal, the same hazards stand under the same
-- names, and the same states are kept under the same numbers, however they came there".
abbrev pub EqualPromise : Type 0
EqualPromise = (a b : OpenStates) → HasPlaces a → HasPlaces b → are_open_states a ≡ true → are_open_states b ≡ true → (a ≡ b) ↔ SameOpenJob a b
