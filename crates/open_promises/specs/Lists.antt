-- Lists of calls on an open job: which hazards stand after them and which states are kept, apart from the memory, and what the calls then
-- answer.
-- Assumes nothing.
use Rattle.std.specs.Prelude.{ℕ, ◌≤◌, ◌≡◌, ◌↔◌, Bool, true, false, not, length, leb, eqb, if◌then◌else◌}
use mathlib.Core.List.{List, [], ◌∷◌, ◌++◌, map, foldl, Memᴰ}
use Rattle.base.specs.Answer.{Answer, accepted, ◌>>=◌, is_accepted, replied}
use Rattle.refusal.specs.Refusal.{unless_refuse}
use Rattle.refusal.specs.declared.Refusal.TheVariants as Row
use Rattle.job.specs.declared.Header.{Header}
use Rattle.job.specs.declared.Hazard.{Hazard}
use Rattle.job.specs.declared.NamedHazard.{NamedHazard}
use Rattle.job.specs.declared.StoredJob.{StoredJob}
use Rattle.job.specs.Job.{Job, named, unnamed, made_from}
use Rattle.job.specs.Writing.{write_job}
use Rattle.planning.specs.Envelope.{accept_job}
use Rattle.schedule.specs.Plan.{plan}
use Rattle.open_memory.specs.Memory.{most_standing, greatest_name, standing, laid_out, stands, without, admit}
use Rattle.open_job.specs.States.{greatest_state_number, nothing_kept, kept_from, state_of, is_used, kept_under, are_open_states}
use Rattle.open_job.specs.Calls.{test_add, memory_after, open_states, add_in, withdraw_in, schedule_in, keep_in, return_in}
use Rattle.open_job.specs.declared.KeptState.{KeptState}
use Rattle.open_job.specs.declared.OpenStates.{OpenStates}

-- The calls

-- Add and withdraw: the calls that edit the present state.
pub data Edit : Type 0 where
  add : (name : ℕ) → Hazard → Edit
  withdraw : (name : ℕ) → Edit

-- "Calls after that: add, withdraw, schedule of a side"; and "keep and return", with a state number.
pub data Call : Type 0 where
  edit : Edit → Call
  schedule : (side room : ℕ) → Call
  keep_as : (number : ℕ) → Call
  return_to : (number : ℕ) → Call

-- "Names become 0 to 65,535": which names an add can have. A withdrawal may have any: one that does not stand is 12.
abbrev pub Nameable : Edit → Type 0
Nameable (add name z) = name ≤ greatest_name
Nameable (withdraw name) = Unit {0}

-- Apart from the memory

-- What is kept under a number.
pub data Kept (A : Type 0) : Type 0 where
  nothing : Kept A
  state : A → Kept A

-- The present state, and what is kept under each number. A state is of any kind: the hazards that stand, or the edits that count.
pub record States (A : Type 0) : Type 0 where
  pub present : A
  pub kept : (number : ℕ) → Kept A

module _ {A : Type 0} where
  abbrev pub is_kept : Kept A → Bool
  is_kept nothing = false
  is_kept (state a) = true

  -- "Opening empties all eight."
  abbrev pub opened : A → States A
  opened a = record { present = a; kept = λ number. nothing }

  -- "After a return, the open job is as when that state was last kept ..; other kept states are untouched." Where nothing is kept it is
  -- refused; above 7 nothing is ever kept.
  abbrev pub returned_to : Kept A → States A → States A
  returned_to nothing s = s
  returned_to (state a) s = record { present = a; kept = s.kept }

  -- The states after a call, where `next` says what an edit makes of the present state. "Keeping under a used number replaces it." Above 7 it is
  -- refused, and "a refused call alters nothing".
  unfoldable pub states_after : (next : A → Edit → A) → States A → Call → States A
  states_after next s (edit e) = record { present = next s.present e; kept = s.kept }
  states_after next s (schedule side room) = s
  states_after next s (keep_as number) =
      if leb number greatest_state_number then record { present = s.present; kept = λ k. if eqb number k then state s.present else s.kept k } else s
  states_after next s (return_to number) = returned_to (s.kept number) s

-- The hazards that stand after an edit, where those in `past` stood before it and `test` says whether an add is refused; "a refused call
-- alters nothing".
unfoldable pub stand_after : (test : List NamedHazard → (name : ℕ) → Hazard → Answer (Unit {0})) → (past : List NamedHazard) → Edit → List NamedHazard
stand_after test past (add name z) = if is_accepted (test past name z) then past ++ named name z ∷ [] else past
stand_after test past (withdraw name) = without name past

-- "The hazards added and not withdrawn since", after a list of calls from an empty job: "after a return, the hazards that stood when its
-- state was last kept count as those".
abbrev pub hazards_after : Header → List Call → States (List NamedHazard)
hazards_after h calls = foldl (states_after (stand_after (test_add h))) (opened []) calls

abbrev pub added_since : Header → List Call → List NamedHazard
added_since h calls = (hazards_after h calls).present

-- The same, by the edits that count.

-- The edits that count after a list of calls: those made; after a return, those that counted when its state was last kept.
abbrev pub edits_that_count : List Call → List Edit
edits_that_count calls = (foldl (states_after (λ (edits : List Edit) (e : Edit). edits ++ e ∷ [])) (opened []) calls).present

-- One of these edits added the hazard and was not refused, and none of the later ones withdraws its name.
pub record Added (h : Header) (past : List NamedHazard) (edits : List Edit) (p : NamedHazard) : Type 0 where
  pub before : List Edit
  pub since : List Edit
  pub split : edits ≡ before ++ add p.name (unnamed p) ∷ since
  pub not_refused : is_accepted (test_add h (foldl (stand_after (test_add h)) past before) p.name (unnamed p)) ≡ true
  pub not_withdrawn : Memᴰ (withdraw p.name) since → ⊥

-- A hazard stands exactly if it was added so.
abbrev pub AddedPromise : Type 0
AddedPromise = (h : Header) (calls : List Call) (p : NamedHazard) → Memᴰ p (added_since h calls) ↔ Added h [] (edits_that_count calls) p

-- "After a return, the hazards that stood when its state was last kept count as those added and not withdrawn."
abbrev pub CountPromise : Type 0
CountPromise =
    (h : Header) (before since : List Call) (number : ℕ) → number ≤ greatest_state_number → (Memᴰ (keep_as number) since → ⊥)
    → added_since h (before ++ keep_as number ∷ since ++ return_to number ∷ []) ≡ added_since h before

-- In the memory

-- The memory after a call.
unfoldable pub after_call : OpenStates → Call → OpenStates
after_call m (edit (add name z)) = memory_after (add_in m name z) m
after_call m (edit (withdraw name)) = memory_after (withdraw_in m name) m
after_call m (schedule side room) = m
after_call m (keep_as number) = memory_after (keep_in m number) m
after_call m (return_to number) = memory_after (return_in m number) m

-- A "list of these calls from an empty job with an accepted header", its adds with such names: its bytes s, the job j that they are, and the
-- memory after the opening, whatever that held before, and after the calls.
pub record CallsFrom (s : List ℕ) (j : Job) (calls : List Call) (m : OpenStates) : Type 0 where
  pub job_is_accepted : accept_job s ≡ accepted j
  pub empty : j.hazards ≡ []
  pub nameable : (e : Edit) → Memᴰ (edit e) calls → Nameable e
  pub before : OpenStates
  pub memory : m ≡ foldl after_call (memory_after (open_states s) before) calls

-- The memory answers as a job: the job is accepted, and the schedule call's whole reply, the overhangs too, is plan's for it.
pub record AnswersAs (m : OpenStates) (j : Job) : Type 0 where
  pub job_is_accepted : accept_job (write_job j) ≡ accepted j
  pub planned : (side room : ℕ) → schedule_in m side room ≡ plan (write_job j) side room

-- "The schedule equals that of a job made from the hazards added and not withdrawn since", whatever the hazards' order.
abbrev pub SchedulesAs : Header → (past : List NamedHazard) → OpenStates → Type 0
SchedulesAs h past m =
    (zs : List Hazard) → length zs ≤ most_standing → ((z : Hazard) → Memᴰ z zs ↔ Memᴰ z (map unnamed past)) → AnswersAs m (made_from h zs)

-- "The promise for lists of calls now includes keep and return."
abbrev pub SchedulePromise : Type 0
SchedulePromise = (s : List ℕ) (j : Job) (calls : List Call) (m : OpenStates) → CallsFrom s j calls m → SchedulesAs j.header (added_since j.header calls) m

-- Those hazards stand in the state a.
pub record Holds (h : Header) (past : List NamedHazard) (a : StoredJob) : Type 0 where
  pub layout : a ≡ laid_out h (standing a)
  pub few : length past ≤ most_standing
  pub many : length (standing a) ≡ length past
  pub each : (p : NamedHazard) → Memᴰ p (standing a) ↔ Memᴰ p past

-- Nothing is kept, or a state in which they stand.
abbrev pub HoldsKept : Header → Kept (List NamedHazard) → KeptState → Type 0
HoldsKept h nothing k = k ≡ nothing_kept
HoldsKept h (state past) k = (is_used k ≡ true) × Holds h past (state_of h k)

-- Those hazards stand in the memory, now and in what is kept: so the next add and the next withdrawal are refused 12 exactly by their
-- names, the next add 15 exactly where 256 stand and its name does not, and then by its hazard, the next keep 13 exactly above 7, and the
-- next return 13 exactly where nothing is kept.
pub record Standing (h : Header) (s : States (List NamedHazard)) (m : OpenStates) : Type 0 where
  pub is_open : are_open_states m ≡ true
  pub present_state : Holds h s.present m.present
  pub states_kept : (number : ℕ) → HoldsKept h (s.kept number) (kept_under m number)
  pub next_add : (name : ℕ) (z : Hazard) → replied (add_in m name z) ≡ replied (test_add h s.present name z)
  pub next_withdrawal : (name : ℕ) → replied (withdraw_in m name) ≡ replied (unless_refuse (stands name s.present) (Row.Name name))
  pub next_keep : (number : ℕ) → replied (keep_in m number) ≡ replied (unless_refuse (leb number greatest_state_number) Row.State)
  pub next_return : (number : ℕ) → replied (return_in m number) ≡ replied (unless_refuse (is_kept (s.kept number)) Row.State)

abbrev pub StandingPromise : Type 0
StandingPromise = (s : List ℕ) (j : Job) (calls : List Call) (m : OpenStates) → CallsFrom s j calls m → Standing j.header (hazards_after j.header calls) m

-- "A withdrawn name can be added again": the add is refused by its hazard alone.
abbrev pub AgainPromise : Type 0
AgainPromise = (m next : OpenStates) (name : ℕ) → withdraw_in m name ≡ accepted next → (z : Hazard)
    → replied (add_in next name z) ≡ replied (admit m.present.header name z)

-- The tests of an add but for room: 12 by its name, then its hazard's. So it is tested where there is room, and so it was before request 12.
abbrev pub test_name_and_hazard : Header → List NamedHazard → (name : ℕ) → Hazard → Answer (Unit {0})
test_name_and_hazard h ps name z = unless_refuse (not (stands name ps)) (Row.Name name) >>= λ _. admit h name z

-- "Room left by a withdrawal is used again": by an add of any name.
abbrev pub RoomPromise : Type 0
RoomPromise =
    (m next : OpenStates) (name : ℕ) → withdraw_in m name ≡ accepted next
    → (other : ℕ) (z : Hazard) → replied (add_in next other z) ≡ replied (test_name_and_hazard m.present.header (standing next.present) other z)

-- "After a return, the open job is as when that state was last kept, whichever adds and withdrawals came between": all of it, the
-- header and the zeros behind the hazards too.
abbrev pub ReturnPromise : Type 0
ReturnPromise =
    (s : List ℕ) (j : Job) (before since : List Call) (number : ℕ) (earlier m : OpenStates)
    → number ≤ greatest_state_number → (Memᴰ (keep_as number) since → ⊥)
    → CallsFrom s j before earlier → CallsFrom s j (before ++ keep_as number ∷ since ++ return_to number ∷ []) m
    → m.present ≡ earlier.present

-- "Other kept states are untouched": by every call but a keep under that number, so also by a return to it; in memory of any content.
abbrev pub UntouchedPromise : Type 0
UntouchedPromise = (m : OpenStates) (c : Call) (number : ℕ) → (c ≡ keep_as number → ⊥) → kept_under (after_call m c) number ≡ kept_under m number

-- "Keeping under a used number replaces it", and leaves the open job as it is.
abbrev pub KeepPromise : Type 0
KeepPromise =
    (m next : OpenStates) (number : ℕ) → keep_in m number ≡ accepted next → (kept_under next number ≡ kept_from m.present) × (next.present ≡ m.present)
