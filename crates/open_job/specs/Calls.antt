-- The calls on an open job: what each answers, and what it makes of the memory. Each but opening tests the whole memory first, and once.
-- Assumes nothing.
use Rattle.std.specs.Prelude.{Result, ℕ, Bool, not, List, [], replicate, set, leb, eqb}
use Rattle.base.specs.Answer.{Answer, accepted, ◌>>=◌}
use Rattle.refusal.specs.Refusal.{unless_refuse, answer_of}
use Rattle.refusal.specs.declared.Refusal.{Refusal}
use Rattle.refusal.specs.declared.Refusal.TheVariants as Row
use Rattle.base.specs.Stored.{accepted_or}
use Rattle.job.specs.declared.Header.{Header}
use Rattle.job.specs.declared.Hazard.{Hazard}
use Rattle.job.specs.declared.NamedHazard.{NamedHazard}
use Rattle.job.specs.declared.StoredJob.{StoredJob}
use Rattle.job.specs.Job.{named, unnamed, job_of, header_size, read_header, header_of}
use Rattle.job.specs.Writing.{write_job}
use Rattle.planning.specs.Envelope.{accept_job}
use Rattle.schedule.specs.Plan.{PlannedSide, plan}
use Rattle.withdrawal.specs.declared.reply.Reach.{Reach}
use Rattle.withdrawal.specs.Reach.{hazard_reach}
use Rattle.open_memory.specs.Memory.{standing, laid_out, stands, hazard_under, is_full, inserted, without, admit}
use Rattle.open_job.specs.declared.KeptState.{KeptState}
use Rattle.open_job.specs.declared.OpenStates.{OpenStates}
use Rattle.open_job.specs.States.{most_kept, greatest_state_number, nothing_kept, kept_from, state_of, is_used, kept_states, kept_under, states_from, are_open_states}

module _ {Memory : Type 0} where
  -- "A refused call alters nothing": the memory afterwards.
  abbrev pub memory_after : Answer Memory → Memory → Memory
  memory_after a m = accepted_or m a

-- Opening

-- "Opening takes job bytes that carry no hazard; it refuses as plan does without 9, and a hazard count above 0 is 3": at that number, which is
-- returned, 14, of a kind 2 job 15.
unfoldable pub open_job : (s : List ℕ) → Answer StoredJob
open_job s =
    read_header s >>= λ f.
    unless_refuse (eqb (header_of f.numbers).count 0) (Row.HeaderRange (header_size (header_of f.numbers).kind)) >>= λ _.
    accept_job s >>= λ j.
    accepted (laid_out j.header [])

-- What is read of the bytes, as the present state that it makes: its header, and no hazard.
abbrev pub opens_with : Result Header Refusal → Answer StoredJob
opens_with r = answer_of r >>= λ h. accepted (laid_out h [])

-- "Opening empties all eight."
unfoldable pub open_states : (s : List ℕ) → Answer OpenStates
open_states s = open_job s >>= λ a. accepted (states_from a (replicate most_kept nothing_kept))

-- The test of the memory

-- "Any call but opening, on memory whose header, names or hazards break these rules, is refused 3 with 0 before any other test."
abbrev pub under_rules : {A : Type 0} → (keepsThem : Bool) → Answer A → Answer A
under_rules keepsThem a = unless_refuse keepsThem (Row.HeaderRange 0) >>= λ _. a

-- A call that changes the present state, in the whole memory: what is kept stays.
abbrev pub changed_in : OpenStates → (call : Answer StoredJob) → Answer OpenStates
changed_in m call = under_rules (are_open_states m) call >>= λ a. accepted (states_from a (kept_states m))

-- Add

-- The tests of an add where these hazards stand: "a name already standing (add) .. is 12, before 4, and returns the name"; "an add when 256
-- stand is 15, after 12 and before 4", and returns 0, as request 1 has it of later numbers; then those of its hazard.
-- Names are 0 to 65,535 by the call's type, 16 bits, so no test asks for it.
abbrev pub test_add : Header → List NamedHazard → (name : ℕ) → Hazard → Answer (Unit {0})
test_add h ps name z =
    unless_refuse (not (stands name ps)) (Row.Name name) >>= λ _.
    unless_refuse (not (is_full ps)) Row.Full >>= λ _.
    admit h name z

unfoldable pub add_to : StoredJob → (name : ℕ) → Hazard → Answer StoredJob
add_to a name z = test_add a.header (standing a) name z >>= λ _. accepted (laid_out a.header (inserted (named name z) (standing a)))

unfoldable pub add_in : OpenStates → (name : ℕ) → Hazard → Answer OpenStates
add_in m name z = changed_in m (add_to m.present name z)

-- Withdraw

-- "A name .. not standing (withdraw) is 12 .. and returns the name."
unfoldable pub withdraw_from : StoredJob → (name : ℕ) → Answer StoredJob
withdraw_from a name = unless_refuse (stands name (standing a)) (Row.Name name) >>= λ _. accepted (laid_out a.header (without name (standing a)))

unfoldable pub withdraw_in : OpenStates → (name : ℕ) → Answer OpenStates
withdraw_in m name = changed_in m (withdraw_from m.present name)

-- Schedule

-- "Schedule of a side": what plan answers for the job that stands, 8 and 9 with it.
unfoldable pub schedule_in : OpenStates → (side room : ℕ) → Answer PlannedSide
schedule_in m side room = under_rules (are_open_states m) (plan (write_job (job_of m.present)) side room)

-- Reach

-- How far the withdrawal of the hazard that stands under a name would reach, as the job stands now. Where it does not stand: 12, and it returns the name.
unfoldable pub reach_under : StoredJob → (name : ℕ) → Answer Reach
reach_under a name =
    unless_refuse (stands name (standing a)) (Row.Name name) >>= λ _. accepted (hazard_reach a.header (unnamed (hazard_under name (standing a))))

unfoldable pub reach_in : OpenStates → (name : ℕ) → Answer Reach
reach_in m name = under_rules (are_open_states m) (reach_under m.present name)

-- Keep and return

-- "A state number above 7 .. is 13, tested next after the open job's memory."
abbrev pub test_state : (number : ℕ) → Answer (Unit {0})
test_state number = unless_refuse (leb number greatest_state_number) Row.State

-- "Keeping under a used number replaces it."
unfoldable pub keep_in : OpenStates → (number : ℕ) → Answer OpenStates
keep_in m number =
    under_rules (are_open_states m) (test_state number) >>= λ _.
    accepted (states_from m.present (set (kept_states m) number (kept_from m.present)))

-- "A state number above 7, or in a return one under which nothing is kept, is 13": the open job that is kept under a number.
unfoldable pub kept_job : Header → (number : ℕ) → KeptState → Answer StoredJob
kept_job h number k = test_state number >>= λ _. unless_refuse (is_used k) Row.State >>= λ _. accepted (state_of h k)

-- "After a return, the open job is as when that state was last kept ..; other kept states are untouched."
unfoldable pub return_in : OpenStates → (number : ℕ) → Answer OpenStates
return_in m number = changed_in m (kept_job m.present.header number (kept_under m number))
