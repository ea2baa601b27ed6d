-- The memory of an open job (document 02, requests 3 and 7): a present state, and what is kept; and which memory keeps the rules.
-- Assumes nothing.
use Rattle.std.specs.Prelude.{ℕ, Bool, ◌&&◌, ◌||◌, List, [], ◌∷◌, replicate, get_or, eqb}
use Rattle.base.specs.Choice.{all_of}
use Rattle.job.specs.declared.Header.{Header}
use Rattle.job.specs.declared.StoredJob.{StoredJob}
use Rattle.job.specs.Job.{counted}
use Rattle.job.specs.Reply.{unused}
use Rattle.open_memory.specs.Memory.{most_standing, is_unused, is_open_job}
use Rattle.open_job.specs.declared.KeptState.{KeptState}
use Rattle.open_job.specs.declared.OpenStates.{OpenStates}

-- "Up to eight states of the open job are kept under numbers 0 to 7."
abbrev pub most_kept : ℕ
most_kept = 8

abbrev pub greatest_state_number : ℕ
greatest_state_number = 7

-- What is kept under a number

-- Nothing: all is 0.
abbrev pub nothing_kept : KeptState
nothing_kept = record { used = 0; count = 0; hazards = replicate most_standing unused }

-- The names and hazards of an open job. "Kept states carry the wide names."
abbrev pub kept_from : StoredJob → KeptState
kept_from a = record { used = 1; count = a.header.count; hazards = a.hazards }

-- The open job that is kept. Its header is that of the present state: only opening sets a header, and "opening empties all eight".
abbrev pub state_of : Header → KeptState → StoredJob
state_of h k = record { header = counted h k.count; hazards = k.hazards }

unfoldable pub is_used : KeptState → Bool
is_used k = eqb k.used 1

unfoldable pub is_nothing_kept : KeptState → Bool
is_nothing_kept k = eqb k.used 0 && eqb k.count 0 && all_of is_unused k.hazards

-- "The test of the open job's memory takes in the kept names and hazards". What is kept is sound: it is nothing, or an open job.
unfoldable pub kept_sound : Header → KeptState → Bool
kept_sound h k = is_nothing_kept k || (is_used k && is_open_job (state_of h k))

-- The memory

-- The states of eight numbers. The memory's array has eight states by its type and is returned as it is; a list of another length is cut, or ends
-- with nothing kept.
abbrev pub eight : List KeptState → List KeptState
eight ks =
    let kept : ℕ → KeptState = λ number. get_or ks number nothing_kept in
    kept 0 ∷ kept 1 ∷ kept 2 ∷ kept 3 ∷ kept 4 ∷ kept 5 ∷ kept 6 ∷ kept 7 ∷ []

-- What is kept, by its number.
abbrev pub kept_states : OpenStates → List KeptState
kept_states m = eight m.kept

abbrev pub kept_under : OpenStates → (number : ℕ) → KeptState
kept_under m number = get_or (kept_states m) number nothing_kept

-- The memory of a present state and of what is kept.
abbrev pub states_from : StoredJob → List KeptState → OpenStates
states_from a ks = record { present = a; kept = eight ks }

abbrev pub all_sound : OpenStates → Bool
all_sound m = all_of (kept_sound m.present.header) (kept_states m)

-- "Memory whose header, names or hazards break these rules" is any other: all of it keeps the rules, what is kept too, and is 0 where
-- nothing stands or is kept.
unfoldable pub are_open_states : OpenStates → Bool
are_open_states m = is_open_job m.present && all_sound m
