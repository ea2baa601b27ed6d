-- The steps of the calls on the parts of the memory, one state at a time.
-- Assumes nothing.
use Rattle.std.specs.Prelude.{Option, Some, None, ℕ, ◌≡◌, Bool, false, ◌&&◌, List, length, leb, eqb, get_or, set, replicate, if◌then◌else◌}
use Rattle.base.specs.Choice.{all_of}
use Rattle.base.specs.Answer.{Answer, accepted, ◌>>=◌, is_accepted, replied}
use Rattle.job.specs.declared.Header.{Header}
use Rattle.job.specs.declared.Hazard.{Hazard}
use Rattle.job.specs.declared.NamedHazard.{NamedHazard}
use Rattle.job.specs.Job.{named}
use Rattle.job.specs.declared.StoredJob.{StoredJob}
use Rattle.open_memory.specs.declared.rules.Limits.{Limits}
use Rattle.open_memory.specs.Memory.{most_standing, admit}
use Rattle.open_memory.specs.Steps.{limits_of, places_pass}
use Rattle.open_job.specs.declared.KeptState.{KeptState}
use Rattle.open_job.specs.declared.OpenStates.{OpenStates}
use Rattle.open_job.specs.States.{most_kept, nothing_kept, kept_from, kept_states, states_from}
use Rattle.open_job.specs.Calls.{memory_after}

-- The hazard that an add puts in, once it has passed its own tests.
abbrev pub admitted : Header → (name : ℕ) → Hazard → Answer NamedHazard
admitted h name z = admit h name z >>= λ _. accepted (named name z)

-- One state

-- How many hazards a kept state says that it has: none where it is neither nothing nor a state of up to 256.
unfoldable pub hazards_held : (used count : ℕ) → Option ℕ
hazards_held used count =
    if eqb used 1
    then (if leb count most_standing then Some count else None)
    else (if eqb used 0 && eqb count 0 then Some 0 else None)

-- The places of that many hazards are tested.
abbrev pub places_held : Limits → Option ℕ → List NamedHazard → Bool
places_held l (Some count) ps = places_pass l count ps
places_held l None ps = false

abbrev pub passes : Limits → KeptState → Bool
passes l k = places_held l (hazards_held k.used k.count) k.hazards

-- The whole memory, part by part

module _ (m : OpenStates) where
  -- The present state and the kept states, each tested by the limits of the header, if it has some.
  abbrev pub each_passes : Option Limits → Bool
  each_passes (Some l) = leb m.present.header.count most_standing && places_pass l m.present.header.count m.present.hazards && all_of (passes l) (kept_states m)
  each_passes None = false

  abbrev pub each_sound : Bool
  each_sound = each_passes (limits_of m.present.header)

  -- The memory itself, as its present state and the eight kept ones.
  abbrev pub as_eight : OpenStates
  as_eight = states_from m.present (kept_states m)

  -- What a call makes of the present state is what the call on the whole memory makes of that, and what is kept stays.
  abbrev pub Carries : Answer StoredJob → Answer OpenStates → Type 0
  Carries part whole = (states_from (memory_after part m.present) (kept_states m) ≡ memory_after whole as_eight) × (replied part ≡ replied whole)

  -- The eight states after a keep: where it is done, the present state is put among them under the number; else as they were.
  abbrev pub eight_after_keep : (done : Bool) (number : ℕ) → OpenStates
  eight_after_keep done number = if done then states_from m.present (set (kept_states m) number (kept_from m.present)) else as_eight

  -- The memory after a keep: where it is done, the present state is put into the array under the number; else as it was.
  abbrev pub after_keep : (done : Bool) (number : ℕ) → OpenStates
  after_keep done number = if done then record { present = m.present; kept = set m.kept number (kept_from m.present) } else m

  -- A keep whose tests answer `part` is the call on the whole memory: of any list, read as eight states, and of an array of eight as it lies.
  abbrev pub Keeps : (number : ℕ) → Answer (Unit {0}) → Answer OpenStates → Type 0
  Keeps number part whole =
      (eight_after_keep (is_accepted (replied part)) number ≡ memory_after whole as_eight)
      × (length m.kept ≡ most_kept → after_keep (is_accepted (replied part)) number ≡ memory_after whole m)
      × (replied part ≡ replied whole)

  -- What is found in the array under a number; nothing behind its end.
  abbrev pub looked_for : (number : ℕ) → KeptState
  looked_for number = get_or m.kept number nothing_kept

  -- The memory after an opening: where it is done, this present state, and nothing kept; else as it was.
  abbrev pub after_opening : (done : Bool) → StoredJob → OpenStates
  after_opening done a = if done then states_from a (replicate most_kept nothing_kept) else m
