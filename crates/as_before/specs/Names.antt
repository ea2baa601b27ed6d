-- Document 02, request 12: replies to lists of calls whose names could be given before it.
-- Assumes nothing.
use Rattle.std.specs.Prelude.{ℕ, ◌≤◌, ◌≡◌}
use mathlib.Core.List.{List, [], foldl, Memᴰ}
use Rattle.job.specs.declared.Header.{Header}
use Rattle.job.specs.declared.Hazard.{Hazard}
use Rattle.job.specs.declared.NamedHazard.{NamedHazard}
use Rattle.job.specs.Job.{Job}
use Rattle.base.specs.Answer.{replied}
use Rattle.open_job.specs.Calls.{add_in}
use Rattle.open_job.specs.declared.OpenStates.{OpenStates}
use Rattle.open_promises.specs.Lists.{add, Call, edit, States, opened, states_after, stand_after, hazards_after, CallsFrom, SchedulesAs, Standing}
use Rattle.open_promises.specs.Lists.{test_name_and_hazard}

-- "Using only names to 255": a name was a byte. A withdrawal of a greater name is let in: none such stands, so it alters nothing.
abbrev pub ByteNamed : List Call → Type 0
ByteNamed calls = (name : ℕ) (z : Hazard) → Memᴰ (edit (add name z)) calls → name ≤ 255

-- There was no 15: with 256 hazards every byte was the name of one.
abbrev pub hazards_before : Header → List Call → States (List NamedHazard)
hazards_before h calls = foldl (states_after (stand_after (test_name_and_hazard h))) (opened []) calls

-- "Lists of calls using only names to 255 reply as before": by the hazards that stood and were kept then. An add is never refused 15.
pub record NamedAsBefore (h : Header) (calls : List Call) (m : OpenStates) : Type 0 where
  pub same : hazards_after h calls ≡ hazards_before h calls
  pub next_add : (name : ℕ) (z : Hazard) → name ≤ 255 → replied (add_in m name z) ≡ replied (test_name_and_hazard h (hazards_before h calls).present name z)
  -- a withdrawal, a keep and a return; of an add this says less than the line before
  pub hazards_stand : Standing h (hazards_before h calls) m
  pub schedules : SchedulesAs h (hazards_before h calls).present m

abbrev pub NamesBefore12 : Type 0
NamesBefore12 = (s : List ℕ) (j : Job) (calls : List Call) (m : OpenStates) → CallsFrom s j calls m → ByteNamed calls → NamedAsBefore j.header calls m
