-- The call lookup: its complete reply.
-- Assumes nothing.
use Rattle.std.specs.Prelude.{ℕ, ◌+◌, ◌≡◌, length, drop, take, leb, eqb, if◌then◌else◌}
use mathlib.Core.List.{List, [], ◌∷◌, ◌++◌, Memᴰ}
use Rattle.base.specs.Answer.{Answer, accepted, refused, ◌>>=◌}
use Rattle.refusal.specs.Refusal.{unless_refuse}
use Rattle.refusal.specs.declared.Refusal.TheVariants as Row
use Rattle.number.specs.Number.{write_number}
use Rattle.runs.specs.declared.Stretch.{Stretch}
use Rattle.runs.specs.Level.{Has, has}
use Rattle.runs.specs.RunList.{shown_level, last_end}
use Rattle.schedule.specs.Schedule.{write_record, write_records, read_schedule}

-- A part of the bytes: its first index and its length.
pub record Part : Type 0 where
  pub at : ℕ
  pub len : ℕ

pub data Found : Type 0 where
  found : Part → Found
  nowhere : Found

-- The record of the run that has t, among runs whose first record stands at byte index i after a run that ended at e.
unfoldable pub find_record : (e i : ℕ) → List Stretch → (t : ℕ) → Found
find_record e i [] t = nowhere
find_record e i (r ∷ rs) t =
    let n = length (write_record e r) in
    let rest = find_record r.end (i + n) rs t in
    if has r t then found (record { at = i; len = n }) else rest

-- Where the record is in a schedule.
unfoldable pub place_in : List ℕ → (t : ℕ) → Answer Found
place_in s t = read_schedule s >>= λ rs. accepted (find_record 0 (length (write_number (length rs))) rs t)

-- Of two, the one of the side asked for; the right one for a bad side.
abbrev pub asked : {A : Type 0} (side : ℕ) (right left : A) → A
asked side right left = if eqb side 1 then left else right

-- Where the record is, in the schedule of the side asked for: "8, then 10, of the asked side's schedule".
unfoldable pub lookup : (right left : List ℕ) (side t : ℕ) → Answer Found
lookup right left side t =
    unless_refuse (leb side 1) Row.Argument >>= λ _.
    place_in (asked side right left) t

-- The part that lookup returns: "an empty part at that schedule's start where no run has the station or a refusal holds".
abbrev pub part_of : Answer Found → Part
part_of (accepted (found p)) = p
part_of (accepted nowhere) = record { at = 0; len = 0 }
part_of (refused k v) = record { at = 0; len = 0 }

-- "A companion call gives found, none or the refusal."
pub data Companion : Type 0 where
  some_run no_run : Companion

unfoldable pub outcome_of : Answer Found → Answer Companion
outcome_of (accepted (found p)) = accepted some_run
outcome_of (accepted nowhere) = accepted no_run
outcome_of (refused k v) = refused k v

-- The bytes that a part has.
abbrev pub part_bytes : Part → List ℕ → List ℕ
part_bytes p s = take p.len (drop p.at s)

-- The record of the run that has t, among runs whose first record stands at byte index i after a run that ended at e:
-- it goes by the end of the run before it, and stands behind the records of those before it.
pub record FoundRun (s : List ℕ) (e i : ℕ) (rs : List Stretch) (t : ℕ) (p : Part) : Type 0 where
  pub run : Stretch
  pub before : List Stretch
  pub after : List Stretch
  pub split : rs ≡ before ++ run ∷ after
  pub member : Memᴰ run rs
  pub has : Has run t
  pub bytes : part_bytes p s ≡ write_record (last_end e before) run
  pub place : p.at ≡ i + length (write_records e before)
  pub level : shown_level rs t ≡ run.level
