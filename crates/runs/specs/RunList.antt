-- Run lists: what a run is, which lists are run lists, the level that one shows.
-- Assumes nothing.
use Rattle.std.specs.Prelude.{◌≡◌, ℕ, zero, suc, ◌-◌, ◌<◌, ◌≤◌, Bool, true, not, ◌&&◌, ◌≢◌, List, [], ◌∷◌, ◌++◌, length, ◌==◌, nat_le, nat_lt, slice_index, if◌then◌else◌}
use Rattle.runs.specs.declared.Stretch.{Stretch}
use Rattle.runs.specs.declared.RunList.{RunList}
use Rattle.runs.specs.Level.{Has, has}

-- "A run is a longest stretch of one required level above 0."
pub record IsRun (f : ℕ → ℕ) (r : Stretch) : Type 0 where
  pub long : r.start < r.end
  pub above : 0 < r.level
  pub one_level : (t : ℕ) → Has r t → f t ≡ r.level
  pub starts : 0 < r.start → f (r.start - 1) ≢ r.level
  pub ends : f r.end ≢ r.level

abbrev pub most_runs : ℕ
most_runs = 511

-- "Run ends follow the new limit": 1,000,000,000,000.
abbrev pub last_station : ℕ
last_station = 1000000000000

-- A run that may follow one that ended at e with level v: rising, "lengths from 1, levels 1 to 6, ends up to" the last station, "touching runs of
-- different level".
unfoldable pub may_follow : (e v : ℕ) → Stretch → Bool
may_follow e v r =
    nat_le e r.start && nat_lt r.start r.end && nat_le r.end last_station && nat_le 1 r.level && nat_le r.level 6
    && not (e == r.start && v == r.level)

-- Runs after one that ended at e with level v.
unfoldable pub rising_runs : (e v : ℕ) → List Stretch → Bool
rising_runs e v [] = true
rising_runs e v (r ∷ rs) = may_follow e v r && rising_runs r.end r.level rs

-- "A run list has at most 511 runs." No run has level 0, so the first one differs from what stands before it.
unfoldable pub is_run_list : List Stretch → Bool
is_run_list rs = nat_le (length rs) most_runs && rising_runs 0 0 rs

-- "At t a schedule shows the level of the run that has t, in the run list whose writing it is, else 0."
unfoldable pub shown_level : List Stretch → (t : ℕ) → ℕ
shown_level [] t = 0
shown_level (r ∷ rs) t = if has r t then r.level else shown_level rs t

-- The same as facts: a run that may follow one that ended at e with level v, and runs after it.
pub record MayFollow (e v : ℕ) (r : Stretch) : Type 0 where
  pub after : e ≤ r.start
  pub long : r.start < r.end
  pub ends : r.end ≤ last_station
  pub low : 1 ≤ r.level
  pub top : r.level ≤ 6
  pub differs : e ≡ r.start → v ≢ r.level

abbrev pub Rising : ℕ → ℕ → List Stretch → Type 0
Rising e v [] = Unit {0}
Rising e v (r ∷ rs) = MayFollow e v r × Rising r.end r.level rs

-- The run list of the level f.
pub record RunsOf (f : ℕ → ℕ) (rs : List Stretch) : Type 0 where
  pub rising : Rising 0 0 rs
  pub shows : (t : ℕ) → shown_level rs t ≡ f t

-- Where the last of the runs ends; e where there is none.
abbrev pub last_end : (e : ℕ) → List Stretch → ℕ
last_end e [] = e
last_end e (r ∷ rs) = last_end r.end rs

-- The first n entries of three arrays, side by side; the runs of a stored list.
unfoldable pub runs_to : (starts ends levels : List ℕ) (n : ℕ) → List Stretch
runs_to starts ends levels zero = []
runs_to starts ends levels (suc n) =
    runs_to starts ends levels n ++ record { start = slice_index starts n; end = slice_index ends n; level = slice_index levels n } ∷ []

abbrev pub runs_of : RunList → List Stretch
runs_of r = runs_to r.starts r.ends r.levels r.count
