-- Which bytes were accepted before document 02's request 11: those of jobs, and those of schedules.
-- Assumes nothing.
use Rattle.std.specs.Prelude.{ℕ, ◌+◌, ◌-◌, ◌≤◌, ◌≡◌, true, ◌||◌, length, get_or, drop, eqb}
use mathlib.Core.List.{List, [], ◌∷◌, ◌++◌, Memᴰ}
use Rattle.number.specs.Number.{write_in}
use Rattle.job.specs.declared.Header.{Header}
use Rattle.job.specs.declared.Hazard.{Hazard}
use Rattle.job.specs.declared.Bounds.{Bounds}
use Rattle.job.specs.Job.{Job, ◌to◌, header_ranges, header_of, hazard_of}
use Rattle.job.specs.Writing.{header_numbers, numbers_of, printed_job}
use Rattle.job.specs.Fits.{in_ranges, HazardsFit}
use Rattle.runs.specs.declared.Stretch.{Stretch}
use Rattle.runs.specs.RunList.{is_run_list}
use Rattle.planning.specs.Rows.{Passed}

-- Numbers one after the other, each in its shortest form: "at most five bytes". (None below reaches "value at most 4,294,967,295".)
unfoldable pub written_before : List ℕ → List ℕ
written_before [] = []
written_before (x ∷ xs) = write_in 5 x ++ written_before xs

-- Jobs

-- The header table as it was: A "0 to 1,999,999,999", B "A + 1 to 2,000,000,000"; no other row was altered.
abbrev pub rows_before : (kind A : ℕ) → List Bounds
rows_before kind A = 1 to 2 ∷ 0 to 1999999999 ∷ (A + 1) to 2000000000 ∷ drop 3 (header_ranges kind A)

abbrev pub next_before : (got : List ℕ) → Bounds
next_before got = get_or (rows_before (get_or got 0 0) (get_or got 1 0)) (length got) (0 to 0)

-- A header whose numbers lie in these ranges. Of kind 1 the panel length is 1, which is not written.
pub record HeaderBefore (h : Header) : Type 0 where
  pub numbers : in_ranges next_before [] (header_numbers h) ≡ true
  pub panel : (eqb h.kind 2 || eqb h.panel 1) ≡ true

-- The bytes s were an accepted job, j: its numbers in order, each in its range, and no hazard refused 5.
pub record JobBefore (s : List ℕ) (j : Job) : Type 0 where
  pub bytes : s ≡ written_before (numbers_of j)
  pub header : HeaderBefore j.header
  pub hazards : HazardsFit j.header j.header.count j.hazards
  pub passed : (z : Hazard) → Memᴰ z j.hazards → Passed j.header z

-- Document 01's job on paper, and one at the limits: of kind 2, on the last millimetre of the longest chainage. (Laws printed_before, limit_before.)
abbrev pub paper_job : Job
paper_job = record { header = header_of printed_job; hazards = hazard_of (drop 14 printed_job) ∷ [] }

abbrev pub limit_job : Job
limit_job =
    let numbers : List ℕ = 2 ∷ 1999999999 ∷ 2000000000 ∷ 1 ∷ 0 ∷ 1 ∷ 0 ∷ 0 ∷ 1 ∷ 1 ∷ 0 ∷ 0 ∷ 0 ∷ 10000 ∷ 1 ∷ [] in
    record { header = header_of numbers; hazards = hazard_of (1 ∷ 1999999999 ∷ 2000000000 ∷ 60000 ∷ 60000 ∷ 6 ∷ []) ∷ [] }

-- Schedules

-- A run list as it was: "ends up to 2,000,000,000". (The limit in `is_run_list` is the greater one of today.)
pub record RunsBefore (rs : List Stretch) : Type 0 where
  pub run_list : is_run_list rs ≡ true
  pub ends : (r : Stretch) → Memᴰ r rs → r.end ≤ 2000000000

-- A run's record: "its start less the previous run's end (less 0 for the first), its length, its level".
abbrev pub record_numbers : (e : ℕ) → Stretch → List ℕ
record_numbers e r = (r.start - e) ∷ (r.end - r.start) ∷ r.level ∷ []

unfoldable pub all_record_numbers : (e : ℕ) → List Stretch → List ℕ
all_record_numbers e [] = []
all_record_numbers e (r ∷ rs) = record_numbers e r ++ all_record_numbers r.end rs

-- "The schedule is the run count, then for each run, rising," its record.
abbrev pub schedule_before : List Stretch → List ℕ
schedule_before rs = written_before (length rs ∷ all_record_numbers 0 rs)
