-- When the reading of a job refuses, and with what value: rows 1 to 4 and 7 of document 01's table.
-- Assumes nothing.
use Rattle.std.specs.Prelude.{ℕ, ◌+◌, ◌≤◌, ◌<◌, ◌≡◌, true, false, length, get_or}
use mathlib.Core.List.{List, [], ◌++◌, Memᴰ}
use Rattle.refusal.specs.declared.Refusal.{Refusal}
use Rattle.refusal.specs.declared.Refusal.TheVariants as Row
use Rattle.number.specs.Number.{write_number, greatest_number}
use Rattle.number.specs.Form.{EndsInside, IllFormed}
use Rattle.job.specs.declared.Header.{Header}
use Rattle.job.specs.declared.Hazard.{Hazard}
use Rattle.job.specs.declared.Bounds.{Bounds}
use Rattle.job.specs.Job.{Job, within, header_size, next_in_header, next_in_hazard}
use Rattle.job.specs.Writing.{numbers_of, write_numbers}
use Rattle.job.specs.Fits.{in_ranges, HeaderFits, HazardFits}

-- A place in the job

-- The numbers stand in groups: the header, and each hazard, behind the header and the hazards before it.
pub data Group : Type 0 where
  of_header : Group
  of_hazard : (h : Header) (before : List Hazard) → Group

-- "Then h hazards of six numbers".
abbrev pub HasGroup : Group → Type 0
HasGroup of_header = Unit {0}
HasGroup (of_hazard h before) = length before < h.count

-- How many numbers it has: the header's first, the kind, says so of the header.
abbrev pub size_of : Group → (got : List ℕ) → ℕ
size_of of_header got = header_size (get_or got 0 0)
size_of (of_hazard h before) got = 6

-- The range of its next number, after the numbers `got`.
abbrev pub next_in : Group → (got : List ℕ) → Bounds
next_in of_header = next_in_header
next_in (of_hazard h before) = next_in_hazard h

abbrev pub numbers_before : Group → List ℕ
numbers_before of_header = []
numbers_before (of_hazard h before) = numbers_of (record { header = h; hazards = before })

-- The header and hazards before a group fit.
abbrev pub BeforeFits : Group → Type 0
BeforeFits of_header = Unit {0}
BeforeFits (of_hazard h before) = HeaderFits h × ((z : Hazard) → Memᴰ z before → HazardFits h z)

-- The bytes begin with the numbers before a group and `got` of its own, each in shortest form and in its range; `rest` follows.
pub record BeginsWith (s : List ℕ) (g : Group) (got rest : List ℕ) : Type 0 where
  pub before : BeforeFits g
  pub own : in_ranges (next_in g) [] got ≡ true
  pub bytes : s ≡ write_numbers (numbers_before g ++ got) ++ rest

-- The byte index behind them.
abbrev pub index_after : Group → (got : List ℕ) → ℕ
index_after g got = length (write_numbers (numbers_before g ++ got))

-- And the group has another number, which is to begin there.
pub record NextNumber (s : List ℕ) (g : Group) (got rest : List ℕ) : Type 0 where
  pub has : HasGroup g
  pub more : length got < size_of g got
  pub stands : BeginsWith s g got rest

-- The rows

-- A number that cannot be read.
pub record Unread (Fault : List ℕ → Type 0) (s : List ℕ) (at : ℕ) : Type 0 where
  pub group : Group
  pub got : List ℕ
  pub rest : List ℕ
  pub next : NextNumber s group got rest
  pub fault : Fault rest
  pub begins : at ≡ index_after group got

-- A number outside its range.
pub record OutOfRange (s : List ℕ) (g : Group) (got : List ℕ) : Type 0 where
  pub number : ℕ
  pub rest : List ℕ
  pub next : NextNumber s g got (write_number number ++ rest)
  pub fits : number ≤ greatest_number
  pub outside : within (next_in g got) number ≡ false

-- Bytes after the last hazard.
pub record BytesAfter (s : List ℕ) (at : ℕ) : Type 0 where
  pub job : Job
  pub rest : List ℕ
  pub all : length job.hazards ≡ job.header.count
  pub stands : BeginsWith s (of_hazard job.header job.hazards) [] rest
  pub some : 0 < length rest
  pub first : at ≡ index_after (of_hazard job.header job.hazards) []

-- The table's rows of a job that cannot be read: what is returned, and when.
pub data ReadRow (r : Refusal) (s : List ℕ) : Type 0 where
  -- 1: "byte index where that number begins"; "job bytes end before or inside a number".
  ended : (at : ℕ) → r ≡ Row.Ended at → Unread EndsInside s at → ReadRow r s
  -- 2: "byte index where it begins"; its sixth byte has the top bit set, "or it isn't in shortest form".
  malformed : (at : ℕ) → r ≡ Row.Malformed at → Unread IllFormed s at → ReadRow r s
  -- 3: "header number 1 to 14", of a kind 2 job to 15; "header number outside its range".
  header_range : (got : List ℕ) → r ≡ Row.HeaderRange (length got + 1) → OutOfRange s of_header got → ReadRow r s
  -- 4: "hazard index from 0"; "hazard field outside its range". "A value too great for its field is 3 or 4."
  hazard_range : (h : Header) (before : List Hazard) (got : List ℕ) → r ≡ Row.HazardRange (length before) → OutOfRange s (of_hazard h before) got → ReadRow r s
  -- 7: "index of first byte left over"; "bytes after the last hazard".
  left_over : (at : ℕ) → r ≡ Row.LeftOver at → BytesAfter s at → ReadRow r s
