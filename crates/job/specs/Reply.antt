-- What each reading function answers, and the part of the job's reading that it answers for.
-- Assumes nothing.
use Rattle.std.specs.Prelude.{ℕ, List, [], eqb, Result, Ok, Err}
use Rattle.base.specs.Answer.{Answer, accepted, ◌>>=◌}
use Rattle.refusal.specs.Refusal.{unless_refuse}
use Rattle.refusal.specs.declared.Refusal.TheVariants as Row
use Rattle.refusal.specs.declared.Refusal.{Refusal}
use Rattle.number.specs.declared.Reading.{Reading}
use Rattle.number.specs.Number.{number_at}
use Rattle.job.specs.declared.Header.{Header}
use Rattle.job.specs.declared.NamedHazard.{NamedHazard}
use Rattle.job.specs.declared.header_fields.HeaderReading.{HeaderReading}
use Rattle.job.specs.declared.hazard_fields.HazardReading.{HazardReading}
use Rattle.job.specs.declared.Bounds.{Bounds}
use Rattle.job.specs.Job.{named, within, header_size, Fields, next_in_header, next_in_hazard, read_fields, read_header, header_of, hazard_of}
use Rattle.job.specs.Job.{read_job, outside_header, outside_hazard}

-- One number, for 1, 2 and its range; out of range is the refusal `outside`.
unfoldable pub field_at : Bounds → (outside : Refusal) (s : List ℕ) (at : ℕ) → Answer Reading
field_at range outside s at =
    number_at s at >>= λ x.
    unless_refuse (within range x.value) outside >>= λ _.
    accepted x

-- A number that a reader found, and where it then stands.
abbrev pub moved : Result ℕ Refusal → (next : ℕ) → Result Reading Refusal
moved (Ok value) next = Ok (record { value = value; next = next })
moved (Err r) next = Err r

-- A header, and the byte index behind it.
abbrev pub header_reading : Fields → HeaderReading
header_reading f = record { header = header_of f.numbers; next = f.next }

-- The header at the beginning of the bytes.
unfoldable pub header_at : (s : List ℕ) → Answer HeaderReading
header_at s = read_header s >>= λ f. accepted (header_reading f)

-- A kind 2 header whose first fourteen numbers are `got`: the fifteenth is read from byte index `at` on.
unfoldable pub header_from : (got s : List ℕ) (at : ℕ) → Answer HeaderReading
header_from got s at = read_fields next_in_header outside_header 1 got s at >>= λ f. accepted (header_reading f)

-- A hazard, and the byte index behind it.
abbrev pub hazard_reading : Fields → HazardReading
hazard_reading f = record { hazard = hazard_of f.numbers; next = f.next }

-- The hazard with an index, from byte index `at` on.
unfoldable pub read_hazard_at : Header → (index : ℕ) (s : List ℕ) (at : ℕ) → Answer HazardReading
read_hazard_at h index s at = read_fields (next_in_hazard h) (outside_hazard index) 6 [] s at >>= λ f. accepted (hazard_reading f)

-- A place in which no hazard is stored.
abbrev pub unused : NamedHazard
unused = named 0 (hazard_of [])

-- The header of the job that the bytes are.
unfoldable pub job_header : (s : List ℕ) → Answer Header
job_header s = read_job s >>= λ j. accepted j.header

-- Job bytes that carry no hazard, read as a job is: a hazard count above 0 is 3 at that number, and returns it: 14, of a kind 2 job 15.
unfoldable pub read_opening : (s : List ℕ) → Answer Header
read_opening s = header_at s >>= λ x. unless_refuse (eqb x.header.count 0) (Row.HeaderRange (header_size x.header.kind)) >>= λ _. job_header s
