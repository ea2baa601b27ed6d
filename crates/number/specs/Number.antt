-- The number form of document 01, with six bytes since document 02's request 11: groups of seven bits, lowest group first, one group a byte; the top bit is set
-- on all but the last byte (LEB128, unsigned).
-- Assumes nothing.
use Rattle.std.specs.Prelude.{ℕ, zero, suc, ◌+◌, ◌-◌, ◌*◌, ◌/◌, ◌%◌, max, ◌&&◌, Result, Ok, Err, List, [], ◌∷◌, ◌++◌, length, take, drop, ltb, leb, eqb, if◌then◌else◌}
use Rattle.std.specs.Int.Count.{count_leading_zeros}
use Rattle.base.specs.Answer.{Answer}
use Rattle.refusal.specs.Refusal.{answer_of}
use Rattle.refusal.specs.declared.Refusal.{Refusal}
use Rattle.refusal.specs.declared.Refusal.TheVariants.{Ended, Malformed}
use Rattle.number.specs.declared.Reading.{Reading}

-- Writing

-- The writing of n in at most k groups.
unfoldable pub write_in : (k n : ℕ) → List ℕ
write_in zero n = []
write_in (suc k) n = let rest = write_in k (n / 128) in if ltb n 128 then n ∷ [] else (n % 128 + 128) ∷ rest

-- "Numbers may take six bytes", and six groups are 42 bits. ("The reader gathers in 64 bits" is said of the code.)
abbrev pub most_groups : ℕ
most_groups = 6

-- The greatest value that so many groups make (law groups_hold).
abbrev pub greatest_number : ℕ
greatest_number = 4398046511103

unfoldable pub write_number : (n : ℕ) → List ℕ
write_number n = write_in most_groups n

-- "A number takes as many groups as its bits need, and 0 takes one." The bits are the 64 of the value less its leading zeros.
unfoldable pub group_count : ℕ → ℕ
group_count n = (max 1 (64 - count_leading_zeros 64 n) + 6) / 7

-- Reading

-- What stands at the head of a list of bytes, up to the first byte without the top bit, at most k of them.
pub data Scan : Type 0 where
  -- the bytes end before such a byte
  cut : Scan
  -- k bytes, all with the top bit
  overlong : Scan
  -- such a byte ends the number: its value and its count of groups
  whole : (value groups : ℕ) → Scan

-- A group with the top bit before a scan.
abbrev pub prefixed : ℕ → Scan → Scan
prefixed group cut = cut
prefixed group overlong = overlong
prefixed group (whole value groups) = whole (group + 128 * value) (suc groups)

unfoldable pub scan : (k : ℕ) → List ℕ → Scan
scan zero s = overlong
scan (suc k) [] = cut
scan (suc k) (x ∷ xs) = let rest = scan k xs in if ltb x 128 then whole x 1 else prefixed (x - 128) rest

-- A number that was read, with the index behind it.
abbrev pub number : (value next : ℕ) → Result Reading Refusal
number value next = Ok (record { value = value; next = next })

-- A number must be in its shortest form. "No longer at the value": of six bytes none is above the greatest (law read_malformed). Refusals 1 and 2
-- return the byte index where the number begins.
abbrev pub read_of : (at : ℕ) → Scan → Result Reading Refusal
read_of at cut = Err (Ended at)
read_of at overlong = Err (Malformed at)
read_of at (whole value groups) =
    if leb value greatest_number && eqb groups (length (write_number value)) then number value (at + groups) else Err (Malformed at)

-- The number that begins at index `at`, with the index behind it.
unfoldable pub read_number : List ℕ → (at : ℕ) → Result Reading Refusal
read_number s at = read_of at (scan most_groups (drop at s))

unfoldable pub number_at : List ℕ → (at : ℕ) → Answer Reading
number_at s at = answer_of (read_number s at)

-- Lent memory

-- The bytes w from index `at` on and all others as they were; nothing changed where they do not fit.
unfoldable pub placed : List ℕ → (at : ℕ) → List ℕ → List ℕ
placed s at w = if leb (at + length w) (length s) then take at s ++ (w ++ drop (at + length w) s) else s
