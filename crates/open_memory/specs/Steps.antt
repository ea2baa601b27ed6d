-- Steps of the code, proved equal to the paper's definitions.
-- Assumes nothing.
use Rattle.std.specs.Prelude.{Option, Some, None, ℕ, suc, ◌+◌, ◌-◌, ◌*◌, min, ◌≡◌, Bool, true, ◌&&◌, ◌||◌, List, [], ◌∷◌, ◌++◌, take, drop, replicate, leb, ltb, eqb, if◌then◌else◌}
use Rattle.std.specs.Int.Bits.{bit_or}
use Rattle.job.specs.declared.Header.{Header}
use Rattle.job.specs.declared.NamedHazard.{NamedHazard}
use Rattle.job.specs.declared.StoredJob.{StoredJob}
use Rattle.job.specs.Job.{next_in_header, shared_numbers, counted}
use Rattle.job.specs.Writing.{last_numbers}
use Rattle.job.specs.Fits.{in_ranges, header_in_range}
use Rattle.job.specs.Reply.{unused}
use Rattle.open_memory.specs.Memory.{most_standing, greatest_name, admissible}
use Rattle.open_memory.specs.declared.rules.Limits.{Limits}

-- The header's numbers after the thirteen that every kind has.
unfoldable pub last_in_range : Header → Bool
last_in_range h = in_ranges next_in_header (shared_numbers h) (last_numbers h) && (eqb h.kind 2 || eqb h.panel 1)

-- A name from `low` on, and a hazard that could be added; and all of them, with rising names.
unfoldable pub in_order_from : Header → (low : ℕ) → NamedHazard → Bool
in_order_from h low p = leb low p.name && leb p.name greatest_name && admissible h p

unfoldable pub all_in_order : Header → (low : ℕ) → List NamedHazard → Bool
all_in_order h low [] = true
all_in_order h low (p ∷ ps) = in_order_from h low p && all_in_order h (p.name + 1) ps

-- The same place by place, without a branch

-- What the header asks of every hazard.
abbrev pub own_limits : Header → Limits
own_limits h = record { begin = h.begin; end = h.end; near = min h.zone (h.offset + h.deflection) }

-- None where a number of the header's own is out of its range, whatever its hazard count.
unfoldable pub limits_of : Header → Option Limits
limits_of h = if header_in_range (counted h 0) then Some (own_limits h) else None

unfoldable pub in_limits : Limits → NamedHazard → Bool
in_limits l p =
    leb p.side 1 && leb l.begin p.start && ltb p.start p.end && leb p.end l.end && leb l.near p.near && leb p.near p.far
    && leb p.far 60000 && leb 1 p.level && leb p.level 6

-- The least name that may stand behind a place, and above every name where the place or one before it breaks the rules; then behind several.
unfoldable pub next_low : Limits → (low : ℕ) → NamedHazard → ℕ
next_low l low p = if leb low p.name && leb p.name greatest_name && in_limits l p then p.name + 1 else 65537

unfoldable pub low_after : Limits → (low : ℕ) → List NamedHazard → ℕ
low_after l low [] = low
low_after l low (p ∷ ps) = low_after l (next_low l low p) ps

-- A place's numbers of fewer than 64 bits side by side, as they lie in memory: the offsets in the lower 32 bits, then name, side and level.
abbrev pub rest_of : NamedHazard → ℕ
rest_of p = p.near + p.far * 65536 + p.name * 4294967296 + p.side * 281474976710656 + p.level * 72057594037927936

-- The bits that stand in a place beside those seen before; then in several.
unfoldable pub with_bits : (bits : ℕ) → NamedHazard → ℕ
with_bits bits p = bit_or (bit_or (bit_or bits p.start) p.end) (rest_of p)

unfoldable pub bits_after : (bits : ℕ) → List NamedHazard → ℕ
bits_after bits [] = bits
bits_after bits (p ∷ ps) = bits_after (with_bits bits p) ps

-- The places of a state of so many hazards: no name is out of order, and no bit stands behind the hazards.
unfoldable pub places_pass : Limits → (count : ℕ) → List NamedHazard → Bool
places_pass l count ps = leb (low_after l 0 (take count ps)) 65536 && eqb (bits_after 0 (drop count ps)) 0

-- Every place behind the hazards is 0.
pub record ZerosAfter (m : StoredJob) : Type 0 where
  pub behind : drop m.header.count m.hazards ≡ replicate (most_standing - m.header.count) unused

-- How many names are below a name: where it stands, or is to be put.
unfoldable pub rank : (name : ℕ) → List NamedHazard → ℕ
rank name [] = 0
rank name (p ∷ ps) = let r = rank name ps in if ltb p.name name then suc r else 0

-- A hazard put in at a place, and the one there taken out.
abbrev pub put_at : ℕ → NamedHazard → List NamedHazard → List NamedHazard
put_at at p ps = take at ps ++ p ∷ drop at ps

abbrev pub taken_at : ℕ → List NamedHazard → List NamedHazard
taken_at at ps = take at ps ++ drop (suc at) ps
