-- The job in bytes: its header and hazards, and its reading with refusals 1 to 4 and 7 in their order.
-- Assumes nothing.
use Rattle.std.specs.Prelude.{ℕ, zero, suc, ◌+◌, ◌-◌, min, Bool, ◌&&◌, List, [], ◌∷◌, ◌++◌, map, length, get_or, take, set, leb, eqb, if◌then◌else◌}
use Rattle.base.specs.Answer.{Answer, accepted, ◌>>=◌}
use Rattle.refusal.specs.Refusal.{unless_refuse}
use Rattle.refusal.specs.declared.Refusal.TheVariants as Row
use Rattle.number.specs.Number.{number_at}
use Rattle.job.specs.declared.Header.{Header}
use Rattle.job.specs.declared.Bounds.{Bounds}
use Rattle.job.specs.declared.Hazard.{Hazard}
use Rattle.job.specs.declared.NamedHazard.{NamedHazard}
use Rattle.job.specs.declared.StoredJob.{StoredJob}
use Rattle.refusal.specs.declared.Refusal.{Refusal}

pub record Job : Type 0 where
  pub header : Header
  pub hazards : List Hazard

-- A hazard stored with a name, and without it.
abbrev pub named : (name : ℕ) → Hazard → NamedHazard
named name z = record { start = z.start; end = z.end; near = z.near; far = z.far; name = name; side = z.side; level = z.level }

abbrev pub unnamed : NamedHazard → Hazard
unnamed z = record { start = z.start; end = z.end; near = z.near; far = z.far; side = z.side; level = z.level }

-- The job that is stored: the header's count says how many of the hazards are its own.
abbrev pub job_of : StoredJob → Job
job_of j = record { header = j.header; hazards = map unnamed (take j.header.count j.hazards) }

-- The tables

-- Bounds: a range, both ends included.
infix 70 ◌to◌
abbrev pub ◌to◌ : ℕ → ℕ → Bounds
l to h = record { low = l; high = h }

abbrev pub within : Bounds → ℕ → Bool
within r x = leb r.low x && leb x r.high

-- The header table's ranges, in order, where the road begins at A: the thirteen numbers that every kind has.
unfoldable pub shared_ranges : (A : ℕ) → List Bounds
shared_ranges A =
    -- 1: kind; 2 by document 02, request 4
    1 to 2
    -- 2: A, road begin: "may now reach 999,999,999,999"
    ∷ 0 to 999999999999
    -- 3: B, road end: "1,000,000,000,000, B − A at most 2,000,000,000"
    ∷ (A + 1) to min 1000000000000 (A + 2000000000)
    -- 4: LF, runout length of forward traffic (rising stations)
    ∷ 1 to 200000
    -- 5: LO, runout length of opposite traffic; 0 means one-way or separated
    ∷ 0 to 200000
    -- 6: C, clear-zone width
    ∷ 1 to 30000
    -- 7: W, travelled-way edge to centreline
    ∷ 0 to 20000
    -- 8: M, barrier offset from that edge
    ∷ 0 to 20000
    -- 9: D, deflection allowance
    ∷ 1 to 5000
    -- 10, 11: flare: b across for a along; a, then b (0: no flare)
    ∷ 1 to 100
    ∷ 0 to 10
    -- 12: T, straight barrier before the flare
    ∷ 0 to 100000
    -- 13: G, continuity limit
    ∷ 0 to 200000
    ∷ []

-- And those after G, by kind. Of kind 1, 14: h, hazard count. Document 02, request 4: "A kind 2 job has one more header number after G: panel
-- length, 1 to 10,000. .. Number 15 is then the hazard count."
abbrev pub last_ranges : (kind : ℕ) → List Bounds
last_ranges kind = if eqb kind 2 then 1 to 10000 ∷ 0 to 256 ∷ [] else 0 to 256 ∷ []

unfoldable pub header_ranges : (kind A : ℕ) → List Bounds
header_ranges kind A = shared_ranges A ++ last_ranges kind

-- "Header, 14 numbers"; of a kind 2 job 15 (law header_size_lem). The last is the hazard count.
abbrev pub header_size : (kind : ℕ) → ℕ
header_size kind = if eqb kind 2 then 15 else 14

-- "Side (0 right, 1 left); s, from A to B − 1; e, from s + 1 to B; near offset n from the travelled-way edge on its side, 0 to 60,000; far offset f, n to
-- 60,000; level 1 to 6."
unfoldable pub hazard_ranges : (A B s n : ℕ) → List Bounds
hazard_ranges A B s n = 0 to 1 ∷ A to (B - 1) ∷ (s + 1) to B ∷ 0 to 60000 ∷ n to 60000 ∷ 1 to 6 ∷ []

-- The range of the next number, after the numbers `got`.
abbrev pub next_in_header : (got : List ℕ) → Bounds
next_in_header got = get_or (header_ranges (get_or got 0 0) (get_or got 1 0)) (length got) (0 to 0)

abbrev pub next_in_hazard : Header → (got : List ℕ) → Bounds
next_in_hazard h got = get_or (hazard_ranges h.begin h.end (get_or got 1 0) (get_or got 3 0)) (length got) (0 to 0)

-- Reading

-- Numbers read one after the other, and the index behind them.
pub record Fields : Type 0 where
  pub numbers : List ℕ
  pub next : ℕ

-- "Numbers as they stand, each for 1, 2 and its range": k more after `got`. Out of range is the refusal `outside`, which the numbers before it give.
unfoldable pub read_fields : (range_of : List ℕ → Bounds) (outside : List ℕ → Refusal) (k : ℕ) (got s : List ℕ) (at : ℕ) → Answer Fields
read_fields range_of outside zero got s at = accepted (record { numbers = got; next = at })
read_fields range_of outside (suc k) got s at =
    number_at s at >>= λ x.
    unless_refuse (within (range_of got) x.value) (outside got) >>= λ _.
    read_fields range_of outside k (got ++ x.value ∷ []) s x.next

-- How many header numbers are still to come after the first fourteen, `got`, of which the first is the kind.
abbrev pub more_numbers : (got : List ℕ) → ℕ
more_numbers got = header_size (get_or got 0 0) - 14

-- Refusal 3 returns the header number, 1 to 14, of a kind 2 job to 15.
abbrev pub outside_header : (got : List ℕ) → Refusal
outside_header got = Row.HeaderRange (length got + 1)

unfoldable pub read_header : (s : List ℕ) → Answer Fields
read_header s =
    read_fields next_in_header outside_header 14 [] s 0 >>= λ f.
    read_fields next_in_header outside_header (more_numbers f.numbers) f.numbers s f.next

-- The thirteen numbers that every kind has, a panel length and a hazard count.
abbrev pub header_with : List ℕ → (panel count : ℕ) → Header
header_with l panel count = record {
  kind = get_or l 0 0;
  begin = get_or l 1 0;
  end = get_or l 2 0;
  forward = get_or l 3 0;
  opposite = get_or l 4 0;
  zone = get_or l 5 0;
  way = get_or l 6 0;
  offset = get_or l 7 0;
  deflection = get_or l 8 0;
  along = get_or l 9 0;
  across = get_or l 10 0;
  straight = get_or l 11 0;
  continuity = get_or l 12 0;
  panel = panel;
  count = count;
}

-- "Kind 1 acts as panel length 1."
abbrev pub header_of : List ℕ → Header
header_of l = if eqb (get_or l 0 0) 2 then header_with l (get_or l 13 0) (get_or l 14 0) else header_with l 1 (get_or l 13 0)

-- The thirteen numbers that every kind has.
abbrev pub shared_numbers : Header → List ℕ
shared_numbers h =
    h.kind ∷ h.begin ∷ h.end ∷ h.forward ∷ h.opposite ∷ h.zone ∷ h.way ∷ h.offset ∷ h.deflection ∷ h.along ∷ h.across ∷ h.straight ∷ h.continuity
    ∷ []

-- A header with another hazard count, and one with another barrier offset.
abbrev pub counted : Header → (count : ℕ) → Header
counted h count = header_with (shared_numbers h) h.panel count

-- "A job made from the hazards."
abbrev pub made_from : Header → List Hazard → Job
made_from h zs = record { header = counted h (length zs); hazards = zs }

abbrev pub with_offset : Header → (M : ℕ) → Header
with_offset h M = header_with (set (shared_numbers h) 7 M) h.panel h.count

abbrev pub hazard_of : List ℕ → Hazard
hazard_of l = record { side = get_or l 0 0; start = get_or l 1 0; end = get_or l 2 0; near = get_or l 3 0; far = get_or l 4 0; level = get_or l 5 0 }

pub record Hazards : Type 0 where
  pub list : List Hazard
  pub next : ℕ

-- Refusal 4 returns the hazard's index from 0.
abbrev pub outside_hazard : (index : ℕ) (got : List ℕ) → Refusal
outside_hazard index got = Row.HazardRange index

-- k more hazards after those in `got`.
unfoldable pub read_hazards : Header → (k : ℕ) (got : List Hazard) (s : List ℕ) (at : ℕ) → Answer Hazards
read_hazards h zero got s at = accepted (record { list = got; next = at })
read_hazards h (suc k) got s at =
    read_fields (next_in_hazard h) (outside_hazard (length got)) 6 [] s at >>= λ z.
    read_hazards h k (got ++ hazard_of z.numbers ∷ []) s z.next

-- What follows the header: k more hazards after those in `got`. "No field may be missing. Nothing follows": refusal 7 returns the index
-- of the first byte left over.
unfoldable pub read_rest : Header → (k : ℕ) (got : List Hazard) (s : List ℕ) (at : ℕ) → Answer Job
read_rest h k got s at =
    read_hazards h k got s at >>= λ r.
    unless_refuse (leb (length s) r.next) (Row.LeftOver r.next) >>= λ _.
    accepted (record { header = h; hazards = r.list })

unfoldable pub read_job : (s : List ℕ) → Answer Job
read_job s = read_header s >>= λ f. let h = header_of f.numbers in read_rest h h.count [] s f.next
