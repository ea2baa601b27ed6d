-- The writing of a job: its numbers in the tables' order, one behind the other, each in its shortest form (LEB128).
-- Assumes nothing.
use Rattle.std.specs.Prelude.{ℕ, List, [], ◌∷◌, ◌++◌, eqb, if◌then◌else◌}
use Rattle.number.specs.Number.{write_number}
use Rattle.job.specs.declared.Header.{Header}
use Rattle.job.specs.declared.Hazard.{Hazard}
use Rattle.job.specs.Job.{Job, shared_numbers}

-- The numbers of the header table: behind the thirteen that every kind has those after G, by kind.
abbrev pub last_numbers : Header → List ℕ
last_numbers h = if eqb h.kind 2 then h.panel ∷ h.count ∷ [] else h.count ∷ []

abbrev pub header_numbers : Header → List ℕ
header_numbers h = shared_numbers h ++ last_numbers h

-- "Side; s; e; near offset n; far offset f; level."
abbrev pub hazard_numbers : Hazard → List ℕ
hazard_numbers z = z.side ∷ z.start ∷ z.end ∷ z.near ∷ z.far ∷ z.level ∷ []

unfoldable pub hazards_numbers : List Hazard → List ℕ
hazards_numbers [] = []
hazards_numbers (z ∷ zs) = hazard_numbers z ++ hazards_numbers zs

-- The header's numbers, then six for each hazard.
unfoldable pub numbers_of : Job → List ℕ
numbers_of j = header_numbers j.header ++ hazards_numbers j.hazards

-- Each number's writing, one behind the other.
unfoldable pub write_numbers : List ℕ → List ℕ
write_numbers [] = []
write_numbers (x ∷ xs) = write_number x ++ write_numbers xs

unfoldable pub write_job : Job → List ℕ
write_job j = write_numbers (numbers_of j)

-- The numbers of document 01's job on paper.
unfoldable pub printed_job : List ℕ
printed_job =
    1 ∷ 0 ∷ 1000000 ∷ 101000 ∷ 0 ∷ 9000 ∷ 0 ∷ 3000 ∷ 1000 ∷ 15 ∷ 1 ∷ 13340 ∷ 0 ∷ 1
    ∷ 0 ∷ 200000 ∷ 210000 ∷ 5000 ∷ 9000 ∷ 3 ∷ []
