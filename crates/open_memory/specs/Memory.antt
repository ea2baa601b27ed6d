-- One state of an open job in the caller's memory: what stands in it, and which memory keeps the rules.
-- Assumes nothing.
use Rattle.std.specs.Prelude.{ℕ, ◌+◌, Bool, true, ◌&&◌, not, List, [], ◌∷◌, length, take, drop, get_or, leb, ltb, eqb, if◌then◌else◌}
use Rattle.base.specs.Choice.{some_of, all_of, filter}
use Rattle.base.specs.Answer.{Answer, ◌>>=◌, is_accepted}
use Rattle.refusal.specs.Refusal.{unless_refuse}
use Rattle.refusal.specs.declared.Refusal.TheVariants as Row
use Rattle.base.specs.Stored.{padded}
use Rattle.job.specs.declared.Header.{Header}
use Rattle.job.specs.declared.Hazard.{Hazard}
use Rattle.job.specs.declared.NamedHazard.{NamedHazard}
use Rattle.job.specs.declared.StoredJob.{StoredJob}
use Rattle.job.specs.Job.{unnamed, counted}
use Rattle.job.specs.Fits.{header_in_range, hazard_in_range}
use Rattle.job.specs.Reply.{unused}
use Rattle.planning.specs.Envelope.{test_hazard}
use Rattle.open_memory.specs.declared.GivenHazard.{GivenHazard}

-- What stands

-- "Names become 0 to 65,535; 256 hazards may still stand together."
abbrev pub most_standing : ℕ
most_standing = 256

abbrev pub greatest_name : ℕ
greatest_name = 65535

-- The hazards that stand, with their names: the first in the memory, as many as the header's hazard count says.
abbrev pub standing : StoredJob → List NamedHazard
standing m = take m.header.count m.hazards

-- The memory in which these hazards stand: as many as the hazard count says, and zeros behind them.
abbrev pub laid_out : Header → List NamedHazard → StoredJob
laid_out h ps = record { header = counted h (length ps); hazards = padded most_standing unused ps }

-- Some hazard stands under the name.
unfoldable pub stands : (name : ℕ) → List NamedHazard → Bool
stands name ps = some_of (λ (p : NamedHazard). eqb p.name name) ps

-- The hazard that stands under a name; zeros where none does.
unfoldable pub hazard_under : (name : ℕ) → List NamedHazard → NamedHazard
hazard_under name ps = get_or (filter (λ (p : NamedHazard). eqb p.name name) ps) 0 unused

-- As many stand as may stand together.
abbrev pub is_full : List NamedHazard → Bool
is_full ps = leb most_standing (length ps)

-- A hazard put before the first one with a greater name.
unfoldable pub inserted : NamedHazard → List NamedHazard → List NamedHazard
inserted p [] = p ∷ []
inserted p (q ∷ qs) = let r = inserted p qs in if ltb p.name q.name then p ∷ q ∷ qs else q ∷ r

-- The hazards with other names.
unfoldable pub without : (name : ℕ) → List NamedHazard → List NamedHazard
without name ps = filter (λ (p : NamedHazard). not (eqb p.name name)) ps

-- The rules

-- "Add tests its hazard for 4, 5 and 6, index replaced by name"; since request 8 "number 6 no longer occurs anywhere".
unfoldable pub admit : Header → (name : ℕ) → Hazard → Answer (Unit {0})
admit h name z = unless_refuse (hazard_in_range h z) (Row.HazardRange name) >>= λ _. test_hazard h name z

-- The same of a hazard that stands.
abbrev pub admissible : Header → NamedHazard → Bool
admissible h p = is_accepted (admit h p.name (unnamed p))

-- Names up to the greatest that rise from `low` on, so that none stands twice.
unfoldable pub names_rise : (low : ℕ) → List NamedHazard → Bool
names_rise low [] = true
names_rise low (p ∷ ps) = leb low p.name && leb p.name greatest_name && names_rise (p.name + 1) ps

unfoldable pub is_unused : NamedHazard → Bool
is_unused p = eqb p.start 0 && eqb p.end 0 && eqb p.near 0 && eqb p.far 0 && eqb p.name 0 && eqb p.side 0 && eqb p.level 0

-- Memory whose header, names and hazards keep the rules, with zeros behind them. It has 256 places by its type.
unfoldable pub is_open_job : StoredJob → Bool
is_open_job m =
    header_in_range m.header && names_rise 0 (standing m) && all_of (admissible m.header) (standing m)
    && all_of is_unused (drop m.header.count m.hazards)

-- The hazard that is given.
abbrev pub hazard_given : GivenHazard → Hazard
hazard_given g = record { side = g.side; start = g.start; end = g.end; near = g.near; far = g.far; level = g.level }
