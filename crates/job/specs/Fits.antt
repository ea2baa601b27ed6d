-- What lies in its ranges: numbers, a header, a hazard, a job.
-- Assumes nothing.
use Rattle.std.specs.Prelude.{ℕ, ◌≡◌, Bool, true, ◌&&◌, ◌||◌, length, eqb}
use mathlib.Core.List.{List, [], ◌∷◌, ◌++◌, Memᴰ}
use Rattle.job.specs.declared.Header.{Header}
use Rattle.job.specs.declared.Hazard.{Hazard}
use Rattle.job.specs.declared.Bounds.{Bounds}
use Rattle.job.specs.Job.{Job, within, next_in_header, next_in_hazard}
use Rattle.job.specs.Writing.{header_numbers, hazard_numbers}

-- Numbers after `got`, each in its range.
unfoldable pub in_ranges : (range_of : List ℕ → Bounds) (got numbers : List ℕ) → Bool
in_ranges range_of got [] = true
in_ranges range_of got (x ∷ xs) = within (range_of got) x && in_ranges range_of (got ++ x ∷ []) xs

-- Each of the header's numbers; of kind 1, which has no panel length and "acts as panel length 1", the panel length is 1.
unfoldable pub header_in_range : Header → Bool
header_in_range h = in_ranges next_in_header [] (header_numbers h) && (eqb h.kind 2 || eqb h.panel 1)

unfoldable pub hazard_in_range : Header → Hazard → Bool
hazard_in_range h z = in_ranges (next_in_hazard h) [] (hazard_numbers z)

abbrev pub HeaderFits : Header → Type 0
HeaderFits h = header_in_range h ≡ true

abbrev pub HazardFits : Header → Hazard → Type 0
HazardFits h z = hazard_in_range h z ≡ true

-- k hazards, each in its ranges.
pub record HazardsFit (h : Header) (k : ℕ) (zs : List Hazard) : Type 0 where
  pub count : length zs ≡ k
  pub each : (z : Hazard) → Memᴰ z zs → HazardFits h z

-- As many as the header says.
pub record JobFits (j : Job) : Type 0 where
  pub header : HeaderFits j.header
  pub hazards : HazardsFit j.header j.header.count j.hazards
