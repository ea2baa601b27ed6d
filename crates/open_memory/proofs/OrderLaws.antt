-- The memory's test with name and hazard of each place in one pass.
-- Assumes nothing.
use Prim.Native.Nat.{ℕ, ◌+◌}
use mathlib.Core.Path.{◌≡◌, refl, sym, ap, ◌∙◌}
use mathlib.Core.Bool.{Bool, true, false, ◌&&◌}
use mathlib.Core.List.{List, [], ◌∷◌}
use lib.ListN.{drop}
use lib.Dec.{leb}
use Rattle.base.specs.Choice.{all_of}
use Rattle.job.specs.declared.Header.{Header}
use Rattle.job.specs.declared.NamedHazard.{NamedHazard}
use Rattle.job.specs.declared.StoredJob.{StoredJob}
use Rattle.job.specs.Fits.{header_in_range}
use Rattle.open_memory.specs.Memory.{greatest_name, standing, admissible, names_rise, is_unused, is_open_job}
use Rattle.open_memory.specs.Steps.{in_order_from, all_in_order}

module _ (h : Header) where
  -- All of them: the names rise, and each hazard could be added.
  order_both : (low : ℕ) (ps : List NamedHazard) → all_in_order h low ps ≡ (names_rise low ps && all_of (admissible h) ps)
  unfolding all_in_order in_order_from names_rise all_of
  order_both low [] = refl
  order_both low (p ∷ ps) =
      ap (λ (b : Bool). (leb low p.name && leb p.name greatest_name && admissible h p) && b) (order_both (p.name + 1) ps)
      ∙ go (leb low p.name && leb p.name greatest_name) (admissible h p) (names_rise (p.name + 1) ps) (all_of (admissible h) ps)
    where
      go : (a b c d : Bool) → ((a && b) && (c && d)) ≡ ((a && c) && (b && d))
      go true true c d = refl
      go true false true d = refl
      go true false false d = refl
      go false b c d = refl

-- The memory, part by part.
module _ (m : StoredJob) where
  pub open_not_header : header_in_range m.header ≡ false → false ≡ is_open_job m
  unfolding is_open_job
  open_not_header e = rw e

  module _ (ranged : header_in_range m.header ≡ true) where
    pub by_order : is_open_job m ≡ (all_in_order m.header 0 (standing m) && all_of is_unused (drop m.header.count m.hazards))
    unfolding is_open_job
    by_order = rw ranged (ap (λ (b : Bool). b && all_of is_unused (drop m.header.count m.hazards)) (sym (order_both m.header 0 (standing m))))
