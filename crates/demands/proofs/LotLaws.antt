-- The lots of a rising list in one call: their quantities add up as those of a call for each lot.
-- Assumes nothing.
use Prim.Native.Nat.{ℕ, zero, suc, ◌+◌, ◌-◌, ◌≤◌}
use native.Mathlib.Omega.{arith}
use mathlib.Core.Path.{◌≡◌, refl, sym, ap, ◌∙◌}
use mathlib.Core.Bool.{true}
use mathlib.Core.List.{List, [], ◌∷◌, ◌++◌, map}
use lib.ListN.{length, replicate}
use borrow.Author.Tests.{le-leb}
use Rattle.base.specs.Answer.{Answer, accepted}
use Rattle.std.proofs.lemmas.Bool.{and_from}
use Rattle.runs.specs.declared.Stretch.{Stretch}
use Rattle.planning.specs.Required.{job_level, job_runs}
use Rattle.schedule.specs.Schedule.{read_schedule}
use Rattle.queries.specs.Quantity.{millimetres}
use Rattle.queries.specs.Ranges.{ranges_of, are_ranges, most_ranges, Counted, quantity_places, quantities_replied}
use Rattle.demands.specs.Demands.{RisingStations, last_of, lots_total, lots_of, added, OneCall, Demand3OneCall}
use Rattle.demands.proofs.DemandLaws.{demand2, demand3_quantities}
use Rattle.demands.proofs.QueryLaws.{quantity_counts}
use Rattle.queries.proofs.RangeLaws.{whole_ranges}
use Rattle.queries.proofs.QuantitiesLaws.{priced, quantities_accepted}

-- The zeros behind the quantities add nothing.
added_append : (l m : List ℕ) → added (l ++ m) ≡ added l + added m
unfolding added
added_append [] m = omega arith
added_append (n ∷ l) m = omega (arith, added_append l m)

added_zeros : (n : ℕ) → added (replicate n 0) ≡ 0
unfolding added
added_zeros zero = refl
added_zeros (suc n) = omega (arith, added_zeros n)

added_places : (l : List ℕ) → added (quantity_places l) ≡ added l
added_places l = omega (arith, added_append l (replicate (most_ranges - length l) 0), added_zeros (most_ranges - length l))

-- The lots of a rising list are ranges, one fewer than it has stations.
lots_are : (p : ℕ) (qs : List ℕ) → RisingStations p qs → are_ranges (lots_of p qs) ≡ true
unfolding are_ranges lots_of
lots_are p [] r = refl
lots_are p (q ∷ qs) r = and_from _ _ (le-leb p q r.0) (lots_are q qs r.1)

lots_count : (p : ℕ) (qs : List ℕ) → length (ranges_of (lots_of p qs)) ≡ length qs
unfolding ranges_of lots_of
lots_count p [] = refl
lots_count p (q ∷ qs) = ap suc (lots_count q qs)

module _ (w : List ℕ) (rs : List Stretch) (v : ℕ) (read : read_schedule w ≡ accepted rs) (low : 1 ≤ v) (top : v ≤ 6) where
  -- One call for each lot, and one for all.
  lots_added : (p : ℕ) (qs : List ℕ) → RisingStations p qs → lots_total w v p qs ≡ accepted (added (map (priced rs v) (ranges_of (lots_of p qs))))
  unfolding lots_total lots_of ranges_of added
  lots_added p [] r = refl
  lots_added p (q ∷ qs) r =
      rw ((quantity_counts w v p q (millimetres _ v p q)).1 (record { ranged = (low, top, r.0); runs = rs; read = read; count = refl }), lots_added q qs r.1)

  one_call : (p : ℕ) (qs : List ℕ) → RisingStations p qs → length qs ≤ most_ranges → (n : ℕ) → lots_total w v p qs ≡ accepted n → OneCall w v (lots_of p qs) n
  unfolding quantities_replied
  one_call p qs r few n total =
      let given = quantities_accepted w v (lots_of p qs) (low, top, (whole_ranges (lots_of p qs)).0 (lots_are p qs r)) (omega (arith, lots_count p qs)) rs read in
      let same : accepted (added (map (priced rs v) (ranges_of (lots_of p qs)))) ≡ accepted n = sym (lots_added p qs r) ∙ total in
      let sum : added (map (priced rs v) (ranges_of (lots_of p qs))) ≡ n = cc in
      record {
        done = ap (λ (a : Answer Counted). (quantities_replied a).answer) given;
        adds_up = ap (λ (a : Answer Counted). added (quantities_replied a).places) given ∙ added_places _ ∙ sum;
      }

pub demand3_one_call : Demand3OneCall
demand3_one_call s j side w a h planned v low top p qs r few =
    one_call w (job_runs j side) v (demand2 s j side w a h planned).reads low top p qs r few (millimetres (job_level j side) v p (last_of p qs))
    (demand3_quantities s j side w a h planned v low top p qs r)
