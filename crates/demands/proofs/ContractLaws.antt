-- The call quantities as the paper says it: when it gives which refusal, that each quantity is the single call's, and that the records are the runs.
-- Assumes nothing.
use Prim.Native.Nat.{ℕ, ◌≤◌, ◌<◌}
use native.Mathlib.Omega.{arith}
use mathlib.Core.Path.{◌≡◌, refl, sym, subst, ap, ◌∙◌}
use mathlib.Core.Logic.{◌↔◌}
use mathlib.Core.Bool.{◌&&◌}
use mathlib.Core.List.{List, map}
use lib.ListN.{length, get_or, length-map}
use lib.Dec.{leb}
use borrow.Author.Tests.{leb-true}
use Rattle.base.specs.Answer.{Answer, accepted, refused}
use Rattle.number.specs.Form.{Bytes}
use Rattle.runs.proofs.IndexLaws.{zeros}
use Rattle.schedule.specs.Schedule.{IsSchedule, read_schedule}
use Rattle.queries.specs.Ranges.{ranges_of, are_ranges, most_ranges, Counted, quantities, quantity_places, quantities_replied, range_at, AllRanged}
use Rattle.schedule.proofs.ScheduleLaws.{schedule_runs}
use Rattle.demands.proofs.QueryLaws.{schedule_ten, query_eight, query_eleven, query_ten, query_given, not_within, quantity_counts}
use Rattle.queries.proofs.RangeLaws.{places_count, places_in, places_behind}
use Rattle.queries.proofs.QuantitiesLaws.{priced, counted, priced_at, all_ranged, quantities_accepted, quantities_argument, quantities_many, quantities_none}
use Rattle.demands.specs.Contract.{Given, QuantitiesEight, QuantitiesEleven, QuantitiesTen, QuantitiesGiven, QuantitiesDone, QuantitiesRefused}

module _ (s : List ℕ) (v : ℕ) (l : List ℕ) (b : Bytes s) where
  by_eight : (quantities s v l ≡ refused 8 0) ↔ (AllRanged v l → ⊥)
  unfolding quantities
  by_eight =
      let e = query_eight s (λ rs. counted rs v (ranges_of l)) b (leb 1 v && leb v 6 && are_ranges l) (leb (length (ranges_of l)) most_ranges) in
      (λ x a. e.0 x ((all_ranged v l).1 a), quantities_argument s v l)

  by_eleven : (quantities s v l ≡ refused 11 0) ↔ (AllRanged v l × (most_ranges < length (ranges_of l)))
  unfolding quantities
  by_eleven =
      let e = query_eleven s (λ rs. counted rs v (ranges_of l)) b (leb 1 v && leb v 6 && are_ranges l) (leb (length (ranges_of l)) most_ranges) in
      (λ x. ((all_ranged v l).0 (e.0 x).0, not_within (length (ranges_of l)) most_ranges (e.0 x).1), λ h. quantities_many s v l h.0 h.1)

  by_ten : (quantities s v l ≡ refused 10 0) ↔ (AllRanged v l × (length (ranges_of l) ≤ most_ranges) × (IsSchedule s → ⊥))
  unfolding quantities
  by_ten =
      let e = query_ten s (λ rs. counted rs v (ranges_of l)) b (leb 1 v && leb v 6 && are_ranges l) (leb (length (ranges_of l)) most_ranges) in (
        λ x. ((all_ranged v l).0 (e.0 x).0, leb-true (length (ranges_of l)) most_ranges (e.0 x).1, (e.0 x).2),
        λ h. quantities_none s v l h.0 h.1 ((schedule_ten s b).1 h.2),
      )

  by_given : (quantities_replied (quantities s v l)).answer ≡ accepted tt → Given s v l (quantities_replied (quantities s v l))
  unfolding quantities_replied quantities
  by_given = go (quantities s v l) refl
    where
      finish : AllRanged v l → length (ranges_of l) ≤ most_ranges → (w : IsSchedule s) → read_schedule s ≡ accepted w.runs
          → Given s v l (quantities_replied (accepted (counted w.runs v (ranges_of l))))
      finish a few w read =
          let got = map (priced w.runs v) (ranges_of l) in
          let as_many = length-map (ranges_of l) (priced w.runs v) in
          record {
            ranged = a;
            few = few;
            schedule = w;
            records = λ u. let same : accepted w.runs ≡ accepted u.runs = sym read ∙ schedule_runs s u in let q : w.runs ≡ u.runs = cc in ap length q;
            each = λ i h. (quantity_counts s v (range_at l i).p (range_at l i).q (get_or (quantity_places got) i 0)).1
                (record {
                  ranged = (a.0, a.1, a.2.ordered i h);
                  runs = w.runs;
                  read = read;
                  count = sym (places_in got i (omega (arith, as_many)) ∙ priced_at (priced w.runs v) l i h);
                });
            behind = λ i h. places_behind got i (omega (arith, as_many));
            places = places_count got (omega (arith, as_many));
          }

      go : (a : Answer Counted) → quantities s v l ≡ a → (quantities_replied a).answer ≡ accepted tt → Given s v l (quantities_replied a)
      go (accepted c) e h =
          let few = leb (length (ranges_of l)) most_ranges in
          let g = query_given s (λ rs. counted rs v (ranges_of l)) b (leb 1 v && leb v 6 && are_ranges l) few c e in
          subst (λ (x : Counted). Given s v l (quantities_replied (accepted x))) g.4
          (finish ((all_ranged v l).0 g.0) (leb-true (length (ranges_of l)) most_ranges g.1) g.2 g.3)
      go (refused k n) e h = cc

  by_done : ((quantities_replied (quantities s v l)).answer ≡ accepted tt) ↔ (AllRanged v l × (length (ranges_of l) ≤ most_ranges) × IsSchedule s)
  unfolding quantities_replied
  by_done = (
    λ e. let g = by_given e in (g.ranged, g.few, g.schedule),
    λ h. ap (λ (x : Answer Counted). (quantities_replied x).answer) (quantities_accepted s v l h.0 h.1 h.2.runs (schedule_runs s h.2)),
  )

pub quantities_eight : QuantitiesEight
quantities_eight = by_eight

pub quantities_eleven : QuantitiesEleven
quantities_eleven = by_eleven

pub quantities_ten : QuantitiesTen
quantities_ten = by_ten

pub quantities_given : QuantitiesGiven
quantities_given = by_given

pub quantities_done : QuantitiesDone
quantities_done = by_done

pub quantities_refused : QuantitiesRefused
unfolding quantities_replied
quantities_refused s v l number value e = rw e (record { records = refl; each = zeros most_ranges; places = refl })
