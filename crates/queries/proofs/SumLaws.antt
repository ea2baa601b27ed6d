-- Laws of the walk that notes the runs of a level, and that the differences between what lies below the ends of each range are the quantities.
-- Assumes nothing.
use Prim.Native.Nat.{ℕ, ◌≤◌, ◌<◌}
use native.Mathlib.Omega.{arith}
use native.Mathlib.Decide.{dec_lt}
use mathlib.Core.Path.{◌≡◌, refl, sym, subst, ◌∙◌}
use mathlib.Core.List.{List, map}
use lib.ListN.{length, get_or, length-map}
use lib.Seq.{ext_get_or}
use borrow.Author.Tests.{le-leb}
use Rattle.base.specs.Answer.{Answer, accepted, refused}
use Rattle.runs.specs.declared.Stretch.{Stretch}
use Rattle.runs.specs.RunList.{MayFollow}
use Rattle.schedule.specs.Schedule.{read_schedule}
use Rattle.queries.specs.Walk.{head_at, overlaps, overlap_sum, run_count, Between, at_first, after, Next}
use Rattle.queries.specs.Ranges.{most_ranges, ranges_of, quantities, quantity_places, replies, range_at, AllRanged}
use Rattle.queries.specs.Sums.{below, Noted, Passed, Differences}
use Rattle.queries.specs.Visits.{then_runs, Tallying}
use Rattle.number.specs.declared.Reading.{Reading}
use Rattle.queries.specs.declared.walk.Record.{Record}
use Rattle.queries.proofs.StepLaws.{head_few, next_follows, count_refused}
use Rattle.queries.proofs.OverlapLaws.{millimetres_overlaps, overlaps_between, summed_start, summed_turn, summed_over}
use Rattle.queries.proofs.QuantityLaws.{read_rising}
use Rattle.queries.proofs.RangeLaws.{ranges_count, places_count, places_in, places_behind}
use Rattle.queries.proofs.QuantitiesLaws.{priced, priced_at, all_ranged, quantities_accepted}
use Rattle.queries.proofs.NotedLaws.{noted_later, below_nothing, passed_by}

-- The walk

pub tallying_start : (s : List ℕ) (level : ℕ) (starts sums : List ℕ) (h : Reading) → head_at s ≡ accepted h → Noted starts sums 0 0
    → Tallying s level (at_first h) starts sums 0
tallying_start s level starts sums h e w = record {
  kept = w;
  few = omega (arith, head_few s h e);
  runs = λ t. summed_start s level 0 t (below starts sums 0 t) h (below_nothing starts sums t) e;
}

module _ (s : List ℕ) (level : ℕ) (b : Between) (at : ℕ) (r : Record) (n : Next s b at r) (starts sums : List ℕ) (noted : ℕ)
    (w : Tallying s level b starts sums noted) where
  tallying_turn : (starts' sums' : List ℕ) (noted' : ℕ) → Passed r.run level starts sums noted starts' sums' noted'
      → Tallying s level (after b r) starts' sums' noted'
  tallying_turn starts' sums' noted' passed = record {
    kept = passed.noted;
    few = omega (arith, passed.next, w.few, n.some);
    runs = λ t. summed_turn s level 0 t (below starts sums noted t) (below starts' sums' noted' t) (record { run = r.run; next = r.next }) (w.runs t) n.some n.reads (passed.added t);
  }

  pub follows : MayFollow b.end b.level r.run
  follows = next_follows s b at r n

  -- Before the run is noted.
  pub noted_before : Noted starts sums noted r.run.start
  noted_before = noted_later w.kept _ follows.after

  pub tallying_here : (starts' sums' : List ℕ) (noted' : ℕ) → r.run.level ≡ level → Passed r.run r.run.level starts sums noted starts' sums' noted'
      → Tallying s level (after b r) starts' sums' noted'
  tallying_here starts' sums' noted' same passed =
      tallying_turn starts' sums' noted' (subst (λ (v : ℕ). Passed r.run v starts sums noted starts' sums' noted') same passed)

  pub tallying_by : (r.run.level ≡ level → ⊥) → Tallying s level (after b r) starts sums noted
  tallying_by other = tallying_turn starts sums noted (passed_by _ _ _ _ _ (omega (arith, follows.long)) noted_before other)

-- The differences are the quantities

module _ (s : List ℕ) (v : ℕ) (l : List ℕ) (a : AllRanged v l) (few : length (ranges_of l) ≤ most_ranges) where
  pub quantities_refused : (x y : ℕ) → refused x y ≡ run_count s → refused x y ≡ replies (quantities s v l)
  unfolding quantities
  quantities_refused x y e = rw ((all_ranged v l).1 a, le-leb (length (ranges_of l)) most_ranges few, count_refused s x y e) refl

  module _ (starts sums : List ℕ) (records noted : ℕ) (b : Between) (w : Tallying s v b starts sums noted) (none : b.left ≡ 0) (over : b.at ≡ length s)
      (count : accepted records ≡ run_count s) (got : List ℕ) (d : Differences starts sums noted l got) where
    got_priced : (rs : List Stretch) → read_schedule s ≡ accepted rs → got ≡ quantity_places (map (priced rs v) (ranges_of l))
    unfolding overlap_sum
    got_priced rs e =
        ext_get_or 0 got (quantity_places asked) (d.places ∙ sym (places_count asked (omega (arith, asked_length)))) (λ i h. at i (dec_lt i (length (ranges_of l))))
      where
        asked : List ℕ
        asked = map (priced rs v) (ranges_of l)

        asked_length : length asked ≡ length (ranges_of l)
        asked_length = length-map (ranges_of l) (priced rs v)

        below_is : (t : ℕ) → below starts sums noted t ≡ overlaps rs v 0 t
        below_is t = let q = rw e at (summed_over s v 0 t (w.runs t) none over) in cc

        got_at : (i : ℕ) → i < length (ranges_of l) → get_or got i 0 ≡ priced rs v (range_at l i)
        got_at i h =
            let p = (range_at l i).p in
            let q = (range_at l i).q in
            let in_order = a.2.ordered i h in
            let same : get_or got i 0 ≡ overlaps rs v p q =
            omega (arith, d.ranges i (omega (arith, ranges_count l)), below_is p, below_is q, overlaps_between rs v p q in_order) in
            same ∙ sym (millimetres_overlaps rs (read_rising s rs e) v p q a.0 in_order)

        at : (i : ℕ) → Dec (i < length (ranges_of l)) → get_or got i 0 ≡ get_or (quantity_places asked) i 0
        at i (yes h) = got_at i h ∙ sym (places_in asked i (omega (arith, asked_length)) ∙ priced_at (priced rs v) l i h)
        at i (no h) = d.behind i (omega (arith, ranges_count l)) ∙ sym (places_behind asked i (omega (arith, asked_length)))

    pub quantities_over : accepted (record { records = records; quantities = got }) ≡ replies (quantities s v l)
    unfolding run_count
    quantities_over = go (read_schedule s) refl count
      where
        go : (r : Answer (List Stretch)) → read_schedule s ≡ r → accepted records ≡ then_runs r (λ rs. length rs)
            → accepted (record { records = records; quantities = got }) ≡ replies (quantities s v l)
        go (accepted rs) e q =
            let same : records ≡ length rs = cc in
            rw (quantities_accepted s v l a few rs e, same, got_priced rs e) refl
        go (refused x y) e q = cc
