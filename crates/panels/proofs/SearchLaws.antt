-- One more try: what is kept is the better of what was kept and the layout tried, and so the best of all tried.
-- Assumes nothing.
use Rattle.std.specs.Prelude.{Option, Some, None, IfSome, if◌then◌else◌}
use Prim.Native.Nat.{ℕ, ◌+◌, ◌-◌, ◌≤◌, ◌<◌}
use native.Mathlib.Omega.{arith}
use native.Mathlib.Nat.{zero-add}
use mathlib.Core.Path.{◌≡◌, refl, sym, ap, ap₂, ◌∙◌, subst}
use mathlib.Core.List.{List, [], ◌∷◌}
use lib.ListN.{length}
use lib.Dec.{leb}
use borrow.Author.Tests.{le-leb, lt-leb}
use Rattle.panels.specs.declared.odometer.Lengths.{Lengths}
use Rattle.panels.specs.declared.odometer.Odometer.{Odometer}
use Rattle.panels.specs.Layout.{total, covers, overrun, none, found, if_covering, better, best}
use Rattle.panels.specs.Promised.{StockLengths}
use Rattle.panels.specs.Steps.{layout_at, layouts_from, four_lengths, Shows, Advances, Covering, best_kept, JudgedNext}
use Rattle.panels.proofs.PlaceLaws.{from_append}
use Rattle.panels.proofs.BestLaws.{better_none, best_append}
use Rattle.panels.proofs.OdometerLaws.{shows_first, shows_total, shows_counts}

-- What is kept

-- A layout that does not cover changes nothing.
pub judge_short : (kept : Option Odometer) (at : Odometer) (run : ℕ) → at.total < run → JudgedNext kept at run kept
judge_short kept at run h k = rw (lt-leb run at.total h) (sym (better_none (best_kept k run kept)))

-- Nor does one whose overrun is not smaller.
pub judge_same : (kept at : Odometer) (run : ℕ) → run ≤ at.total → kept.total ≤ at.total → JudgedNext (Some kept) at run (Some kept)
judge_same kept at run h l k = rw (le-leb run at.total h, le-leb (kept.total - run) (at.total - run) (omega arith))

pub judge_first : (at : Odometer) (run : ℕ) → run ≤ at.total → JudgedNext None at run (Some at)
judge_first at run h k = rw (le-leb run at.total h)

pub judge_smaller : (kept at : Odometer) (run : ℕ) → run ≤ at.total → at.total < kept.total → JudgedNext (Some kept) at run (Some at)
judge_smaller kept at run h l k = rw (le-leb run at.total h, lt-leb (kept.total - run) (at.total - run) (omega arith))

-- The tries

-- After so many tries: the odometer shows the next layout, and the best of those tried is kept.
pub record TriedSo (ls : List ℕ) (run : ℕ) (l : Lengths) (o : Odometer) (kept : Option Odometer) (tries : ℕ) : Type 0 where
  pub lengths : l ≡ four_lengths ls
  pub shows : Shows l tries o
  pub covers : IfSome kept (Covering run)
  pub best_kept : best_kept (length ls) run kept ≡ best ls run (layouts_from (length ls) 0 tries)

pub tried_none : (ls : List ℕ) (run : ℕ) (l : Lengths) → l ≡ four_lengths ls
    → TriedSo ls run l (record { first = 0; second = 0; third = 0; last = 0; total = 0 }) None 0
unfolding best layouts_from
tried_none ls run l e = record { lengths = e; shows = shows_first l; covers = tt; best_kept = refl }

module _ (ls : List ℕ) (run : ℕ) where
  -- A layout judged by its total.
  judged_by : (c : List ℕ) (t : ℕ) → total ls c ≡ t → if_covering ls run c ≡ (if leb run t then found (t - run) c else none)
  unfolding if_covering covers overrun
  judged_by c t e = rw e

  best_one : (c : List ℕ) → best ls run (c ∷ []) ≡ if_covering ls run c
  unfolding best
  best_one c = better_none (if_covering ls run c)

  -- The tries so far and the next.
  one_more : (k n : ℕ) → best ls run (layouts_from k 0 (n + 1)) ≡ better (best ls run (layouts_from k 0 n)) (if_covering ls run (layout_at k n))
  unfolding layouts_from
  one_more k n =
      ap (best ls run) (from_append k 0 n 1)
      ∙ best_append ls run (layouts_from k 0 n) (layout_at k (0 + n) ∷ [])
      ∙ ap (better (best ls run (layouts_from k 0 n))) (best_one (layout_at k (0 + n)) ∙ ap (λ (i : ℕ). if_covering ls run (layout_at k i)) (zero-add n))

  pub tried_next : StockLengths ls → {l : Lengths} {o next : Odometer} {kept after : Option Odometer} {tries : ℕ} → tries < 65536
      → TriedSo ls run l o kept tries → IfSome after (Covering run) → JudgedNext kept o run after → Advances l o next
      → TriedSo ls run l next after (tries + 1)
  tried_next y {l} {o} {next} {kept} {after} {tries} h so w j a =
      let k = length ls in
      let shown = subst (λ (m : Lengths). Shows m tries o) so.lengths so.shows in
      let counts = shows_counts k tries o y.proper.some y.four h shown in
      let own = judged_by (layout_at k tries) o.total (shows_total ls tries o y.proper.some y.four h shown) in
      record {
        lengths = so.lengths;
        shows = a tries so.shows;
        covers = w;
        best_kept = j k ∙ ap₂ better so.best_kept (ap (λ (c : List ℕ). if leb run o.total then found (o.total - run) c else none) counts ∙ sym own)
            ∙ sym (one_more k tries);
      }
