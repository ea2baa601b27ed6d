-- Laws of the runs noted: a run more, the millimetres below a station by halving, and that they grow with it; and of places filled one by one.
-- Assumes nothing.
use Prim.Native.Nat.{ℕ, zero, suc, ◌+◌, ◌-◌, ◌≤◌, ◌<◌, min, max}
use native.Mathlib.Omega.{arith}
use native.Mathlib.Numerals.{add-one}
use native.Mathlib.Decide.{dec_lt, ℕ_discrete}
use mathlib.Core.Path.{◌≡◌, refl, sym, ap, ◌∙◌}
use mathlib.Core.List.{List}
use lib.ListN.{length, get_or, set, replicate, length-set}
use lib.Seq.{get_or-set_same, get_or-set_other}
use borrow.Author.Tests.{eq-eqb, ne_eqb}
use Rattle.runs.specs.declared.Stretch.{Stretch}
use Rattle.runs.specs.RunList.{most_runs}
use Rattle.runs.proofs.IndexLaws.{zeros}
use Rattle.queries.specs.Walk.{overlap, overlap_at}
use Rattle.queries.specs.Sums.{own, below, Noted, Passed, Ascending, Halved}

module _ {starts sums : List ℕ} {n end : ℕ} (w : Noted starts sums n end) where
  pub noted_later : (end' : ℕ) → end ≤ end' → Noted starts sums n end'
  noted_later end' h = record {
    start_places = w.start_places;
    sum_places = w.sum_places;
    few = w.few;
    first = w.first;
    grow = w.grow;
    apart = w.apart;
    ends = λ i k. omega (arith, w.ends i k);
    total = omega (arith, w.total);
  }

  pub noted_ascend : Ascending starts n
  noted_ascend i j h k = go (dec_lt i j)
    where
      go : Dec (i < j) → get_or starts i 0 ≤ get_or starts j 0
      go (yes l) = omega (arith, w.apart i j l k)
      go (no l) = let same : i ≡ j = omega arith in rw same (omega arith)

pub noted_none : Noted (replicate 512 0) (replicate 512 0) 0 0
noted_none = record {
  start_places = refl;
  sum_places = refl;
  few = omega arith;
  first = refl;
  grow = λ i h. absurd (omega arith);
  apart = λ i j h k. absurd (omega arith);
  ends = λ i h. absurd (omega arith);
  total = omega arith;
}

pub below_nothing : (starts sums : List ℕ) (t : ℕ) → below starts sums 0 t ≡ 0
unfolding below
below_nothing starts sums t = refl

-- The first n runs are what they were where the lists are up to there.
below_kept : (starts starts' sums sums' : List ℕ) (n t : ℕ) → ((i : ℕ) → i < n → get_or starts' i 0 ≡ get_or starts i 0)
    → ((i : ℕ) → i ≤ n → get_or sums' i 0 ≡ get_or sums i 0) → below starts' sums' n t ≡ below starts sums n t
unfolding below
below_kept starts starts' sums sums' zero t h k = refl
below_kept starts starts' sums sums' (suc n) t h k =
    rw (below_kept starts starts' sums sums' n t (λ i l. h i (omega arith)) (λ i l. k i (omega arith)))
    (rw (h n (omega arith), k n (omega arith), k (n + 1) (omega arith)))

-- A run more.
below_more : (starts sums : List ℕ) (n t : ℕ) → below starts sums (n + 1) t ≡ below starts sums n t + min (t - get_or starts n 0) (own sums n)
unfolding below
below_more starts sums n t = ap (λ (k : ℕ). below starts sums k t) (add-one n)

-- The millimetres of one run below t.
run_below : (start end t : ℕ) → min (t - start) (end - start) ≡ min t end - max 0 start
run_below start end t = omega arith

-- A run passed

module _ (starts sums : List ℕ) (n : ℕ) (r : Stretch) (v : ℕ) (long : r.start ≤ r.end) (w : Noted starts sums n r.start) where
  pub passed_by : (r.level ≡ v → ⊥) → Passed r v starts sums n starts sums n
  passed_by other = record { noted = noted_later w r.end long; next = omega arith; added = λ t. rw (ne_eqb r.level v other) (omega arith) }

  pub passed_here : r.level ≡ v → n < most_runs → (x : ℕ) → x ≡ get_or sums n 0 + (r.end - r.start)
      → Passed r v starts sums n (set starts n r.start) (set sums (n + 1) x) (n + 1)
  unfolding overlap
  passed_here same room x e = record {
    noted = record {
      start_places = simp length-set w.start_places;
      sum_places = simp length-set w.sum_places;
      few = omega arith;
      first = sum_kept 0 (omega arith) ∙ w.first;
      grow = λ i h. grows i (dec_lt i n) h;
      apart = λ i j h k. aparts i j (dec_lt j n) h k;
      ends = λ i h. ends i (dec_lt i n) h;
      total = omega (arith, sum_here, w.total);
    };
    next = omega arith;
    added = adds;
  }
    where
      start_kept : (i : ℕ) → i < n → get_or (set starts n r.start) i 0 ≡ get_or starts i 0
      start_kept i h = get_or-set_other starts n i r.start 0 (λ q. omega arith)

      sum_kept : (i : ℕ) → i ≤ n → get_or (set sums (n + 1) x) i 0 ≡ get_or sums i 0
      sum_kept i h = get_or-set_other sums (n + 1) i x 0 (λ q. omega arith)

      start_here : get_or (set starts n r.start) n 0 ≡ r.start
      start_here = get_or-set_same starts n r.start 0 (omega (arith, w.start_places))

      sum_here : get_or (set sums (n + 1) x) (n + 1) 0 ≡ x
      sum_here = get_or-set_same sums (n + 1) x 0 (omega (arith, w.sum_places))

      -- Where a run that was noted before ends.
      end_kept : (i : ℕ) → i < n → get_or (set starts n r.start) i 0 + own (set sums (n + 1) x) i ≡ get_or starts i 0 + own sums i
      end_kept i h = rw (start_kept i h, sum_kept i (omega arith), sum_kept (i + 1) (omega arith))

      own_here : own (set sums (n + 1) x) n ≡ r.end - r.start
      own_here = omega (arith, sum_kept n (omega arith), sum_here)

      grows : (i : ℕ) → Dec (i < n) → i < n + 1 → get_or (set sums (n + 1) x) i 0 ≤ get_or (set sums (n + 1) x) (i + 1) 0
      grows i (yes l) h = omega (arith, sum_kept i (omega arith), sum_kept (i + 1) (omega arith), w.grow i l)
      grows i (no l) h = let last : i ≡ n = omega arith in rw last (omega (arith, sum_kept n (omega arith), sum_here))

      ends : (i : ℕ) → Dec (i < n) → i < n + 1 → get_or (set starts n r.start) i 0 + own (set sums (n + 1) x) i ≤ r.end
      ends i (yes l) h = rw (end_kept i l) (omega (arith, w.ends i l))
      ends i (no l) h = let last : i ≡ n = omega arith in rw (last, start_here, own_here) (omega arith)

      aparts : (i j : ℕ) → Dec (j < n) → i < j → j < n + 1
          → get_or (set starts n r.start) i 0 + own (set sums (n + 1) x) i ≤ get_or (set starts n r.start) j 0
      aparts i j (yes l) h k = rw (end_kept i (omega arith), start_kept j l) (w.apart i j h l)
      aparts i j (no l) h k = let last : j ≡ n = omega arith in rw (end_kept i (omega arith), last, start_here) (w.ends i (omega arith))

      adds : (t : ℕ) → below (set starts n r.start) (set sums (n + 1) x) (n + 1) t ≡ below starts sums n t + overlap_at r v 0 t
      adds t =
          below_more _ _ n t ∙ rw (eq-eqb r.level v same, below_kept starts _ sums _ n t start_kept sum_kept, start_here, own_here)
          (ap (λ (y : ℕ). below starts sums n t + y) (run_below r.start r.end t))

-- Below a station

-- Runs that end at t or before it lie below it whole.
below_whole : (starts sums : List ℕ) (n t : ℕ) → get_or sums 0 0 ≡ 0 → ((i : ℕ) → i < n → get_or sums i 0 ≤ get_or sums (i + 1) 0)
    → ((i : ℕ) → i < n → get_or starts i 0 + own sums i ≤ t) → below starts sums n t ≡ get_or sums n 0
unfolding below
below_whole starts sums zero t first grow ends = sym first
below_whole starts sums (suc n) t first grow ends =
    rw (below_whole starts sums n t first (λ i h. grow i (omega arith)) (λ i h. ends i (omega arith)))
    (rw (sym (add-one n)) (omega (arith, grow n (omega arith), ends n (omega arith))))

-- Runs that start at t or behind it have nothing below it.
below_past : (starts sums : List ℕ) (n k t : ℕ) → k ≤ n → ((i : ℕ) → k ≤ i → i < n → t ≤ get_or starts i 0) → below starts sums n t ≡ below starts sums k t
unfolding below
below_past starts sums zero k t h past = let none : k ≡ 0 = omega arith in rw none
below_past starts sums (suc n) k t h past = go (ℕ_discrete k (suc n)) (λ l. below_past starts sums n k t l (λ i m o. past i m (omega arith)))
  where
    go : Dec (k ≡ suc n) → (k ≤ n → below starts sums n t ≡ below starts sums k t)
        → below starts sums n t + min (t - get_or starts n 0) (own sums n) ≡ below starts sums k t
    go (yes e) rest = rw e
    go (no e) rest = omega (arith, rest (omega arith), past n (omega arith) (omega arith))

module _ (starts sums : List ℕ) (n end t : ℕ) (w : Noted starts sums n end) where
  pub below_none : Halved starts n t 0 0 → below starts sums n t ≡ 0
  unfolding below
  below_none h = below_past starts sums n 0 t (omega arith) h.later

  module _ (k : ℕ) (some : 0 < k) (h : Halved starts n t k k) where
    back : k - 1 + 1 ≡ k
    back = omega arith

    pub last_grows : get_or sums (k - 1) 0 ≤ get_or sums k 0
    last_grows = rw back at (w.grow (k - 1) (omega (arith, h.within)))

    pub last_sooner : get_or starts (k - 1) 0 < t
    last_sooner = h.sooner (k - 1) (omega arith)

    -- All of the runs that start before t, but that the last of them may reach beyond it.
    pub below_last : below starts sums n t ≡ get_or sums (k - 1) 0 + min (t - get_or starts (k - 1) 0) (get_or sums k 0 - get_or sums (k - 1) 0)
    below_last =
        below_past starts sums n k t h.within h.later
        ∙ (rw back at (below_more starts sums (k - 1) t))
        ∙ ap (λ (x : ℕ). x + min (t - get_or starts (k - 1) 0) (get_or sums k 0 - get_or sums (k - 1) 0)) (below_whole starts sums (k - 1) t w.first
        (λ j l. w.grow j (omega (arith, h.within))) (λ j l. omega (arith, w.apart j (k - 1) l (omega (arith, h.within)), last_sooner)))

pub below_grows : (starts sums : List ℕ) (n p q : ℕ) → p ≤ q → below starts sums n p ≤ below starts sums n q
unfolding below
below_grows starts sums zero p q h = omega arith
below_grows starts sums (suc n) p q h = omega (arith, below_grows starts sums n p q h)

-- Halving

module _ (starts : List ℕ) (n t : ℕ) (rise : Ascending starts n) where
  pub halved_none : Halved starts n t 0 n
  halved_none = record { ordered = omega arith; within = omega arith; sooner = λ i h. absurd (omega arith); later = λ i h k. absurd (omega arith) }

  module _ (low high middle : ℕ) (h : Halved starts n t low high) (from : low ≤ middle) (to : middle < high) where
    pub halved_sooner : get_or starts middle 0 < t → Halved starts n t (middle + 1) high
    halved_sooner l = record {
      ordered = omega arith;
      within = h.within;
      sooner = λ i k. omega (arith, rise i middle (omega arith) (omega (arith, h.within)));
      later = h.later;
    }

    pub halved_later : t ≤ get_or starts middle 0 → Halved starts n t low middle
    halved_later l = record {
      ordered = omega arith;
      within = omega (arith, h.within);
      sooner = h.sooner;
      later = λ i k m. omega (arith, rise middle i k m);
    }

pub halved_over : {starts : List ℕ} {n t low high : ℕ} → Halved starts n t low high → high ≤ low → Halved starts n t low low
halved_over h over =
    record { ordered = omega arith; within = omega (arith, h.ordered, h.within); sooner = h.sooner; later = λ i k. h.later i (omega arith) }

-- Places

-- Those before i have their shares, and those from there on are 0.
pub record Filled (share : ℕ → ℕ) (i : ℕ) (places : List ℕ) : Type 0 where
  pub done : (k : ℕ) → k < i → get_or places k 0 ≡ share k
  pub left : (k : ℕ) → i ≤ k → get_or places k 0 ≡ 0

pub filled_none : (share : ℕ → ℕ) (n : ℕ) → Filled share 0 (replicate n 0)
filled_none share n = record { done = λ k h. absurd (omega arith); left = λ k h. zeros n k }

pub filled_turn : (share : ℕ → ℕ) (i v : ℕ) (places : List ℕ) → i < length places → v ≡ share i → Filled share i places
    → Filled share (i + 1) (set places i v)
filled_turn share i v places there e p = record {
  done = λ k h. first k h (ℕ_discrete k i);
  left = λ k h. get_or-set_other places i k v 0 (λ q. omega arith) ∙ p.left k (omega arith);
}
  where
    first : (k : ℕ) → k < i + 1 → Dec (k ≡ i) → get_or (set places i v) k 0 ≡ share k
    first k h (yes q) = rw q (get_or-set_same places i v 0 there ∙ e)
    first k h (no q) = get_or-set_other places i k v 0 q ∙ p.done k (omega arith)
