-- Break points and runs in arrays: one more, one less, what a store leaves alone.
-- Assumes nothing.
use Rattle.std.proofs.Common.{replicate, ◌≡◌, ℕ, zero, suc, ◌+◌, ◌-◌, ◌<◌, ◌≤◌, Bool, true, false, ltb, ◌≢◌, List, [], ◌∷◌, ◌++◌, length, get_or, take, set, sym, refl, ap, ◌∙◌, add-zero, add-one, arith, length-take-le, get_or-set_other, get_or-set_same, take-suc-set, set-set, le-ltb, eq-eqb, ne_eqb, le-leb, if◌then◌else◌}
use lib.ListN.{get_or-append}
use lib.Seq.{take-set-le}
use borrow.Author.Tests.{lt-leb}
use Rattle.base.specs.Stored.{padded}
use Rattle.base.proofs.StoredLaws.{padded_more, padded_clear}
use Rattle.runs.specs.declared.Stretch.{Stretch}
use Rattle.runs.specs.declared.RunList.{RunList}
use Rattle.runs.specs.Stored.{stored_runs}
use Rattle.std.specs.Int.{from_bool}
use Rattle.runs.specs.Breaks.{Break, level_of, breaks_to, breaks_before, set_from, runs_below}
use Rattle.runs.proofs.TopLaws.{bit_small}
use Rattle.runs.proofs.StoredLaws.{with_next, cleared, stored_more, stored_same}

module _ (starts levels : List ℕ) where
  breaks_last : (k : ℕ) → 0 < k → breaks_to starts levels k ≡ record { start = get_or starts (k - 1) 0; level = get_or levels (k - 1) 0 }
      ∷ breaks_to starts levels (k - 1)
  unfolding breaks_to
  breaks_last k h =
      let e : k ≡ suc (k - 1) = omega arith in
      ap (breaks_to starts levels) e

  pub breaks_length : (k : ℕ) → length (breaks_to starts levels k) ≡ k
  unfolding breaks_to
  breaks_length zero = refl
  breaks_length (suc k) = ap suc (breaks_length k)

  -- What stands behind the starts of break points is none of theirs.
  pub breaks_front : (more : List ℕ) (k : ℕ) → k ≤ length starts → breaks_to (starts ++ more) levels k ≡ breaks_to starts levels k
  unfolding breaks_to
  breaks_front more zero h = refl
  breaks_front more (suc k) h =
      rw (get_or-append starts more 0 k (omega arith))
      (ap (λ (r : List Break). record { start = get_or starts k 0; level = get_or levels k 0 } ∷ r) (breaks_front more k (omega arith)))

  -- A last break point of level 0 begins no run.
  pub below_last : (e k : ℕ) → level_of (breaks_to starts levels k) ≡ 0
      → runs_below e (breaks_to starts levels k) ≡ runs_below (get_or starts (k - 1) 0) (breaks_to starts levels (k - 1))
  unfolding breaks_to runs_below
  below_last e zero z = refl
  below_last e (suc k) z =
      let q : suc k - 1 ≡ k = omega arith in
      rw (q, le-ltb 0 (get_or levels k 0) (omega arith)) refl

  -- A break point at or after t is cut off; one before t ends the cutting.
  pub cut_more : (t k : ℕ) → 0 < k → t ≤ get_or starts (k - 1) 0 → breaks_before t (breaks_to starts levels k) ≡ breaks_before t (breaks_to starts levels (k - 1))
  unfolding breaks_before
  cut_more t k h l = ap (breaks_before t) (breaks_last k h) ∙ rw (le-leb _ _ l)

  pub cut_done : (t k : ℕ) → 0 < k → get_or starts (k - 1) 0 < t → breaks_before t (breaks_to starts levels k) ≡ breaks_to starts levels k
  unfolding breaks_before
  cut_done t k h l = ap (breaks_before t) (breaks_last k h) ∙ (rw (lt-leb _ _ l)) ∙ sym (breaks_last k h)

  pub cut_none : (t k : ℕ) → k ≤ 0 → breaks_before t (breaks_to starts levels k) ≡ breaks_to starts levels k
  unfolding breaks_to breaks_before
  cut_none t k h = let e : k ≡ 0 = omega arith in rw e

  pub level_first : (k : ℕ) → k ≡ 0 → level_of (breaks_to starts levels k) ≡ 0
  unfolding breaks_to
  level_first k e = rw e

  pub level_last_of : (k : ℕ) → 0 < k → level_of (breaks_to starts levels k) ≡ get_or levels (k - 1) 0
  level_last_of k h = ap level_of (breaks_last k h)

  -- Stores from k on leave the first k entries alone.
  breaks_set : (k t v n : ℕ) → n ≤ k → breaks_to (set starts k t) (set levels k v) n ≡ breaks_to starts levels n
  unfolding breaks_to
  breaks_set k t v zero h = refl
  breaks_set k t v (suc n) h =
      let ne : n ≢ k = λ e. omega arith in
      rw (get_or-set_other starts k n t 0 ne, get_or-set_other levels k n v 0 ne)
      (ap (λ (r : List Break). record { start = get_or starts n 0; level = get_or levels n 0 } ∷ r) (breaks_set k t v n (omega arith)))

  pub breaks_push : (k t v : ℕ) → k < length starts → k < length levels
      → breaks_to (set starts k t) (set levels k v) (k + 1) ≡ record { start = t; level = v } ∷ breaks_to starts levels k
  unfolding breaks_to
  breaks_push k t v h l =
      rw (add-one k, get_or-set_same starts k t 0 h, get_or-set_same levels k v 0 l)
      (ap (λ (r : List Break). record { start = t; level = v } ∷ r) (breaks_set k t v k (omega arith)))

  -- The level from t on is v already; or it is set.
  pub set_same : (t v k count : ℕ) → breaks_to starts levels k ≡ breaks_before t (breaks_to starts levels count) → level_of (breaks_to starts levels k) ≡ v
      → breaks_to starts levels k ≡ set_from t v (breaks_to starts levels count)
  unfolding set_from
  set_same t v k count e l = rw (← e, eq-eqb _ _ l)

  pub set_push : (t v k count : ℕ) → breaks_to starts levels k ≡ breaks_before t (breaks_to starts levels count) → level_of (breaks_to starts levels k) ≢ v
      → k < length starts → k < length levels
      → breaks_to (set starts k t) (set levels k v) (k + 1) ≡ set_from t v (breaks_to starts levels count)
  unfolding set_from
  set_push t v k count e n h l = rw (← e, ne_eqb _ _ n) (breaks_push k t v h l)

-- The runs stored while they are made from break points in arrays.
module _ (starts levels : List ℕ) where
  -- One break point more, and its run where its level is not 0.
  pub runs_turn : (l : RunList) (i e d : ℕ) → cleared l ≡ stored_runs (runs_below (get_or starts i 0) (breaks_to starts levels i)) → l.count < 512
      → d ≡ from_bool (ltb 0 (get_or levels i 0))
      → cleared (with_next l (record { start = get_or starts i 0; end = e; level = get_or levels i 0 }) (l.count + d))
      ≡ stored_runs (runs_below e (breaks_to starts levels (i + 1)))
  unfolding breaks_to runs_below
  runs_turn l i e d h room q = rw (add-one i, q) (go (ltb 0 (get_or levels i 0)))
    where
      go : (f : Bool) → cleared (with_next l (record { start = get_or starts i 0; end = e; level = get_or levels i 0 }) (l.count + from_bool f))
          ≡ stored_runs (if f then runs_below (get_or starts i 0) (breaks_to starts levels i) ++ record { start = get_or starts i 0; end = e; level = get_or levels i 0 }
          ∷ [] else runs_below (get_or starts i 0) (breaks_to starts levels i))
      go true = stored_more l (runs_below (get_or starts i 0) (breaks_to starts levels i)) _ h room
      go false = rw (add-zero l.count) (stored_same l (runs_below (get_or starts i 0) (breaks_to starts levels i)) _ h)

-- Runs stored in place of the break points that they are made from.

-- A list whose first k places store runs, with zeros for what its starts have behind them.
abbrev pub front : RunList → (k : ℕ) → RunList
front l k = record { count = k; starts = padded 512 0 (take k l.starts); ends = l.ends; levels = l.levels }

-- A stretch stored at place k.
abbrev pub put_at : RunList → (k : ℕ) → Stretch → RunList
put_at l k r =
    record { count = l.count; starts = set l.starts k r.start; ends = set l.ends k r.end; levels = set l.levels k r.level }

module _ (starts : List ℕ) (places : length starts ≡ 512) (k : ℕ) (room : k < 512) where
  taken_length : length (take k starts) ≡ k
  taken_length = length-take-le k starts (omega arith)

  front_clear : set (padded 512 0 (take k starts)) k 0 ≡ padded 512 0 (take k starts)
  front_clear = ap (λ (n : ℕ). set (padded 512 0 (take k starts)) n 0) (sym taken_length) ∙ padded_clear 512 0 (take k starts)

  -- A start more, counted or not.
  front_next : (a : ℕ) (f : Bool)
      → set (padded 512 0 (take (k + from_bool f) (set starts k a))) (k + from_bool f) 0 ≡ set (set (padded 512 0 (take k starts)) k a) (k + from_bool f) 0
  front_next a true =
      let more = ap (λ (n : ℕ). set (padded 512 0 (take k starts)) n a) (sym taken_length)
      ∙ padded_more 512 0 (take k starts) a (omega (arith, taken_length)) in
      rw (add-one k, take-suc-set starts k a (omega arith), sym (add-one k)) (ap (λ (x : List ℕ). set x (k + 1) 0) (sym more))
  front_next a false =
      rw (add-zero k, take-set-le k starts k a (omega arith)) (sym (set-set (padded 512 0 (take k starts)) k a 0))

-- The runs of the first i break points, in the first k places; the others still have the break points behind the i-th, whose start is `start`.
pub record InPlace (starts levels : List ℕ) (l : RunList) (k i start : ℕ) : Type 0 where
  pub within : k ≤ i
  pub own : start ≡ get_or starts i 0
  pub ahead : (j : ℕ) → i < j → get_or l.starts j 0 ≡ get_or starts j 0
  pub stored : cleared (front l k) ≡ stored_runs (runs_below (get_or starts i 0) (breaks_to starts levels i))

-- None, in a list of zeros but for its starts.
pub in_place_none : (starts levels : List ℕ) (l : RunList) → l.ends ≡ replicate 512 0 → l.levels ≡ replicate 512 0
    → cleared (front l 0) ≡ stored_runs (runs_below (get_or starts 0 0) (breaks_to starts levels 0))
unfolding runs_below breaks_to
in_place_none starts levels l ends lows = rw (ends, lows) refl

module _ (starts levels : List ℕ) (l : RunList) (places : length l.starts ≡ 512) (k i start : ℕ) (h : InPlace starts levels l k i start) where
  -- One break point more.
  pub in_place_turn : (next d : ℕ) → k < 512 → next ≡ get_or l.starts (i + 1) 0 → d ≡ from_bool (ltb 0 (get_or levels i 0))
      → InPlace starts levels (put_at l k (record { start = start; end = next; level = get_or levels i 0 })) (k + d) (i + 1) next
  in_place_turn next d room e q =
      let f = ltb 0 (get_or levels i 0) in
      let new : next ≡ get_or starts (i + 1) 0 = e ∙ h.ahead (i + 1) (omega arith) in
      record {
        within = omega (arith, h.within, q, bit_small f);
        own = new;
        ahead = λ j b. get_or-set_other l.starts k j start 0 (λ x. omega (arith, h.within)) ∙ h.ahead j (omega arith);
        stored =
            rw q (ap (λ (x : List ℕ). record {
              count = k + from_bool f;
              starts = x;
              ends = set (set l.ends k next) (k + from_bool f) 0;
              levels = set (set l.levels k (get_or levels i 0)) (k + from_bool f) 0;
            }) (front_next l.starts places k room start f)
            ∙ rw (h.own, sym new) (runs_turn starts levels (front l k) i next (from_bool f) h.stored room refl));
      }

  -- All of them.
  pub in_place_all : k < 512
      → record { count = k; starts = padded 512 0 (take k l.starts); ends = set l.ends k 0; levels = set l.levels k 0 }
      ≡ stored_runs (runs_below (get_or starts i 0) (breaks_to starts levels i))
  in_place_all room =
      ap (λ (x : List ℕ). record { count = k; starts = x; ends = set l.ends k 0; levels = set l.levels k 0 }) (sym (front_clear l.starts places k room))
      ∙ h.stored
