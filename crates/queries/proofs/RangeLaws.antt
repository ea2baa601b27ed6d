-- Laws of ranges given as numbers p, q, p, q, ..: one after the other, and by index; and of the 64 places of a reply.
-- Assumes nothing.
use Prim.Native.Nat.{ℕ, zero, suc, ◌+◌, ◌-◌, ◌*◌, ◌/◌, ◌%◌, ◌≤◌, ◌<◌}
use native.Mathlib.Omega.{arith}
use native.Mathlib.Numerals.{add-one}
use mathlib.Core.Path.{◌≡◌, refl, sym, subst, ap, ◌∙◌}
use mathlib.Core.Logic.{◌↔◌}
use mathlib.Core.Bool.{true, false, false≢true}
use mathlib.Core.List.{List, [], ◌∷◌}
use lib.ListN.{length, get_or, drop, replicate, length-append, length-replicate, drop_of_length-le, get_or-append}
use lib.Seq.{drop-cons, get_or-append-add}
use lib.Dec.{leb, eqb}
use native.Mathlib.Decide.{ℕ_discrete}
use borrow.Author.Tests.{le-leb, lt-leb, leb-true, eq-eqb, ne_eqb}
use Rattle.std.proofs.lemmas.Bool.{and_from, and_parts}
use Rattle.runs.proofs.IndexLaws.{zeros}
use Rattle.queries.specs.Ranges.{Range, ranges_of, are_ranges, most_ranges, quantity_places, range_at, WholeRanges}

-- One after the other

module _ (l : List ℕ) (i : ℕ) where
  two : i + 1 < length l → drop i l ≡ get_or l i 0 ∷ get_or l (i + 1) 0 ∷ drop (i + 2) l
  two h =
      let next : i + 2 ≡ suc (i + 1) = omega arith in
      drop-cons l i 0 (omega arith) ∙ ap (λ (r : List ℕ). get_or l i 0 ∷ r) (ap (λ (k : ℕ). drop k l) (sym (add-one i)) ∙ drop-cons l (i + 1) 0 h ∙ rw next)

  ranges_end : length l ≤ i → are_ranges (drop i l) ≡ true
  unfolding are_ranges
  ranges_end h = rw (drop_of_length-le l h)

  ranges_odd : length l ≡ i + 1 → are_ranges (drop i l) ≡ false
  unfolding are_ranges
  ranges_odd h = rw (drop-cons l i 0 (omega arith), drop_of_length-le l {i = suc i} (omega arith))

  pub ranges_more : i + 1 < length l → get_or l i 0 ≤ get_or l (i + 1) 0 → are_ranges (drop i l) ≡ are_ranges (drop (i + 2) l)
  unfolding are_ranges
  ranges_more h p = rw (two h, le-leb (get_or l i 0) (get_or l (i + 1) 0) p)

  pub ranges_none : i + 1 < length l → get_or l (i + 1) 0 < get_or l i 0 → are_ranges (drop i l) ≡ false
  unfolding are_ranges
  ranges_none h p = rw (two h, lt-leb (get_or l i 0) (get_or l (i + 1) 0) p)

-- After the last whole range, one number is left or none.
pub ranges_over : (l : List ℕ) (i : ℕ) → i ≡ length l / 2 → eqb (length l % 2) 0 ≡ are_ranges (drop (2 * i) l)
ranges_over l i e = go (ℕ_discrete (length l % 2) 0)
  where
    go : Dec (length l % 2 ≡ 0) → eqb (length l % 2) 0 ≡ are_ranges (drop (2 * i) l)
    go (yes q) = rw (eq-eqb (length l % 2) 0 q) (sym (ranges_end l (2 * i) (omega arith)))
    go (no q) = rw (ne_eqb (length l % 2) 0 q) (sym (ranges_odd l (2 * i) (omega arith)))

-- By index

pub ranges_count : (l : List ℕ) → length (ranges_of l) ≡ length l / 2
unfolding ranges_of
ranges_count [] = refl
ranges_count (p ∷ []) = refl
ranges_count (p ∷ q ∷ l) = omega (arith, ranges_count l)

shifted : (p q : ℕ) (l : List ℕ) (i : ℕ) → range_at (p ∷ q ∷ l) (suc i) ≡ range_at l i
shifted p q l i =
    let even : 2 * suc i ≡ suc (suc (2 * i)) = omega arith in
    let odd : suc (suc (2 * i)) + 1 ≡ suc (suc (2 * i + 1)) = omega arith in
    rw (even, odd)

pub ranges_at : (l : List ℕ) (i : ℕ) → i < length (ranges_of l) → (d : Range) → get_or (ranges_of l) i d ≡ range_at l i
unfolding ranges_of
ranges_at [] i h d = absurd (omega arith)
ranges_at (p ∷ []) i h d = absurd (omega arith)
ranges_at (p ∷ q ∷ l) zero h d = refl
ranges_at (p ∷ q ∷ l) (suc i) h d = ranges_at l i (omega arith) d ∙ sym (shifted p q l i)

-- The test in the paper's words.

are_whole : (l : List ℕ) → are_ranges l ≡ true → WholeRanges l
unfolding are_ranges ranges_of
are_whole [] e = record { pairs = refl; ordered = λ i h. absurd (omega arith) }
are_whole (p ∷ []) e = absurd (false≢true e)
are_whole (p ∷ q ∷ l) e =
    let rest = are_whole l ((and_parts (leb p q) (are_ranges l) e).1) in
    let first = leb-true p q ((and_parts (leb p q) (are_ranges l) e).0) in
    record { pairs = omega (arith, rest.pairs); ordered = λ i h. at i h first rest }
  where
    at : (i : ℕ) → i < suc (length (ranges_of l)) → p ≤ q → WholeRanges l → (range_at (p ∷ q ∷ l) i).p ≤ (range_at (p ∷ q ∷ l) i).q
    at zero h first rest = first
    at (suc i) h first rest = subst (λ (z : Range). z.p ≤ z.q) (sym (shifted p q l i)) (rest.ordered i (omega arith))

whole_are : (l : List ℕ) → WholeRanges l → are_ranges l ≡ true
unfolding are_ranges ranges_of
whole_are [] a = refl
whole_are (p ∷ []) a = absurd (omega (arith, a.pairs))
whole_are (p ∷ q ∷ l) a =
    and_from _ _ (le-leb p q (a.ordered 0 (omega arith)))
    (whole_are l (record {
      pairs = omega (arith, a.pairs);
      ordered = λ i h. subst (λ (z : Range). z.p ≤ z.q) (shifted p q l i) (a.ordered (suc i) (omega arith));
    }))

pub whole_ranges : (l : List ℕ) → (are_ranges l ≡ true) ↔ WholeRanges l
whole_ranges l = (are_whole l, whole_are l)

-- Places: the quantities, and zeros behind them.
module _ (l : List ℕ) where
  pub places_count : length l ≤ most_ranges → length (quantity_places l) ≡ most_ranges
  places_count few =
      length-append l (replicate (most_ranges - length l) 0) ∙ ap (λ (k : ℕ). length l + k) (length-replicate (most_ranges - length l) 0) ∙ omega arith

  pub places_in : (i : ℕ) → i < length l → get_or (quantity_places l) i 0 ≡ get_or l i 0
  places_in i h = get_or-append l (replicate (most_ranges - length l) 0) 0 i h

  pub places_behind : (i : ℕ) → length l ≤ i → get_or (quantity_places l) i 0 ≡ 0
  places_behind i h =
      let back : i ≡ length l + (i - length l) = omega arith in
      ap (λ (k : ℕ). get_or (quantity_places l) k 0) back ∙ get_or-append-add l (replicate (most_ranges - length l) 0) (i - length l) 0
      ∙ zeros (most_ranges - length l) (i - length l)
