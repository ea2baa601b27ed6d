-- Laws of a number's groups passed one by one, lowest first.
-- Assumes nothing.
use Prim.Native.Nat.{ℕ, zero, suc, ◌+◌, ◌-◌, ◌*◌, ◌^◌, ◌≤◌, ◌<◌}
use native.Mathlib.Nat.{mul-add, mul_assoc, add_assoc, mul-le-mul_left, pow-le-pow_right, pow-suc}
use native.Mathlib.Numerals.{add-one}
use native.Mathlib.Omega.{arith}
use mathlib.Core.Path.{◌≡◌, refl, ap, ap₂, ◌∙◌}
use mathlib.Core.List.{List, ◌∷◌}
use lib.ListN.{length, get_or, drop, drop_of_length-le}
use lib.Seq.{drop-cons}
use borrow.Author.Tests.{le-leb, eq-eqb, ne_eqb}
use Rattle.std.specs.Prelude.{Err}
use Rattle.refusal.specs.declared.Refusal.TheVariants.{Ended, Malformed}
use Rattle.number.specs.Number.{write_in, write_number, greatest_number, Scan, cut, overlong, whole, prefixed, scan, number, read_of, read_number}
use Rattle.number.specs.Groups.{after_groups, read_after_groups}
use Rattle.number.proofs.ScanLaws.{scan_last, scan_more}
use Rattle.number.proofs.WriteLaws.{small_length, length_below, length_above}

pub behind_first : (group : ℕ) (rest : Scan) → prefixed group rest ≡ after_groups group 128 1 rest
behind_first group cut = refl
behind_first group overlong = refl
behind_first group (whole value groups) = ap (whole (group + 128 * value)) (let e : suc groups ≡ 1 + groups = omega arith in e)

pub behind_more : (low weight passed group : ℕ) (rest : Scan)
    → after_groups low weight passed (prefixed group rest) ≡ after_groups (low + weight * group) (weight * 128) (passed + 1) rest
behind_more low weight passed group cut = refl
behind_more low weight passed group overlong = refl
behind_more low weight passed group (whole value groups) = ap₂ whole (simp (mul-add, mul_assoc, add_assoc)) (omega arith)

-- The group at index i.
pub scan_ended : (left i : ℕ) (s : List ℕ) → 0 < left → length s ≤ i → scan left (drop i s) ≡ cut
unfolding scan
scan_ended zero i s some h = absurd (omega arith)
scan_ended (suc k) i s some h = rw (drop_of_length-le s h)

module _ (left i : ℕ) (s : List ℕ) (some : 0 < left) (there : i < length s) where
  pub scan_last_at : get_or s i 0 < 128 → scan left (drop i s) ≡ whole (get_or s i 0) 1
  scan_last_at h = rw (drop-cons s i 0 there) (at_left left some)
    where
      at_left : (k : ℕ) → 0 < k → scan k (get_or s i 0 ∷ drop (suc i) s) ≡ whole (get_or s i 0) 1
      at_left zero p = absurd (omega arith)
      at_left (suc k) p = scan_last k (get_or s i 0) (drop (suc i) s) h

  pub scan_more_at : 128 ≤ get_or s i 0 → scan left (drop i s) ≡ prefixed (get_or s i 0 - 128) (scan (left - 1) (drop (i + 1) s))
  scan_more_at h = rw (drop-cons s i 0 there, add-one i) (at_left left some)
    where
      at_left : (k : ℕ) → 0 < k → scan k (get_or s i 0 ∷ drop (suc i) s) ≡ prefixed (get_or s i 0 - 128) (scan (k - 1) (drop (suc i) s))
      at_left zero p = absurd (omega arith)
      at_left (suc k) p = let one : suc k - 1 ≡ k = omega arith in rw one (scan_more k (get_or s i 0) (drop (suc i) s) h)

-- The last group, behind others: needless, or all is well.
module _ (at low weight passed : ℕ) (some : 0 < passed) (most : passed < 6) (counts : weight ≡ 128 ^ passed) (under : low < weight) where
  -- Where it is 0, fewer groups were enough.
  pub last_needless : read_of at (after_groups low weight passed (whole 0 1)) ≡ Err (Malformed at)
  unfolding write_number
  last_needless =
      let one : suc (passed - 1) ≡ passed = omega arith in
      let short = length_below 6 (passed - 1) (low + weight * 0) (rw one (omega arith)) in
      let great = pow-le-pow_right {n = 128} (omega arith) {i = passed} {j = 5} (omega arith) in
      simp (le-leb (low + weight * 0) greatest_number (omega arith), ne_eqb (passed + 1) (length (write_in 6 (low + weight * 0))) (λ e. omega arith))

  pub last_whole : (b : ℕ) → 0 < b → b < 128 → low + weight * b ≤ greatest_number
      → read_of at (after_groups low weight passed (whole b 1)) ≡ number (low + weight * b) (at + (passed + 1))
  unfolding write_number
  last_whole b pos h fits =
      let least = mul-le-mul_left {m = 1} {n = b} weight pos in
      let under_next = mul-le-mul_left {m = b} {n = 127} weight (omega arith) in
      let below = length_below 6 passed (low + weight * b) (omega (arith, pow-suc 128 passed)) in
      let above = length_above 6 passed (low + weight * b) (omega arith) (omega arith) in
      simp (le-leb (low + weight * b) greatest_number fits, eq-eqb (passed + 1) (length (write_in 6 (low + weight * b))) (omega arith))

-- A number read group by group

pub read_none : (s : List ℕ) (at : ℕ) → length s ≤ at → read_number s at ≡ Err (Ended at)
unfolding read_number
read_none s at h = rw (scan_ended 6 at s (omega arith) h)

-- The first group is the last.
pub read_one : (s : List ℕ) (at : ℕ) → at < length s → get_or s at 0 < 128 → read_number s at ≡ number (get_or s at 0) (at + 1)
unfolding read_number
read_one s at there h = rw (scan_last_at 6 at s (omega arith) there h, le-leb (get_or s at 0) greatest_number (omega arith), small_length (get_or s at 0) h)

-- The first group has others behind it.
pub read_first : (s : List ℕ) (at : ℕ) → at < length s → 128 ≤ get_or s at 0 → read_number s at ≡ read_after_groups (get_or s at 0 - 128) 128 1 s at
unfolding read_number read_after_groups
read_first s at there h = ap (read_of at) (scan_more_at 6 at s (omega arith) there h ∙ behind_first (get_or s at 0 - 128) (scan 5 (drop (at + 1) s)))

-- Behind six groups nothing is a number.
pub read_overlong : (low weight : ℕ) (s : List ℕ) (at : ℕ) → read_after_groups low weight 6 s at ≡ Err (Malformed at)
unfolding read_after_groups scan
read_overlong low weight s at = refl

module _ (low weight passed : ℕ) (s : List ℕ) (at : ℕ) (most : passed < 6) where
  pub read_cut_short : length s ≤ at + passed → read_after_groups low weight passed s at ≡ Err (Ended at)
  unfolding read_after_groups
  read_cut_short h = rw (scan_ended (6 - passed) (at + passed) s (omega arith) h)

  module _ (there : at + passed < length s) where
    pub read_more : 128 ≤ get_or s (at + passed) 0
        → read_after_groups low weight passed s at ≡ read_after_groups (low + weight * (get_or s (at + passed) 0 - 128)) (weight * 128) (passed + 1) s at
    unfolding read_after_groups
    read_more h =
        let left : 6 - passed - 1 ≡ 6 - (passed + 1) = omega arith in
        let next : at + passed + 1 ≡ at + (passed + 1) = omega arith in
        ap (λ (r : Scan). read_of at (after_groups low weight passed r)) (scan_more_at (6 - passed) (at + passed) s (omega arith) there h)
        ∙ ap (read_of at) (behind_more low weight passed (get_or s (at + passed) 0 - 128) (scan (6 - passed - 1) (drop (at + passed + 1) s)))
        ∙ rw (left, next)

    read_last : get_or s (at + passed) 0 < 128
        → read_after_groups low weight passed s at ≡ read_of at (after_groups low weight passed (whole (get_or s (at + passed) 0) 1))
    unfolding read_after_groups
    read_last h = ap (λ (r : Scan). read_of at (after_groups low weight passed r)) (scan_last_at (6 - passed) (at + passed) s (omega arith) there h)

    module _ (some : 0 < passed) (counts : weight ≡ 128 ^ passed) (under : low < weight) where
      pub read_needless : get_or s (at + passed) 0 ≡ 0 → read_after_groups low weight passed s at ≡ Err (Malformed at)
      read_needless none = read_last (omega arith) ∙ rw none (last_needless at low weight passed some most counts under)

      pub read_whole : 0 < get_or s (at + passed) 0 → get_or s (at + passed) 0 < 128 → low + weight * get_or s (at + passed) 0 ≤ greatest_number
          → read_after_groups low weight passed s at ≡ number (low + weight * get_or s (at + passed) 0) (at + (passed + 1))
      read_whole pos h fits = read_last h ∙ last_whole at low weight passed some most counts under (get_or s (at + passed) 0) pos h fits

-- A group less its top bit.
pub group_less : (low weight b : ℕ) → 128 ≤ b → low + weight * b - weight * 128 ≡ low + weight * (b - 128)
group_less low weight b h =
    let parts : b ≡ (b - 128) + 128 = omega arith in
    let split : weight * b ≡ weight * (b - 128) + weight * 128 = ap (λ (m : ℕ). weight * m) parts ∙ mul-add weight (b - 128) 128 in
    omega arith

-- No group counts for more than the sixth.
pub most_weight : (weight passed : ℕ) → passed < 6 → weight ≡ 128 ^ passed → weight ≤ 34359738368
most_weight weight passed most counts = rw counts (pow-le-pow_right {n = 128} (omega arith) {i = passed} {j = 5} (omega arith))
