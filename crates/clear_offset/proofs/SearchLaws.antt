-- Halving (binary search): the offsets that are left, and that the search from 0 upwards gives the same.
-- Assumes nothing.
use Rattle.std.specs.Prelude.{if◌then◌else◌}
use Prim.Native.Nat.{ℕ, zero, suc, ◌+◌, ◌-◌, ◌/◌, ◌^◌, ◌≤◌, ◌<◌, min}
use native.Mathlib.Omega.{arith}
use native.Mathlib.Nat.{two-pow-succ}
use native.Mathlib.Decide.{dec_le, ℕ_discrete}
use mathlib.Core.Path.{◌≡◌, refl, sym, ap, ◌∙◌}
use mathlib.Core.Logic.{◌↔◌}
use mathlib.Core.Bool.{Bool, true, false}
use lib.Dec.{leb}
use borrow.Author.Tests.{leb-true, le-leb}
use Rattle.base.specs.Least.{Least}
use Rattle.std.proofs.lemmas.Bool.{and_from, and_parts, both_ways}
use Rattle.job.specs.declared.Header.{Header}
use Rattle.job.specs.declared.Hazard.{Hazard}
use Rattle.clear_offset.specs.Offset.{length_at, Allowed, Smallest, offset, none, least_of, is_allowed, hazard_offset}
use Rattle.clear_offset.specs.Steps.{Clear}
use Rattle.clear_offset.proofs.LengthLaws.{length_at_falls, length_at_some}

-- The search from 0 upwards

-- k is one of n numbers from M on, and passes the test.
record Passes (test : ℕ → Bool) (n M k : ℕ) : Type 0 where
  from : M ≤ k
  below : k < M + n
  passed : test k ≡ true

-- What it gives, in the paper's words.
abbrev Says : (P : ℕ → Type 0) → Smallest → Type 0
Says P (offset M) = Least P M
Says P none = (k : ℕ) → P k → ⊥

says_same : {P Q : ℕ → Type 0} → ((k : ℕ) → P k → Q k) → ((k : ℕ) → Q k → P k) → (r : Smallest) → Says P r → Says Q r
says_same f g (offset M) s = record { holds = f M s.holds; least = λ k q. s.least k (g k q) }
says_same f g none s = λ k q. s k (g k q)

says_one : (P : ℕ → Type 0) (r q : Smallest) → Says P r → Says P q → r ≡ q
says_one P (offset M) (offset N) s t = ap offset (let e : M ≡ N = omega (arith, s.least N t.holds, t.least M s.holds) in e)
says_one P (offset M) none s t = absurd (t M s.holds)
says_one P none (offset N) s t = absurd (s N t.holds)
says_one P none none s t = refl

least_says : (test : ℕ → Bool) (n M : ℕ) → Says (Passes test n M) (least_of test n M)
unfolding least_of
least_says test zero M = λ k w. omega (arith, w.from, w.below)
least_says test (suc n) M = go (test M) refl (least_of test n (M + 1)) (least_says test n (M + 1))
  where
    later : {k : ℕ} → test M ≡ false → Passes test (suc n) M k → Passes test n (M + 1) k
    later {k} f w = go (ℕ_discrete k M)
      where
        go : Dec (k ≡ M) → Passes test n (M + 1) k
        go (yes e) = absurd (both_ways _ f (ap test (sym e) ∙ w.passed))
        go (no e) = record { from = omega (arith, w.from); below = omega (arith, w.below); passed = w.passed }

    sooner : {k : ℕ} → Passes test n (M + 1) k → Passes test (suc n) M k
    sooner w = record { from = omega (arith, w.from); below = omega (arith, w.below); passed = w.passed }

    go : (t : Bool) → test M ≡ t → (r : Smallest) → Says (Passes test n (M + 1)) r → Says (Passes test (suc n) M) (if t then offset M else r)
    go true e r s = record { holds = record { from = omega arith; below = omega arith; passed = e }; least = λ k w. w.from }
    go false e r s = rest r s
      where
        rest : (r : Smallest) → Says (Passes test n (M + 1)) r → Says (Passes test (suc n) M) r
        rest (offset x) s = record { holds = sooner s.holds; least = λ k w. s.least k (later e w) }
        rest none s = λ k w. s k (later e w)

module _ (h : Header) (z : Hazard) (longest : ℕ) where
  hazard_says : Says (Allowed h z longest) (hazard_offset h z longest)
  unfolding hazard_offset is_allowed
  hazard_says = says_same to from (least_of (is_allowed h z longest) 20001 0) (least_says (is_allowed h z longest) 20001 0)
    where
      to : (k : ℕ) → Passes (is_allowed h z longest) 20001 0 k → Allowed h z longest k
      to k w =
          record {
            range = omega (arith, w.below);
            clear = leb-true _ _ ((and_parts _ _ w.passed).0);
            no_longer = leb-true _ _ ((and_parts (leb (k + h.deflection) z.near) _ w.passed).1);
          }

      from : (k : ℕ) → Allowed h z longest k → Passes (is_allowed h z longest) 20001 0 k
      from k w = record { from = omega arith; below = omega (arith, w.range); passed = and_from _ _ (le-leb _ _ w.clear) (le-leb _ _ w.no_longer) }

  -- "The smallest M", exactly.
  pub least_exactly : (M : ℕ) → (hazard_offset h z longest ≡ offset M) ↔ Least (Allowed h z longest) M
  least_exactly M = (λ e. rw e at hazard_says, λ l. says_one (Allowed h z longest) (hazard_offset h z longest) (offset M) hazard_says l)

  -- "None, and only then": each M from 0 to 20,000 with n at least M + D is too long.
  pub none_exactly : (hazard_offset h z longest ≡ none) ↔ ((M : ℕ) → M ≤ 20000 → M + h.deflection ≤ z.near → longest < length_at h z M)
  none_exactly = (
    λ e M r f. longer M r f (rw e at hazard_says),
    λ l. says_one (Allowed h z longest) (hazard_offset h z longest) none hazard_says (λ k w. omega (arith, w.no_longer, l k w.range w.clear)),
  )
    where
      longer : (M : ℕ) → M ≤ 20000 → M + h.deflection ≤ z.near → ((k : ℕ) → Allowed h z longest k → ⊥) → longest < length_at h z M
      longer M r f s = go (dec_le (length_at h z M) longest)
        where
          go : Dec (length_at h z M ≤ longest) → longest < length_at h z M
          go (yes l) = absurd (s M (record { range = r; clear = f; no_longer = l }))
          go (no l) = omega arith

-- Every approach is longer than 0.
pub nothing_wanted : (h : Header) (z : Hazard) → Clear h z → hazard_offset h z 0 ≡ none
nothing_wanted h z c = (none_exactly h z 0).1 (λ M r f. length_at_some h z c M f)

-- Halving

abbrev pub middle_of : (low high : ℕ) → ℕ
middle_of low high = low + (high - low) / 2

-- What is known of the numbers before `end`: those below low are too long, those from high on are not. Fewer are left between than `lengths` halvings
-- tell apart.
pub record Searched (h : Header) (z : Hazard) (longest end low high lengths : ℕ) : Type 0 where
  pub order : low ≤ high
  pub top : high ≤ end
  pub longer : (M : ℕ) → M < low → longest < length_at h z M
  pub no_longer : (M : ℕ) → high ≤ M → M < end → length_at h z M ≤ longest
  pub few : high < low + 2 ^ lengths

module _ (h : Header) (z : Hazard) (c : Clear h z) (longest end : ℕ) (is : end ≡ min (z.near - h.deflection) 20000 + 1) where
  -- The offsets before `end` leave the deflection free.
  before_end : (M : ℕ) → M < end → M + h.deflection ≤ z.near
  before_end M l = omega (arith, c.free)

  pub searched_none : Searched h z longest end 0 end 15
  searched_none =
      record {
        order = omega arith;
        top = omega arith;
        longer = λ M l. absurd (omega arith);
        no_longer = λ M l b. absurd (omega arith);
        few = omega arith;
      }

  module _ (low high lengths : ℕ) (w : Searched h z longest end low high lengths) (some : low < high) where
    pub middle_free : middle_of low high + h.deflection ≤ z.near
    middle_free = before_end (middle_of low high) (omega (arith, w.top))

    -- A length may still be worked out, and it leaves less than half.
    pub length_left : 1 ≤ lengths
    length_left = go lengths w.few
      where
        go : (n : ℕ) → high < low + 2 ^ n → 1 ≤ n
        go zero f = absurd (omega arith)
        go (suc n) f = omega arith

    halves : 2 ^ lengths ≡ 2 ^ (lengths - 1) + 2 ^ (lengths - 1)
    halves = let one : lengths ≡ suc (lengths - 1) = omega (arith, length_left) in ap (λ (n : ℕ). 2 ^ n) one ∙ two-pow-succ (lengths - 1)

    pub searched_lower : length_at h z (middle_of low high) ≤ longest → Searched h z longest end low (middle_of low high) (lengths - 1)
    searched_lower l =
        record {
          order = omega arith;
          top = omega (arith, w.top);
          longer = w.longer;
          no_longer = λ M q b. omega (arith, length_at_falls h z c (middle_of low high) M q (before_end M b));
          few = omega (arith, w.few, halves);
        }

    pub searched_upper : longest < length_at h z (middle_of low high) → Searched h z longest end (middle_of low high + 1) high (lengths - 1)
    searched_upper l =
        record {
          order = omega arith;
          top = w.top;
          longer = λ M q. omega (arith, length_at_falls h z c M (middle_of low high) (omega arith) middle_free);
          no_longer = w.no_longer;
          few = omega (arith, w.few, halves);
        }

  -- Where none is left between, the first that is not too long is the smallest, and where that is the end there is none.
  module _ (low high lengths : ℕ) (w : Searched h z longest end low high lengths) (over : high ≤ low) where
    pub searched_smallest : low < end → hazard_offset h z longest ≡ offset low
    searched_smallest l =
        (least_exactly h z longest low).1
        (record {
          holds = record { range = omega arith; clear = before_end low l; no_longer = w.no_longer low over l };
          least = λ k a. not_below k a (dec_le low k);
        })
      where
        not_below : (k : ℕ) → Allowed h z longest k → Dec (low ≤ k) → low ≤ k
        not_below k a (yes q) = q
        not_below k a (no q) = absurd (omega (arith, a.no_longer, w.longer k (omega arith)))

    pub searched_nothing : end ≤ low → hazard_offset h z longest ≡ none
    searched_nothing l = (none_exactly h z longest).1 (λ M r f. w.longer M (omega arith))
