-- Exactly which bytes are ended inside a number, and which are malformed; 64 bits hold every value that is read.
-- Assumes nothing.
use Rattle.std.specs.Prelude.{if◌then◌else◌, Result, Err}
use Prim.Native.Nat.{ℕ, zero, suc, ◌+◌, ◌-◌, ◌≤◌, ◌<◌}
use native.Mathlib.Omega.{arith}
use native.Mathlib.Decide.{dec_lt, dec_le}
use mathlib.Core.Path.{◌≡◌, refl, sym, ap, ◌∙◌}
use mathlib.Core.Logic.{◌↔◌, ◌⊎◌, inl, inr}
use mathlib.Core.Bool.{Bool, true, false, ◌&&◌}
use mathlib.Core.List.Memᴰ
use mathlib.Core.List.{List, [], ◌∷◌, ◌++◌}
use lib.ListN.{length, drop}
use lib.Dec.{leb, eqb}
use borrow.Author.Tests.{lt-leb, le-leb, eqb-false, ne_eqb}
use Rattle.base.proofs.ListLaws.{cons_each}
use Rattle.refusal.specs.declared.Refusal.{Refusal}
use Rattle.refusal.specs.declared.Refusal.TheVariants.{Ended, Malformed}
use Rattle.number.specs.declared.Reading.{Reading}
use Rattle.number.specs.Number.{write_number, most_groups, greatest_number, group_count, Scan, cut, overlong, whole, prefixed, scan, number, read_of, read_number}
use Rattle.number.specs.Form.{TopBits, EndsInside, IllFormed, sixth, long, Bytes}
use Rattle.number.proofs.ScanLaws.{scan_last, scan_more, scan_most}
use Rattle.number.proofs.WriteLaws.{group_count_lem}
use Rattle.number.proofs.ReadLaws.{read_bounds}
use Rattle.number.proofs.ByteLaws.{drop_bytes}

-- Scans

scan_cut : (k : ℕ) (s : List ℕ) → length s < k → TopBits s → scan k s ≡ cut
unfolding scan
scan_cut zero s few t = absurd (omega arith)
scan_cut (suc k) [] few t = refl
scan_cut (suc k) (x ∷ xs) few t =
    scan_more k x xs (t x (Memᴰ.head refl)) ∙ ap (prefixed (x - 128)) (scan_cut k xs (omega arith) (λ y m. t y (Memᴰ.tail m)))

scan_overlong : (head rest : List ℕ) → TopBits head → scan (length head) (head ++ rest) ≡ overlong
unfolding scan
scan_overlong [] rest t = refl
scan_overlong (x ∷ xs) rest t =
    scan_more (length xs) x (xs ++ rest) (t x (Memᴰ.head refl)) ∙ ap (prefixed (x - 128)) (scan_overlong xs rest (λ y m. t y (Memᴰ.tail m)))

-- What a scan that does not end says of the bytes.
abbrev Scanned : (k : ℕ) → List ℕ → Scan → Type 0
Scanned k s cut = (length s < k) × TopBits s
Scanned k s overlong = (head : List ℕ) × (rest : List ℕ) × (s ≡ head ++ rest) × (length head ≡ k) × TopBits head
Scanned k s (whole value groups) = Unit {0}

scanned : (k : ℕ) (s : List ℕ) → Scanned k s (scan k s)
unfolding scan
scanned zero s = ([], s, refl, refl, λ x m. absurd (Memᴰ.not-nil m))
scanned (suc k) [] = (omega arith, λ x m. absurd (Memᴰ.not-nil m))
scanned (suc k) (x ∷ xs) = go (dec_lt x 128) (scan k xs) refl (scanned k xs)
  where
    go : Dec (x < 128) → (c : Scan) → scan k xs ≡ c → Scanned k xs c → Scanned (suc k) (x ∷ xs) (scan (suc k) (x ∷ xs))
    go (yes l) c e r = rw (scan_last k x xs l) tt
    go (no l) cut e r = rw (scan_more k x xs (omega arith), e) (omega (arith, r.0), cons_each (λ y. 128 ≤ y) (omega arith) r.1)
    go (no l) overlong e r = rw (scan_more k x xs (omega arith), e)
        (x ∷ r.0, r.1, ap (λ (l : List ℕ). x ∷ l) r.2, ap suc r.3, cons_each (λ y. 128 ≤ y) (omega arith) r.4)
    go (no l) (whole value groups) e r = rw (scan_more k x xs (omega arith), e) tt

-- Numbers

-- A number whose groups end is malformed by its value or by its groups.
unfit : (value groups : ℕ)
    → ((leb value greatest_number && eqb groups (length (write_number value))) ≡ false) ↔ ((greatest_number < value) ⊎ (groups ≡ group_count value → ⊥))
unfit value groups = (to (dec_le value greatest_number), back (dec_le value greatest_number))
  where
    to : Dec (value ≤ greatest_number) → (leb value greatest_number && eqb groups (length (write_number value))) ≡ false
        → (greatest_number < value) ⊎ (groups ≡ group_count value → ⊥)
    to (yes l) e = inr (λ q. eqb-false _ _ (rw (le-leb value greatest_number l) at e) (q ∙ sym (group_count_lem value l)))
    to (no l) e = inl (omega arith)

    back : Dec (value ≤ greatest_number) → (greatest_number < value) ⊎ (groups ≡ group_count value → ⊥)
        → (leb value greatest_number && eqb groups (length (write_number value))) ≡ false
    back (yes l) (inl h) = absurd (omega arith)
    back (yes l) (inr h) = rw (le-leb value greatest_number l, ne_eqb groups (length (write_number value)) (λ q. h (q ∙ group_count_lem value l)))
    back (no l) h = rw (lt-leb value greatest_number (omega arith))

-- What is wrong with the bytes of a number that was not read.
abbrev Formed : (at : ℕ) → Result Reading Refusal → List ℕ → Type 0
Formed at c s = (c ≡ Err (Ended at) → EndsInside s) × (c ≡ Err (Malformed at) → Bytes s → IllFormed s)

formed : (at : ℕ) (s : List ℕ) → Formed at (read_of at (scan most_groups s)) s
formed at s = go (scan most_groups s) refl (scanned most_groups s)
  where
    -- "No longer at the value": no six bytes make one that is too great.
    why : (value groups : ℕ) → scan most_groups s ≡ whole value groups → (greatest_number < value) ⊎ (groups ≡ group_count value → ⊥) → Bytes s → IllFormed s
    why value groups p (inl h) b = absurd (omega (arith, scan_most most_groups s value groups b p))
    why value groups p (inr h) b = long value groups p h

    judge : (value groups : ℕ) → scan most_groups s ≡ whole value groups → (t : Bool) → (leb value greatest_number && eqb groups (length (write_number value))) ≡ t
        → Formed at (if t then number value (at + groups) else Err (Malformed at)) s
    judge value groups p true h = (λ e. cc, λ e. cc)
    judge value groups p false h = (λ e. cc, λ e. why value groups p ((unfit value groups).0 h))

    go : (c : Scan) → scan most_groups s ≡ c → Scanned most_groups s c → Formed at (read_of at c) s
    go cut p t = (λ e. record { few = t.0; unended = t.1 }, λ e. cc)
    go overlong p t = (λ e. cc, λ e b. sixth t.0 t.1 t.2 t.3 t.4)
    go (whole value groups) p t = judge value groups p (leb value greatest_number && eqb groups (length (write_number value))) refl

module _ (s : List ℕ) (at : ℕ) where
  -- 1: "job bytes end before or inside a number", and no other.
  pub read_ended : (read_number s at ≡ Err (Ended at)) ↔ EndsInside (drop at s)
  unfolding read_number
  read_ended = (λ e. (formed at (drop at s)).0 e, λ i. rw (scan_cut most_groups (drop at s) i.few i.unended))

  pub ill_formed : IllFormed (drop at s) → read_number s at ≡ Err (Malformed at)
  unfolding read_number
  ill_formed (sixth six rest e size t) = rw (e, sym size, scan_overlong six rest t)
  ill_formed (long value groups e h) = rw (e, (unfit value groups).1 (inr h))

  -- 2: the sixth byte has the top bit set, "or it isn't in shortest form", and no other: "no longer at the value".
  pub read_malformed : Bytes s → (read_number s at ≡ Err (Malformed at)) ↔ IllFormed (drop at s)
  unfolding read_number
  read_malformed b = (λ e. (formed at (drop at s)).1 e (drop_bytes at s b), ill_formed)

  -- "The reader gathers in 64 bits": no value that is read passes what six groups make, 42 bits.
  pub value_most : (value next : ℕ) → read_number s at ≡ number value next → value ≤ 4398046511103
  value_most value next e = (read_bounds s at value next e).fits
