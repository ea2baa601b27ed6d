-- Scans: a scan that ends, taken apart once for all that is known of its groups.
-- Assumes nothing.
use Prim.Native.Nat.{ℕ, zero, suc, ◌+◌, ◌-◌, ◌*◌, ◌/◌, ◌%◌, ◌^◌, ◌≤◌, ◌<◌}
use native.Mathlib.Nat.{pow-le-pow_right, pow-succ'}
use native.Mathlib.Omega.{arith}
use native.Mathlib.Decide.{dec_lt}
use mathlib.Core.Path.{◌≡◌, refl, sym, ap, ◌∙◌}
use mathlib.Core.List.Memᴰ
use mathlib.Core.List.{List, [], ◌∷◌, ◌++◌}
use lib.ListN.{length}
use borrow.Author.Tests.{lt-ltb, le-ltb}
use Rattle.number.specs.Number.{write_in, Scan, cut, overlong, whole, prefixed, scan}
use Rattle.number.proofs.WriteLaws.{write_last, write_more}
use Rattle.number.specs.Form.{Bytes}
use Rattle.number.proofs.ByteLaws.{tail_bytes}

pub scan_last : (k x : ℕ) (xs : List ℕ) → x < 128 → scan (suc k) (x ∷ xs) ≡ whole x 1
unfolding scan
scan_last k x xs h = rw (lt-ltb x 128 h)

pub scan_more : (k x : ℕ) (xs : List ℕ) → 128 ≤ x → scan (suc k) (x ∷ xs) ≡ prefixed (x - 128) (scan k xs)
unfolding scan
scan_more k x xs h = rw (le-ltb x 128 h)

-- The first group of a scan that ends is its last, or the rest is a scan that ends.
data Ends (k x : ℕ) (xs : List ℕ) (v n : ℕ) : Type 0 where
  at_once : x < 128 → x ≡ v → 1 ≡ n → Ends k x xs v n
  later : 128 ≤ x → (w m : ℕ) → scan k xs ≡ whole w m → x - 128 + 128 * w ≡ v → suc m ≡ n → Ends k x xs v n

ends : (k x : ℕ) (xs : List ℕ) (v n : ℕ) → scan (suc k) (x ∷ xs) ≡ whole v n → Ends k x xs v n
ends k x xs v n e = go (dec_lt x 128)
  where
    rest : 128 ≤ x → (c : Scan) → scan k xs ≡ c → prefixed (x - 128) c ≡ whole v n → Ends k x xs v n
    rest h cut p q = cc
    rest h overlong p q = cc
    rest h (whole w m) p q =
        let value : x - 128 + 128 * w ≡ v = cc in
        let groups : suc m ≡ n = cc in
        later h w m p value groups

    go : Dec (x < 128) → Ends k x xs v n
    go (yes h) =
        let q = sym (scan_last k x xs h) ∙ e in
        let value : x ≡ v = cc in
        let groups : ◌≡◌ {A = ℕ} 1 n = cc in
        at_once h value groups
    go (no h) = rest (omega arith) (scan k xs) refl (sym (scan_more k x xs (omega arith)) ∙ e)

-- Its groups are some, at most k, and there.
pub record Groups (k : ℕ) (s : List ℕ) (n : ℕ) : Type 0 where
  pub some : 1 ≤ n
  pub most : n ≤ k
  pub there : n ≤ length s

pub scan_groups : (k : ℕ) (s : List ℕ) (v n : ℕ) → scan k s ≡ whole v n → Groups k s n
unfolding scan
scan_groups zero s v n e = cc
scan_groups (suc k) [] v n e = cc
scan_groups (suc k) (x ∷ xs) v n e = go (ends k x xs v n e) (scan_groups k xs)
  where
    go : Ends k x xs v n → ((w m : ℕ) → scan k xs ≡ whole w m → Groups k xs m) → Groups (suc k) (x ∷ xs) n
    go (at_once h p q) r = record { some = omega arith; most = omega arith; there = omega arith }
    go (later h w m p q t) r = let g = r w m p in record { some = omega arith; most = omega arith; there = omega arith }

-- Groups that are bytes make a value that as many groups hold.
pub scan_most : (k : ℕ) (s : List ℕ) (v n : ℕ) → Bytes s → scan k s ≡ whole v n → v < 128 ^ k
unfolding scan
scan_most zero s v n b e = cc
scan_most (suc k) [] v n b e = cc
scan_most (suc k) (x ∷ xs) v n b e = go (ends k x xs v n e) (λ w m. scan_most k xs w m (tail_bytes b))
  where
    some : 1 ≤ 128 ^ k
    some = pow-le-pow_right {n = 128} (omega arith) {i = 0} {j = k} (omega arith)

    go : Ends k x xs v n → ((w m : ℕ) → scan k xs ≡ whole w m → w < 128 ^ k) → v < 128 ^ suc k
    go (at_once h p q) r = omega (arith, some, pow-succ' 128 k)
    go (later h w m p q t) r = omega (arith, r w m p, b x (Memᴰ.head refl), pow-succ' 128 k)

-- A writing is scanned as its number.
pub scan_write : (k n : ℕ) (rest : List ℕ) → n < 128 ^ suc k → scan (suc k) (write_in (suc k) n ++ rest) ≡ whole n (length (write_in (suc k) n))
scan_write zero n rest h = rw (write_last 0 n (omega arith)) (scan_last 0 n rest (omega arith))
scan_write (suc k) n rest h = go (dec_lt n 128) (scan_write k (n / 128) rest)
  where
    go : Dec (n < 128) → (n / 128 < 128 ^ suc k → scan (suc k) (write_in (suc k) (n / 128) ++ rest) ≡ whole (n / 128) (length (write_in (suc k) (n / 128))))
        → scan (suc (suc k)) (write_in (suc (suc k)) n ++ rest) ≡ whole n (length (write_in (suc (suc k)) n))
    go (yes l) r = rw (write_last (suc k) n l) (scan_last (suc k) n rest l)
    go (no l) r =
        rw (write_more (suc k) n (omega arith))
        (scan_more (suc k) (n % 128 + 128) (write_in (suc k) (n / 128) ++ rest) (omega arith)
        ∙ ap (prefixed (n % 128 + 128 - 128)) (r (omega arith))
        ∙ ap (λ (m : ℕ). whole m (suc (length (write_in (suc k) (n / 128))))) (let e : n % 128 + 128 - 128 + 128 * (n / 128) ≡ n = omega arith in e))

-- A scan in as many groups as the value needs was of the value's writing.
pub record Taken (s w : List ℕ) (n : ℕ) : Type 0 where
  pub rest : List ℕ
  pub split : s ≡ w ++ rest
  pub size : length w ≡ n

taken_more : (k x v w m n : ℕ) (xs : List ℕ) → write_in (suc k) v ≡ x ∷ write_in k w → n ≡ length (write_in (suc k) v) → Taken xs (write_in k w) m
    → Taken (x ∷ xs) (write_in (suc k) v) n
taken_more k x v w m n xs wm l t =
    record { rest = t.rest; split = ap (λ (z : List ℕ). x ∷ z) t.split ∙ ap (λ (z : List ℕ). z ++ t.rest) (sym wm); size = sym l }

pub scan_read : (k : ℕ) (s : List ℕ) (v n : ℕ) → Bytes s → scan k s ≡ whole v n → n ≡ length (write_in k v) → Taken s (write_in k v) n
unfolding scan
scan_read zero s v n b e l = cc
scan_read (suc k) [] v n b e l = cc
scan_read (suc k) (x ∷ xs) v n b e l = go (ends k x xs v n e) (λ w m. scan_read k xs w m (tail_bytes b))
  where
    Rec : Type 0
    Rec = (w m : ℕ) → scan k xs ≡ whole w m → m ≡ length (write_in k w) → Taken xs (write_in k w) m

    big : 128 ≤ x → (w m : ℕ) → scan k xs ≡ whole w m → x - 128 + 128 * w ≡ v → suc m ≡ n → Rec → Dec (v < 128) → Taken (x ∷ xs) (write_in (suc k) v) n
    big h w m p vv nn r (yes u) = absurd (omega (arith, (scan_groups k xs w m p).some, ap length (write_last k v u)))
    big h w m p vv nn r (no u) =
        let small = b x (Memᴰ.head refl) in
        let y : v % 128 + 128 ≡ x = omega (arith, small) in
        let d : v / 128 ≡ w = omega (arith, small) in
        let wm : write_in (suc k) v ≡ x ∷ write_in k w = write_more k v (omega arith) ∙ rw (y, d) in
        let t = r w m p (omega (arith, ap length wm)) in
        taken_more k x v w m n xs wm l t

    go : Ends k x xs v n → Rec → Taken (x ∷ xs) (write_in (suc k) v) n
    go (at_once h p q) r = record { rest = xs; split = rw (write_last k v (omega arith), p); size = sym l }
    go (later h w m p q t) r = big h w m p q t r (dec_lt v 128)
