-- Reading a number: what was written is read, and what was read stands there as a writing.
-- Assumes nothing.
use Rattle.std.specs.Prelude.{if◌then◌else◌, Result, Ok, Err}
use Prim.Native.Nat.{ℕ, ◌+◌, ◌≤◌, ◌<◌}
use native.Mathlib.Omega.{arith}
use mathlib.Core.Path.{◌≡◌, refl, sym, subst, ap, ◌∙◌}
use mathlib.Core.Bool.{Bool, true, false, ◌&&◌}
use mathlib.Core.List.{List, ◌++◌}
use lib.ListN.{length, drop, length-drop}
use lib.Dec.{leb, eqb}
use borrow.Author.Tests.{leb-true, le-leb, eqb-true, eq-eqb}
use Rattle.base.specs.Answer.{accepted}
use Rattle.base.proofs.ListLaws.{drop_after}
use Rattle.std.proofs.lemmas.Bool.{and_parts}
use Rattle.refusal.specs.Refusal.{answer_of}
use Rattle.refusal.specs.declared.Refusal.{Refusal}
use Rattle.refusal.specs.declared.Refusal.TheVariants.{Ended, Malformed}
use Rattle.number.specs.declared.Reading.{Reading}
use Rattle.number.specs.Number.{write_in, write_number, most_groups, greatest_number, Scan, cut, overlong, whole, scan, number, read_of, read_number}
use Rattle.number.specs.Number.{number_at}
use Rattle.number.specs.Form.{Bytes, WrittenAt}
use Rattle.number.proofs.ByteLaws.{drop_bytes}
use Rattle.number.proofs.ScanLaws.{scan_groups, scan_write, scan_read}

-- The writing of n, whatever stands behind it, reads as n.
pub read_writing : (s : List ℕ) (at n : ℕ) (rest : List ℕ) → n ≤ greatest_number → drop at s ≡ write_number n ++ rest
    → read_number s at ≡ number n (at + length (write_number n))
unfolding read_number write_number
read_writing s at n rest h e = rw (e, scan_write 5 n rest (omega arith), le-leb n greatest_number h, eq-eqb (length (write_in 6 n)) (length (write_in 6 n)) refl)

pub read_number_lem : (s : List ℕ) (at n : ℕ) (rest : List ℕ) → n ≤ greatest_number → drop at s ≡ write_number n ++ rest
    → number_at s at ≡ accepted (record { value = n; next = at + length (write_number n) })
unfolding number_at
read_number_lem s at n rest h e = rw (read_writing s at n rest h e)

-- Where a number is found, its groups end, are within the greatest value and the shortest form.
pub record Found (s : List ℕ) (at v n : ℕ) : Type 0 where
  pub fits : v ≤ greatest_number
  pub next : n ≡ at + length (write_number v)
  pub ends : scan most_groups (drop at s) ≡ whole v (length (write_number v))

pub found : (s : List ℕ) (at v n : ℕ) → read_number s at ≡ number v n → Found s at v n
unfolding read_number
found s at v n e = go (scan most_groups (drop at s)) refl e
  where
    pick : (w m : ℕ) (t : Bool) → scan most_groups (drop at s) ≡ whole w m → (leb w greatest_number && eqb m (length (write_number w))) ≡ t
        → (if t then number w (at + m) else Err (Malformed at)) ≡ number v n → Found s at v n
    pick w m false p h k = cc
    pick w m true p h k =
        let x : Reading = record { value = w; next = at + m } in
        let y : Reading = record { value = v; next = n } in
        let same : x ≡ y = cc in
        let value : w ≡ v = ap (λ (z : Reading). z.value) same in
        let next : at + m ≡ n = ap (λ (z : Reading). z.next) same in
        let shortest : m ≡ length (write_number w) = eqb-true _ _ ((and_parts (leb w greatest_number) _ h).1) in
        let fits : w ≤ greatest_number = leb-true _ _ ((and_parts _ (eqb m (length (write_number w))) h).0) in
        subst (λ (u : ℕ). Found s at u n) value (record { fits = fits; next = sym next ∙ ap (λ (l : ℕ). at + l) shortest; ends = p ∙ ap (whole w) shortest })

    go : (c : Scan) → scan most_groups (drop at s) ≡ c → read_of at c ≡ number v n → Found s at v n
    go cut p q = cc
    go overlong p q = cc
    go (whole w m) p q = pick w m (leb w greatest_number && eqb m (length (write_number w))) p refl q

-- And where an answer has a number, it was found.
pub answered : (c : Result Reading Refusal) (r : Reading) → answer_of c ≡ accepted r → c ≡ number r.value r.next
answered (Ok x) r e = let same : x ≡ r = cc in ap (λ (y : Reading). number y.value y.next) same
answered (Err q) r e = cc

-- What reading finds: a number, or one of two refusals, at its index.
pub data Reads (s : List ℕ) (at : ℕ) : Type 0 where
  a_number : (r : Reading) → read_number s at ≡ number r.value r.next → Reads s at
  ended_there : read_number s at ≡ Err (Ended at) → Reads s at
  malformed_there : read_number s at ≡ Err (Malformed at) → Reads s at

pub reads : (s : List ℕ) (at : ℕ) → Reads s at
unfolding read_number
reads s at = go (scan most_groups (drop at s)) refl
  where
    pick : (w m : ℕ) (t : Bool) → read_number s at ≡ (if t then number w (at + m) else Err (Malformed at)) → Reads s at
    pick w m true e = a_number (record { value = w; next = at + m }) e
    pick w m false e = malformed_there e

    go : (c : Scan) → scan most_groups (drop at s) ≡ c → Reads s at
    go cut e = ended_there (ap (read_of at) e)
    go overlong e = malformed_there (ap (read_of at) e)
    go (whole w m) e = pick w m (leb w greatest_number && eqb m (length (write_number w))) (ap (read_of at) e)

pub record ReadBounds (s : List ℕ) (at value next : ℕ) : Type 0 where
  pub fits : value ≤ greatest_number
  pub rises : at < next
  pub there : next ≤ length s
  pub near : next ≤ at + 6

pub read_bounds : (s : List ℕ) (at v n : ℕ) → read_number s at ≡ number v n → ReadBounds s at v n
read_bounds s at v n e =
    let f = found s at v n e in
    let g = scan_groups 6 (drop at s) v (length (write_number v)) f.ends in
    record { fits = f.fits; rises = omega arith; there = omega (arith, length-drop at s); near = omega arith }

-- A number that was read stands there as its writing.
pub read_stands : (s : List ℕ) (at v n : ℕ) → Bytes s → read_number s at ≡ number v n → WrittenAt s at (record { value = v; next = n })
unfolding write_number
read_stands s at v n b e =
    let f = found s at v n e in
    let t = scan_read 6 (drop at s) v (length (write_number v)) (drop_bytes at s b) f.ends refl in
    let behind : drop n s ≡ t.rest = ap (λ (m : ℕ). drop m s) f.next ∙ drop_after s at (write_number v) t.rest t.split in
    record { fits = f.fits; next = f.next; split = t.split ∙ ap (λ (z : List ℕ). write_number v ++ z) (sym behind) }

pub number_read : (s : List ℕ) (at : ℕ) (r : Reading) → Bytes s → number_at s at ≡ accepted r → WrittenAt s at r
unfolding number_at
number_read s at r b e = read_stands s at r.value r.next b (answered (read_number s at) r e)
