-- The list of all layouts: the layout at each place, how many there are, that it has each layout, and that it rises.
-- Assumes nothing.
use Prim.Native.Nat.{ℕ, zero, suc, ◌+◌, ◌-◌, ◌*◌, ◌/◌, ◌%◌, ◌^◌, ◌≤◌, ◌<◌}
use native.Mathlib.Omega.{arith}
use native.Mathlib.Nat.{pow-suc, mul_assoc, mul_comm, zero-add, add-zero, add_comm, suc-mul, zero-mul, suc_inj}
use mathlib.Core.Path.{◌≡◌, refl, sym, ap, ◌∙◌, subst}
use native.Mathlib.Decide.{dec_lt, ℕ_discrete}
use mathlib.Core.Logic.{◌↔◌, ◌⊎◌, inl, inr}
use mathlib.Core.Bool.{true}
use mathlib.Core.List.Memᴰ
use mathlib.Core.List.{List, [], ◌∷◌, ◌++◌, map, Memᴰ}
use lib.ListN.{length, take, get_or}
use lib.Seq.{take_at}
use lib.Dec.{leb}
use borrow.Author.Tests.{leb-true, le-leb}
use Rattle.base.specs.Choice.{all_of}
use Rattle.std.proofs.lemmas.Bool.{and_from, and_parts}
use Rattle.panels.specs.Layout.{IsLayout, zero_to_fifteen, each_before, layouts, Before}
use Rattle.panels.specs.Steps.{layout_at, layouts_from}

-- A count before a layout of the other lengths stands at its own place.
weight : (c k : ℕ) → c * 16 ^ suc k ≡ 16 * (c * 16 ^ k)
weight c k = let e = mul_assoc c (16 ^ k) 16 in rw pow-suc (omega arith)

at_count : (k c r : ℕ) → c < 16 → r < 16 ^ k → layout_at (suc k) (c * 16 ^ k + r) ≡ c ∷ layout_at k r
unfolding layout_at
at_count zero c r hc hr = ap (λ (x : ℕ). x ∷ []) (let h : (c * 1 + r) % 16 ≡ c = omega arith in h)
at_count (suc k) c r hc hr =
    let w = weight c k in
    let p : r < 16 ^ k * 16 = rw pow-suc at hr in
    let q : (c * 16 ^ suc k + r) / 16 ≡ c * 16 ^ k + r / 16 = omega arith in
    let m : (c * 16 ^ suc k + r) % 16 ≡ r % 16 = omega arith in
    let b : r / 16 < 16 ^ k = omega arith in
    rw (q, m) (ap (λ (l : List ℕ). l ++ r % 16 ∷ []) (at_count k c (r / 16) hc b))

pub from_append : (k i m n : ℕ) → layouts_from k i (m + n) ≡ layouts_from k i m ++ layouts_from k (i + m) n
unfolding layouts_from
from_append k i zero n = rw (zero-add, add-zero)
from_append k i (suc m) n =
    let e : suc m + n ≡ suc (m + n) = omega arith in
    let p : suc i + m ≡ i + suc m = omega arith in
    rw e (ap (λ (l : List (List ℕ)). layout_at k i ∷ l) (from_append k (suc i) m n ∙ ap (λ (x : ℕ). layouts_from k (suc i) m ++ layouts_from k x n) p))

pub from_length : (k i n : ℕ) → length (layouts_from k i n) ≡ n
unfolding layouts_from
from_length k i zero = refl
from_length k i (suc n) = ap suc (from_length k (suc i) n)

pub from_take : (k i n m : ℕ) → m ≤ n → take m (layouts_from k i n) ≡ layouts_from k i m
from_take k i n m h =
    let e : n ≡ m + (n - m) = omega arith in
    rw (e, from_append k i m (n - m)) (take_at (layouts_from k i m) (layouts_from k (i + m) (n - m)) m (from_length k i m))

pub from_at : (k i n j : ℕ) → j < n → get_or (layouts_from k i n) j [] ≡ layout_at k (i + j)
unfolding layouts_from
from_at k i zero j h = elim h [ ]
from_at k i (suc n) zero h = rw add-zero
from_at k i (suc n) (suc j) h = let e : suc i + j ≡ i + suc j = omega arith in from_at k (suc i) n j (omega arith) ∙ ap (layout_at k) e

-- One count before the layouts of the other lengths, and then each in turn.
one_before : (k c s n : ℕ) → c < 16 → s + n ≤ 16 ^ k → map (λ (l : List ℕ). c ∷ l) (layouts_from k s n) ≡ layouts_from (suc k) (c * 16 ^ k + s) n
unfolding layouts_from
one_before k c s zero hc h = refl
one_before k c s (suc n) hc h =
    let e : suc (c * 16 ^ k + s) ≡ c * 16 ^ k + suc s = omega arith in
    rw (at_count k c s hc (omega arith), e) (ap (λ (l : List (List ℕ)). (c ∷ layout_at k s) ∷ l) (one_before k c (suc s) n hc (omega arith)))

counting : (from n : ℕ) → List ℕ
counting c zero = []
counting c (suc n) = c ∷ counting (suc c) n

each_before_lem : (k c n : ℕ) → c + n ≤ 16 → layouts k ≡ layouts_from k 0 (16 ^ k)
    → each_before (counting c n) (layouts k) ≡ layouts_from (suc k) (c * 16 ^ k) (n * 16 ^ k)
unfolding each_before layouts_from counting
each_before_lem k c zero h e = rw (zero-mul (16 ^ k))
each_before_lem k c (suc n) h e =
    let p : c * 16 ^ k + 0 ≡ c * 16 ^ k = omega arith in
    let q : suc n * 16 ^ k ≡ 16 ^ k + n * 16 ^ k = suc-mul n (16 ^ k) ∙ add_comm (n * 16 ^ k) (16 ^ k) in
    let r : suc c * 16 ^ k ≡ c * 16 ^ k + 16 ^ k = suc-mul c (16 ^ k) in
    let first : map (λ (l : List ℕ). c ∷ l) (layouts k) ≡ layouts_from (suc k) (c * 16 ^ k) (16 ^ k) =
    ap (map (λ (l : List ℕ). c ∷ l)) e ∙ one_before k c 0 (16 ^ k) (omega arith) (omega arith) ∙ ap (λ (x : ℕ). layouts_from (suc k) x (16 ^ k)) p in
    let rest : each_before (counting (suc c) n) (layouts k) ≡ layouts_from (suc k) (c * 16 ^ k + 16 ^ k) (n * 16 ^ k) =
    each_before_lem k (suc c) n (omega arith) e ∙ ap (λ (x : ℕ). layouts_from (suc k) x (n * 16 ^ k)) r in
    rw (first, rest, q) (sym (from_append (suc k) (c * 16 ^ k) (16 ^ k) (n * 16 ^ k)))

-- All layouts, by their places; there are 16 for each length, multiplied.
pub layouts_from_lem : (k : ℕ) → layouts k ≡ layouts_from k 0 (16 ^ k)
unfolding layouts layouts_from layout_at counting
layouts_from_lem zero = refl
layouts_from_lem (suc k) =
    let p : 16 * 16 ^ k ≡ 16 ^ suc k = mul_comm 16 (16 ^ k) ∙ sym (pow-suc 16 k) in
    let z : 0 * 16 ^ k ≡ 0 = zero-mul (16 ^ k) in
    each_before_lem k 0 16 (omega arith) (layouts_from_lem k) ∙ ap (λ (x : ℕ). layouts_from (suc k) x (16 * 16 ^ k)) z ∙ ap (layouts_from (suc k) 0) p

pub layouts_number : (k : ℕ) → length (layouts k) ≡ 16 ^ k
layouts_number k = ap length (layouts_from_lem k) ∙ from_length k 0 (16 ^ k)

pub layouts_taken : (k n : ℕ) → n ≤ 16 ^ k → take n (layouts k) ≡ layouts_from k 0 n
layouts_taken k n h = rw (layouts_from_lem k) (from_take k 0 (16 ^ k) n h)

-- Each layout is there, and nothing else.
listed : (from n c : ℕ) → from ≤ c → c < from + n → Memᴰ c (counting from n)
unfolding counting
listed from zero c l h = absurd (omega arith)
listed from (suc n) c l h = go (ℕ_discrete c from) (listed (suc from) n c)
  where
    go : Dec (c ≡ from) → (suc from ≤ c → c < suc from + n → Memᴰ c (counting (suc from) n)) → Memᴰ c (from ∷ counting (suc from) n)
    go (yes e) r = Memᴰ.head e
    go (no e) r = Memᴰ.tail (r (omega arith) (omega arith))

member_count : (c : ℕ) → c ≤ 15 → Memᴰ c zero_to_fifteen
unfolding counting
member_count c h = listed 0 16 c (omega arith) (omega arith)

each_has : {c : ℕ} {l : List ℕ} {cs : List ℕ} {others : List (List ℕ)} → Memᴰ c cs → Memᴰ l others → Memᴰ (c ∷ l) (each_before cs others)
unfolding each_before
each_has {c} {l} {others = others} (Memᴰ.head {x = d} {xs = ds} e) m =
    Memᴰ.append_left (each_before ds others) (Memᴰ.cast (ap (λ (x : ℕ). x ∷ l) e) (Memᴰ.map (λ (y : List ℕ). d ∷ y) m))
each_has {c} {l} {others = others} (Memᴰ.tail {x = d} {xs = ds} k) m = Memᴰ.append_right (map (λ (y : List ℕ). d ∷ y) others) (each_has k m)

pub layouts_have : (k : ℕ) (l : List ℕ) → length l ≡ k → all_of (λ c. leb c 15) l ≡ true → Memᴰ l (layouts k)
unfolding layouts all_of
layouts_have zero [] e a = Memᴰ.head refl
layouts_have zero (c ∷ l) e a = absurd (omega arith)
layouts_have (suc k) [] e a = absurd (omega arith)
layouts_have (suc k) (c ∷ l) e a =
    each_has (member_count c (leb-true c 15 ((and_parts (leb c 15) _ a).0))) (layouts_have k l (suc_inj e) ((and_parts (leb c 15) _ a).1))

record Split (cs : List ℕ) (others : List (List ℕ)) (l : List ℕ) : Type 0 where
  count : ℕ
  rest : List ℕ
  listed : Memᴰ count cs
  other : Memᴰ rest others
  whole : count ∷ rest ≡ l

each_only : {l : List ℕ} (cs : List ℕ) (others : List (List ℕ)) → Memᴰ l (each_before cs others) → Split cs others l
unfolding each_before
each_only [] others m = absurd (Memᴰ.not-nil m)
each_only {l} (c ∷ cs) others m = go (Memᴰ.append_cases (map (λ (y : List ℕ). c ∷ y) others) m) (each_only cs others)
  where
    go : Memᴰ l (map (λ (y : List ℕ). c ∷ y) others) ⊎ Memᴰ l (each_before cs others) → (Memᴰ l (each_before cs others) → Split cs others l)
        → Split (c ∷ cs) others l
    go (inl k) r = let w = Memᴰ.of_map (λ (y : List ℕ). c ∷ y) others k in
        record { count = c; rest = w.0; listed = Memᴰ.head refl; other = w.1; whole = w.2 }
    go (inr k) r = let w = r k in record { count = w.count; rest = w.rest; listed = Memᴰ.tail w.listed; other = w.other; whole = w.whole }

listed_count : (from n c : ℕ) → Memᴰ c (counting from n) → c < from + n
unfolding counting
listed_count from zero c m = absurd (Memᴰ.not-nil m)
listed_count from (suc n) c m = go (Memᴰ.cases_cons m) (listed_count (suc from) n c)
  where
    go : (c ≡ from) ⊎ Memᴰ c (counting (suc from) n) → (Memᴰ c (counting (suc from) n) → c < suc from + n) → c < from + suc n
    go (inl e) r = omega arith
    go (inr k) r = omega (arith, r k)

count_top : (c : ℕ) → Memᴰ c zero_to_fifteen → c ≤ 15
unfolding counting
count_top c m = omega (arith, listed_count 0 16 c m)

pub layouts_only : (k : ℕ) (l : List ℕ) → Memᴰ l (layouts k) → (length l ≡ k) × (all_of (λ c. leb c 15) l ≡ true)
unfolding layouts all_of
layouts_only zero l m = rw (Memᴰ.eq_of_singleton m) (refl, refl)
layouts_only (suc k) l m =
    let w = each_only zero_to_fifteen (layouts k) m in
    let r = layouts_only k w.rest w.other in
    subst (λ (x : List ℕ). (length x ≡ suc k) × (all_of (λ c. leb c 15) x ≡ true)) w.whole
    (ap suc r.0, and_from _ _ (le-leb w.count 15 (count_top w.count w.listed)) r.1)

-- "A layout is a count from 0 to 15 of each."
pub layouts_exactly : (lengths l : List ℕ) → Memᴰ l (layouts (length lengths)) ↔ IsLayout lengths l
layouts_exactly lengths l = (
  (λ m. let r = layouts_only (length lengths) l m in record { each = r.0; to_fifteen = r.1 }),
  (λ f. layouts_have (length lengths) l f.each f.to_fifteen),
)

-- "In rising order of their counts, the last length's changing fastest."
front_before : (l m : List ℕ) (a b : List ℕ) → Before l m → Before (l ++ a) (m ++ b)
front_before [] m a b h = absurd h
front_before (c ∷ l) [] a b h = absurd h
front_before (c ∷ l) (d ∷ m) a b (inl h) = inl h
front_before (c ∷ l) (d ∷ m) a b (inr h) = inr (h.0, front_before l m a b h.1)

last_before : (l : List ℕ) (a b : ℕ) → a < b → Before (l ++ a ∷ []) (l ++ b ∷ [])
last_before [] a b h = inl h
last_before (c ∷ l) a b h = inr (refl, last_before l a b h)

at_before : (k i j : ℕ) → i < j → j < 16 ^ k → Before (layout_at k i) (layout_at k j)
unfolding layout_at
at_before zero i j h l = absurd (omega arith)
at_before (suc k) i j h l = go (dec_lt (i / 16) (j / 16)) (at_before k (i / 16) (j / 16))
  where
    top : j / 16 < 16 ^ k
    top = let p : j < 16 ^ k * 16 = rw pow-suc at l in omega arith

    go : Dec (i / 16 < j / 16) → (i / 16 < j / 16 → j / 16 < 16 ^ k → Before (layout_at k (i / 16)) (layout_at k (j / 16)))
        → Before (layout_at k (i / 16) ++ i % 16 ∷ []) (layout_at k (j / 16) ++ j % 16 ∷ [])
    go (yes p) r = front_before (layout_at k (i / 16)) (layout_at k (j / 16)) (i % 16 ∷ []) (j % 16 ∷ []) (r p top)
    go (no p) r =
        let e : i / 16 ≡ j / 16 = omega arith in
        rw e (last_before (layout_at k (j / 16)) (i % 16) (j % 16) (omega arith))

pub layouts_at : (k i : ℕ) → i < 16 ^ k → get_or (layouts k) i [] ≡ layout_at k i
layouts_at k i h = ap (λ (l : List (List ℕ)). get_or l i []) (layouts_from_lem k) ∙ from_at k 0 (16 ^ k) i h ∙ ap (layout_at k) (zero-add i)

pub layouts_rise : (k i j : ℕ) → i < j → j < length (layouts k) → Before (get_or (layouts k) i []) (get_or (layouts k) j [])
layouts_rise k i j h l =
    let t : j < 16 ^ k = rw (layouts_number k) at l in
    rw (layouts_at k i (omega arith), layouts_at k j t) (at_before k i j h t)
