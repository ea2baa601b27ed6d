-- The greatest common divisor is one and is the greatest; and the floor under every covering layout's overrun.
-- Assumes nothing.
use Rattle.std.specs.Prelude.{if◌then◌else◌}
use Prim.Native.Nat.{ℕ, zero, suc, ◌+◌, ◌-◌, ◌*◌, ◌/◌, ◌%◌, ◌≤◌, ◌<◌, ◌∣◌}
use native.Mathlib.Omega.{arith}
use native.Mathlib.Nat.{dvd-zero, dvd-add, dvd-mul_left, dvd-mul_left_of_dvd, le_of_dvd, mod-eq-zero_of_dvd, dvd_of_mod-eq-zero, div-mul_cancel}
use native.Mathlib.Nat.{mul-le-mul_right, one-dvd, suc-mul, dvd-mod_iff, dvd_refl, pos_of_dvd_of_pos, div-add-mod', mod-lt, lt_of_mul-lt-mul_right}
use native.Mathlib.Decide.{ℕ_discrete}
use mathlib.Core.Path.{◌≡◌, refl, sym, ap, ◌∙◌, subst}
use mathlib.Core.Logic.{◌↔◌, ◌⊎◌, inl, inr}
use mathlib.Core.Bool.{Bool, true, false}
use mathlib.Core.List.Memᴰ
use mathlib.Core.List.{List, [], ◌∷◌, Memᴰ}
use lib.ListN.{length, get_or}
use lib.Dec.{eqb}
use borrow.Author.Tests.{eqb-true, eq-eqb, leb-true}
use Rattle.base.specs.Choice.{all_of}
use Rattle.base.specs.Least.{LeastMultiple, next_multiple}
use Rattle.base.proofs.ListLaws.{get_d_member}
use Rattle.base.proofs.LeastLaws.{multiple_divided, multiple_from, multiple_least, next_multiple_lem}
use Rattle.std.proofs.lemmas.Bool.{and_from, and_parts, both_ways}
use Rattle.panels.specs.Layout.{total, covers, overrun}
use Rattle.panels.specs.Panels.{greatest, divides_all, gcd, floor}
use Rattle.panels.specs.Promised.{SomeLengths, FloorOf}
use Rattle.panels.specs.Steps.{CommonDivisors}

-- A common divisor, as a test and as a fact.
pub all_divided : (ls : List ℕ) (d : ℕ) → divides_all ls d ≡ true → (l : ℕ) → Memᴰ l ls → d ∣ l
unfolding divides_all all_of
all_divided [] d e l m = absurd (Memᴰ.not-nil m)
all_divided (x ∷ xs) d e l m = go (Memᴰ.cases_cons m) (all_divided xs d ((and_parts (eqb (x % d) 0) _ e).1) l)
  where
    go : (l ≡ x) ⊎ Memᴰ l xs → (Memᴰ l xs → d ∣ l) → d ∣ l
    go (inl q) r = rw q (dvd_of_mod-eq-zero d (eqb-true (x % d) 0 ((and_parts (eqb (x % d) 0) _ e).0)))
    go (inr k) r = r k

pub divided_all : (ls : List ℕ) (d : ℕ) → ((l : ℕ) → Memᴰ l ls → d ∣ l) → divides_all ls d ≡ true
unfolding divides_all all_of
divided_all [] d f = refl
divided_all (x ∷ xs) d f = and_from _ _ (eq-eqb (x % d) 0 (mod-eq-zero_of_dvd d (f x (Memᴰ.head refl)))) (divided_all xs d (λ l m. f l (Memᴰ.tail m)))

-- The greatest number up to n that passes.
greatest_passes : (p : ℕ → Bool) (n : ℕ) → 0 < greatest p n → p (greatest p n) ≡ true
unfolding greatest
greatest_passes p zero h = absurd (omega arith)
greatest_passes p (suc n) h = go (p (suc n)) refl h (greatest_passes p n)
  where
    go : (t : Bool) → p (suc n) ≡ t → 0 < (if t then suc n else greatest p n) → (0 < greatest p n → p (greatest p n) ≡ true)
        → p (if t then suc n else greatest p n) ≡ true
    go true e h r = e
    go false e h r = r h

greatest_greatest : (p : ℕ → Bool) (n d : ℕ) → d ≤ n → p d ≡ true → d ≤ greatest p n
unfolding greatest
greatest_greatest p zero d h e = omega arith
greatest_greatest p (suc n) d h e = go (p (suc n)) refl (greatest_greatest p n d)
  where
    go : (t : Bool) → p (suc n) ≡ t → (d ≤ n → p d ≡ true → d ≤ greatest p n) → d ≤ (if t then suc n else greatest p n)
    go true q r = h
    go false q r = below (ℕ_discrete d (suc n))
      where
        below : Dec (d ≡ suc n) → d ≤ greatest p n
        below (yes w) = absurd (both_ways _ (ap p w ∙ q) e)
        below (no w) = r (omega arith) e

-- "The lengths' greatest common divisor", of one length or more, each at least 1.
pub gcd_some : (ls : List ℕ) → SomeLengths ls → 0 < gcd ls
unfolding gcd
gcd_some [] f = absurd (let h = f.some in omega arith)
gcd_some (l ∷ ls) f = let h = f.each l (Memᴰ.head refl) in greatest_greatest (divides_all (l ∷ ls)) l 1 h (divided_all (l ∷ ls) 1 (λ x m. one-dvd x))

pub gcd_divides : (ls : List ℕ) → SomeLengths ls → (l : ℕ) → Memᴰ l ls → gcd ls ∣ l
unfolding gcd
gcd_divides ls f = go ls (gcd_some ls f)
  where
    go : (ls : List ℕ) → 0 < gcd ls → (l : ℕ) → Memᴰ l ls → gcd ls ∣ l
    go [] h l m = absurd (Memᴰ.not-nil m)
    go (x ∷ xs) h l m = all_divided (x ∷ xs) (gcd (x ∷ xs)) (greatest_passes (divides_all (x ∷ xs)) x h) l m

pub gcd_greatest : (ls : List ℕ) → SomeLengths ls → (d : ℕ) → ((l : ℕ) → Memᴰ l ls → d ∣ l) → d ≤ gcd ls
unfolding gcd
gcd_greatest [] f d g = absurd (let h = f.some in omega arith)
gcd_greatest (l ∷ ls) f d g =
    greatest_greatest (divides_all (l ∷ ls)) l d (le_of_dvd (f.each l (Memᴰ.head refl)) (g l (Memᴰ.head refl))) (divided_all (l ∷ ls) d g)

-- A layout's total is a multiple of every common divisor, whatever its counts.
total_divided : (ls : List ℕ) (d : ℕ) (cs : List ℕ) → ((l : ℕ) → Memᴰ l ls → d ∣ l) → d ∣ total ls cs
unfolding total
total_divided [] d cs f = dvd-zero d
total_divided (l ∷ ls) d [] f = dvd-zero d
total_divided (l ∷ ls) d (c ∷ cs) f = dvd-add d (dvd-mul_left_of_dvd d (f l (Memᴰ.head refl)) c) (total_divided ls d cs (λ x m. f x (Memᴰ.tail m)))

-- "The distance from the run's length up to the least multiple."
pub floor_distance : (ls : List ℕ) → SomeLengths ls → (run : ℕ) → FloorOf ls run (floor ls run)
unfolding floor
floor_distance ls f run =
    let l = next_multiple_lem (gcd ls) run (gcd_some ls f) in
    let there : next_multiple (gcd ls) run ≡ run + (next_multiple (gcd ls) run - run) = omega (arith, l.holds.not_smaller) in
    subst (LeastMultiple (gcd ls) run) there l

-- "No covering layout, tried or not, overruns by less than the floor": none with any counts at all.
pub floor_under : (ls : List ℕ) → SomeLengths ls → (run : ℕ) (cs : List ℕ) → covers ls run cs ≡ true → floor ls run ≤ overrun ls run cs
unfolding covers overrun floor
floor_under ls f run cs e =
    let h = multiple_least (gcd ls) run (total ls cs) (gcd_some ls f) (total_divided ls (gcd ls) cs (gcd_divides ls f)) (leb-true run (total ls cs) e) in
    omega arith

-- Euclid's algorithm: a turn keeps the common divisors.
pub record SameDivisors (a b greater less : ℕ) : Type 0 where
  pub same : (d : ℕ) → ((d ∣ greater) × (d ∣ less)) ↔ ((d ∣ a) × (d ∣ b))

pub same_divisors : (a b : ℕ) → SameDivisors a b a b
same_divisors a b = record { same = λ d. ((λ x. x), (λ x. x)) }

pub euclid_turn : {a b greater less : ℕ} → SameDivisors a b greater less → SameDivisors a b less (greater % less)
euclid_turn {a} {b} {greater} {less} s =
    record {
      same = λ d. (
        (λ p. (s.same d).0 ((dvd-mod_iff d {m = greater} {n = less} p.0).0 p.1, p.0)),
        (λ q. let p = (s.same d).1 q in (p.1, (dvd-mod_iff d {m = greater} {n = less} p.1).1 p.0)),
      );
    }

pub euclid_end : {a b greater less : ℕ} → SameDivisors a b greater less → less ≡ 0 → CommonDivisors a b greater
euclid_end {a} {b} {greater} {less} s z d =
    ((λ p. (s.same d).0 (p, subst (λ (x : ℕ). d ∣ x) (sym z) (dvd-zero d))), (λ q. ((s.same d).1 q).0))

-- The lengths one by one.
pub record DivisorsTo (ls : List ℕ) (r n : ℕ) : Type 0 where
  pub divisors : (d : ℕ) → (d ∣ r) ↔ ((i : ℕ) → i < n → d ∣ get_or ls i 0)

pub divisors_none : (ls : List ℕ) → DivisorsTo ls 0 0
divisors_none ls = record { divisors = λ d. ((λ p i h. absurd (omega arith)), (λ f. dvd-zero d)) }

pub divisors_more : {ls : List ℕ} {r n : ℕ} (q : ℕ) → DivisorsTo ls r n → CommonDivisors r (get_or ls n 0) q → DivisorsTo ls q (n + 1)
divisors_more {ls} {r} {n} q s g = record { divisors = λ d. (to d, from d) }
  where
    to : (d : ℕ) → d ∣ q → (i : ℕ) → i < n + 1 → d ∣ get_or ls i 0
    to d p i h = go (ℕ_discrete i n)
      where
        go : Dec (i ≡ n) → d ∣ get_or ls i 0
        go (yes e) = rw e ((g d).0 p).1
        go (no e) = (s.divisors d).0 ((g d).0 p).0 i (omega arith)

    from : (d : ℕ) → ((i : ℕ) → i < n + 1 → d ∣ get_or ls i 0) → d ∣ q
    from d f = (g d).1 ((s.divisors d).1 (λ i h. f i (omega arith)), f n (omega arith))

record Placed (ls : List ℕ) (l : ℕ) : Type 0 where
  at : ℕ
  below : at < length ls
  is : get_or ls at 0 ≡ l

placed : (ls : List ℕ) (l : ℕ) → Memᴰ l ls → Placed ls l
placed [] l m = absurd (Memᴰ.not-nil m)
placed (x ∷ xs) l m = go (Memᴰ.cases_cons m) (placed xs l)
  where
    go : (l ≡ x) ⊎ Memᴰ l xs → (Memᴰ l xs → Placed xs l) → Placed (x ∷ xs) l
    go (inl e) r = record { at = 0; below = omega arith; is = sym e }
    go (inr k) r = let w = r k in let h = w.below in record { at = suc w.at; below = omega arith; is = w.is }

pub divisors_gcd : (ls : List ℕ) (r n : ℕ) → SomeLengths ls → n ≡ length ls → DivisorsTo ls r n → r ≡ gcd ls
divisors_gcd ls r n f e s =
    let low : r ≤ gcd ls = gcd_greatest ls f r
    (λ l m. let w = placed ls l m in let b = w.below in subst (λ (x : ℕ). r ∣ x) w.is ((s.divisors r).0 (dvd_refl r) w.at (omega arith))) in
    let first = f.some in
    let one : r ∣ get_or ls 0 0 = (s.divisors r).0 (dvd_refl r) 0 (omega arith) in
    let some : 0 < r = pos_of_dvd_of_pos one (f.each (get_or ls 0 0) (get_d_member ls 0 0 (omega arith))) in
    let high : gcd ls ≤ r = le_of_dvd some ((s.divisors (gcd ls)).1 (λ i h. gcd_divides ls f (get_or ls i 0) (get_d_member ls i 0 (omega arith)))) in
    omega arith

-- The distance up to the least multiple.
pub distance_whole : (g n : ℕ) → 0 < g → n % g ≡ 0 → 0 ≡ next_multiple g n - n
distance_whole g n h e = let l = multiple_least g n n h (dvd_of_mod-eq-zero g e) (omega arith) in omega arith

pub distance_rest : (g n : ℕ) → 0 < g → 0 < n % g → g - n % g ≡ next_multiple g n - n
distance_rest g n h p =
    let q = n / g in
    let a = div-add-mod' n g in
    let b = mod-lt n {m = g} h in
    let s : suc q * g ≡ q * g + g = suc-mul q g in
    let up : next_multiple g n ≤ suc q * g = multiple_least g n (suc q * g) h (dvd-mul_left g (suc q)) (omega arith) in
    let Q = next_multiple g n / g in
    let c : Q * g ≡ next_multiple g n = div-mul_cancel g (multiple_divided g n) in
    let f = multiple_from g n h in
    let d : q < Q = lt_of_mul-lt-mul_right g {m = q} {n = Q} (omega arith) in
    let k : suc q * g ≤ Q * g = mul-le-mul_right g d in
    omega arith
