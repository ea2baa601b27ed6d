-- Whole numbers in floats: casts are exact up to 2 ^ prec, which is 2 ^ 53 in 64 bits, and sums and differences of casts are the casts of the
-- integers' own.
-- Assumes nothing.
use Prim.Native.Nat.{ℕ, zero, suc, ◌+◌, ◌-◌, ◌*◌, ◌^◌, ◌≤◌, ◌<◌}
use native.Mathlib.Nat.{mul-one, mul_comm, mul_assoc, add-mul, mul-sub, mul-pos, mul-lt-mul_of_pos_right, mul-le-mul_right, eq_of_mul-eq-mul_right, suc_inj}
use native.Mathlib.Omega.{arith}
use mathlib.Core.Path.{◌≡◌, refl, sym, ap, ◌∙◌}
use mathlib.Core.Bool.{Bool, true, false, not, ◌&&◌, cond, true≢false, false≢true}
use lib.IntN.{ℤ, pos, negsuc, neg_ℤ, nat_abs, sub_ℕ, ◌+ℤ◌, ◌-ℤ◌}
use lib.Dec.{T, ltb, ltb→lt, nltb→le, le→leb}
use lib.Ieee.{Float, nan, inf, fin, Format, prec, up, down, round, neg, add, sub, sum, of_int, in_float, fits}
use lib.Ieee.Fits.{down_pos, of_int-fits}
use lib.Ieee.Exact.{HasValue}
use lib.Ieee.Scale.{round_same}
use lib.Ieee.Back.{round_whole, whole_unique}
use borrow.Author.Tests.{lt-ltb, le-ltb}
use Rattle.corners.specs.Whole.{below_zero, Whole}

-- Casts

-- An integer up to 2 ^ prec may be cast, and the cast is exact.
pub cast_defined : (f : Format) (n : ℕ) → n ≤ 2 ^ prec f → T (in_float f (pos n))
unfolding in_float
cast_defined f n l = le→leb n (2 ^ prec f) l

pub cast_exact : (f : Format) (z : ℤ) → nat_abs z ≤ 2 ^ prec f → Whole (of_int f z) z
unfolding of_int
cast_exact f (pos n) l = record { value = round_whole f false n l }
cast_exact f (negsuc n) l = record { value = round_whole f true (suc n) l }

-- Sums

-- The library's `sum` is ±a / c + ±b / c, rounded once: over a common divisor it is that of the numbers themselves.
ltb_scale : (a b c : ℕ) → 0 < c → ltb (a * c) (b * c) ≡ ltb a b
ltb_scale a b c some = go (ltb a b) (ltb→lt a b) (nltb→le a b)
  where
    go : (t : Bool) → (T t → a < b) → (T (not t) → b ≤ a) → ltb (a * c) (b * c) ≡ t
    go true l k = lt-ltb (a * c) (b * c) (mul-lt-mul_of_pos_right (l tt) some)
    go false l k = le-ltb (a * c) (b * c) (mul-le-mul_right c (k tt))

sub_scale : (a b c : ℕ) → a * c - b * c ≡ (a - b) * c
sub_scale a b c = rw (mul_comm a c, mul_comm b c, ← mul-sub c a b) (mul_comm c (a - b))

round_scale : (f : Format) (s : Bool) (a c : ℕ) → 0 < c → round f s (a * c) c ≡ round f s a 1
round_scale f s a c some = round_same f s (a * c) c a 1 some (omega arith) (mul-one (a * c))

sum_scale : (f : Format) (s : Bool) (a : ℕ) (t : Bool) (b c : ℕ) → 0 < c → sum f s (a * c) t (b * c) c ≡ sum f s a t b 1
unfolding sum
sum_scale f s a t b c some =
    rw (
      ltb_scale a b c some,
      ltb_scale b a c some,
      ← add-mul a b c,
      sub_scale a b c,
      sub_scale b a c,
      round_scale f s (a + b) c some,
      round_scale f t (b - a) c some,
      round_scale f (s && ltb b a) (a - b) c some,
    )

-- m / e is a and n / d is b: their numerators over e * d.
over_left : (m d e a : ℕ) → m * 1 ≡ a * e → m * d ≡ a * (e * d)
over_left m d e a p = ap (λ (k : ℕ). k * d) (sym (mul-one m) ∙ p) ∙ mul_assoc a e d

-- The sum of two floats that are whole numbers, as signs and sizes.
add_at : (f : Format) (x y : Float) (s t : Bool) (a b : ℕ) → HasValue x s a 1 → HasValue y t b 1 → add f x y ≡ sum f s a t b 1
unfolding add
add_at f nan y s t a b h k = absurd h
add_at f (inf u) y s t a b h k = absurd h
add_at f (fin u m e) nan s t a b h k = absurd k
add_at f (fin u m e) (inf v) s t a b h k = absurd k
add_at f (fin u m e) (fin v n d) s t a b h k =
    rw (h.0, k.0, over_left (m * up e) (down d) (down e) a h.1, over_left (n * up d) (down e) (down d) b k.1, mul_comm (down d) (down e))
    (sum_scale f s a t b (down e * down d) (mul-pos (down_pos e) (down_pos d)))

-- A sign and a size as an integer; both signs of 0 are 0.
abbrev signed : (below : Bool) (size : ℕ) → ℤ
signed false n = pos n
signed true n = neg_ℤ (pos n)

-- A whole number and a signed one, summed: the float of the integers' sum, as the first has no negative zero.
sum_integer : (f : Format) (z : ℤ) (t : Bool) (n : ℕ) → sum f (below_zero z) (nat_abs z) t n 1 ≡ of_int f (z +ℤ signed t n)
unfolding sum of_int
sum_integer f (pos a) false n = refl
sum_integer f (pos a) true zero = rw (le-ltb a 0 (omega arith)) (ap (λ (k : ℕ). round f false k 1) (omega arith))
sum_integer f (pos a) true (suc n) = go (ltb a (suc n)) (ltb→lt a (suc n))
  where
    go : (t : Bool) → (T t → a < suc n) → cond t (round f true (suc n - a) 1) (round f false (a - suc n) 1)
        ≡ of_int f (cond t (negsuc (suc n - suc a)) (pos (a - suc n)))
    go true l = let less = l tt in ap (λ (k : ℕ). round f true k 1) (let e : suc n - a ≡ suc (suc n - suc a) = omega arith in e)
    go false l = refl
sum_integer f (negsuc a) false n = go (ltb (suc a) n) (ltb n (suc a)) (ltb→lt (suc a) n) (nltb→le (suc a) n) (ltb→lt n (suc a)) (nltb→le n (suc a))
  where
    go : (t u : Bool) → (T t → suc a < n) → (T (not t) → n ≤ suc a) → (T u → n < suc a) → (T (not u) → suc a ≤ n)
        → cond t (round f false (n - suc a) 1) (round f u (suc a - n) 1) ≡ of_int f (cond u (negsuc (suc a - suc n)) (pos (n - suc a)))
    go true true l k m o = absurd (let less = l tt in let more = m tt in omega arith)
    go true false l k m o = refl
    go false true l k m o = let more = m tt in ap (λ (i : ℕ). round f true i 1) (let e : suc a - n ≡ suc (suc a - suc n) = omega arith in e)
    go false false l k m o = let least = k tt in let most = o tt in ap (λ (i : ℕ). round f false i 1) (let e : suc a - n ≡ n - suc a = omega arith in e)
sum_integer f (negsuc a) true zero =
    rw (lt-ltb 0 (suc a) (omega arith)) (ap (λ (k : ℕ). round f true k 1) (let e : suc a + 0 ≡ suc (suc a - 1) = omega arith in e))
sum_integer f (negsuc a) true (suc n) = ap (λ (k : ℕ). round f true k 1) (let e : suc a + suc n ≡ suc (suc (a + n)) = omega arith in e)

signed_whole : (z : ℤ) → (signed (below_zero z) (nat_abs z) ≡ z) × (signed (not (below_zero z)) (nat_abs z) ≡ neg_ℤ z)
signed_whole (pos n) = (refl, refl)
signed_whole (negsuc n) = (refl, refl)

neg_at : (x : Float) (s : Bool) (n : ℕ) → HasValue x s n 1 → HasValue (neg x) (not s) n 1
unfolding neg
neg_at nan s n h = h
neg_at (inf u) s n h = h
neg_at (fin u m e) s n h = (ap not h.0, h.1)

-- A sum and a difference of casts, each of an integer up to 2 ^ prec, is rounded once, from the exact number: it is the cast of that.
module _ (f : Format) (a b : ℤ) (l : nat_abs a ≤ 2 ^ prec f) (m : nat_abs b ≤ 2 ^ prec f) where
  abbrev whole_a : Whole (of_int f a) a
  whole_a = cast_exact f a l

  abbrev whole_b : Whole (of_int f b) b
  whole_b = cast_exact f b m

  pub add_cast : add f (of_int f a) (of_int f b) ≡ of_int f (a +ℤ b)
  add_cast = add_at f (of_int f a) (of_int f b) _ _ _ _ whole_a.value whole_b.value ∙ sum_integer f a (below_zero b) (nat_abs b)
      ∙ ap (λ (z : ℤ). of_int f (a +ℤ z)) (signed_whole b).0

  pub sub_cast : sub f (of_int f a) (of_int f b) ≡ of_int f (a -ℤ b)
  unfolding sub
  sub_cast =
      add_at f (of_int f a) (neg (of_int f b)) _ _ _ _ whole_a.value (neg_at (of_int f b) _ _ whole_b.value) ∙ sum_integer f a (not (below_zero b)) (nat_abs b)
      ∙ ap (λ (z : ℤ). of_int f (a +ℤ z)) (signed_whole b).1

-- Sizes

-- A sum is no greater than its parts together, and so is a difference.
sub_size : (a b : ℕ) → nat_abs (sub_ℕ a b) ≤ a + b
sub_size a b = go (ltb a b) (ltb→lt a b)
  where
    go : (t : Bool) → (T t → a < b) → nat_abs (cond t (negsuc (b - suc a)) (pos (a - b))) ≤ a + b
    go true l = let less = l tt in omega arith
    go false l = omega arith

add_size : (a b : ℤ) → nat_abs (a +ℤ b) ≤ nat_abs a + nat_abs b
add_size (pos a) (pos b) = omega arith
add_size (pos a) (negsuc b) = sub_size a (suc b)
add_size (negsuc a) (pos b) = omega (arith, sub_size b (suc a))
add_size (negsuc a) (negsuc b) = omega arith

neg_size : (b : ℤ) → nat_abs (neg_ℤ b) ≡ nat_abs b
neg_size (pos zero) = refl
neg_size (pos (suc b)) = refl
neg_size (negsuc b) = refl

pub difference_size : (a b : ℤ) → nat_abs (a -ℤ b) ≤ nat_abs a + nat_abs b
difference_size a b = rw neg_size at (add_size a (neg_ℤ b))

-- What `Whole` says

same_integer : (a b : ℤ) → below_zero a ≡ below_zero b → nat_abs a ≡ nat_abs b → a ≡ b
same_integer (pos a) (pos b) p q = ap pos q
same_integer (pos a) (negsuc b) p q = absurd (false≢true p)
same_integer (negsuc a) (pos b) p q = absurd (true≢false p)
same_integer (negsuc a) (negsuc b) p q = ap negsuc (suc_inj q)

-- A float is at most one whole number.
pub whole_one : {x : Float} {a b : ℤ} → Whole x a → Whole x b → a ≡ b
whole_one {x} {a} {b} h k = go x h.value k.value
  where
    go : (x : Float) → HasValue x (below_zero a) (nat_abs a) 1 → HasValue x (below_zero b) (nat_abs b) 1 → a ≡ b
    go nan p q = absurd p
    go (inf s) p q = absurd p
    go (fin s m e) p q = same_integer a b (sym p.0 ∙ q.0) (eq_of_mul-eq-mul_right (down e) (down_pos e) (nat_abs a) (nat_abs b) (sym p.1 ∙ q.1))

-- And one value alone of the format is that number: the one that a cast gives.
pub whole_is : (f : Format) {x : Float} {z : ℤ} → T (fits f x) → nat_abs z ≤ 2 ^ prec f → Whole x z → x ≡ of_int f z
whole_is f {x} {z} fit l h = whole_unique f x (of_int f z) (below_zero z) (nat_abs z) fit (of_int-fits f z) h.value (cast_exact f z l).value
