-- Tests as facts: `&&`, `||`, `some_of` and `filter`.
-- Assumes nothing.
use Rattle.std.specs.Prelude.{if◌then◌else◌}
use Prim.Native.Nat.{ℕ}
use native.Mathlib.Omega.{arith}
use mathlib.Core.Path.{◌≡◌, refl, sym, subst, ap}
use mathlib.Core.Logic.{◌⊎◌, inl, inr}
use mathlib.Core.Bool.{Bool, true, false, ◌&&◌, not, false≢true}
use borrow.Author.Tests.{not-true}
use mathlib.Core.List.Memᴰ
use mathlib.Core.List.{List, [], ◌∷◌, ◌++◌, Memᴰ}
use Rattle.std.proofs.lemmas.Bool.{or_cases, or_left, or_right}
use Rattle.base.specs.Choice.{some_of, filter, Passing}

-- Facts that contradict each other, of whatever data: `cc` finds 0 ≡ 1 in them.
pub impossible : {C : Type 0} → ◌≡◌ {A = ℕ} 0 1 → C
impossible e = absurd (omega arith)

-- two tests that pass together
pub same_test : (a b : Bool) → (a ≡ true → b ≡ true) → (b ≡ true → a ≡ true) → a ≡ b
same_test true b f g = sym (f refl)
same_test false true f g = g refl
same_test false false f g = refl

-- a failed conjunction
pub not_and : (a b : Bool) → not (a && b) ≡ true → a ≡ true → b ≡ false
not_and true b h p = not-true b h
not_and false b h p = absurd (false≢true p)

pub not_and_intro : (a b : Bool) → (a ≡ true → b ≡ false) → not (a && b) ≡ true
not_and_intro true b h = rw (h refl)
not_and_intro false b h = refl

module _ {A : Type 0} where
  pub any_elim : (p : A → Bool) (l : List A) → some_of p l ≡ true → Passing p l
  unfolding some_of
  any_elim p [] e = absurd (false≢true e)
  any_elim p (x ∷ xs) e = go (or_cases (p x) (some_of p xs) e) (any_elim p xs)
    where
      go : (p x ≡ true) ⊎ (some_of p xs ≡ true) → (some_of p xs ≡ true → Passing p xs) → Passing p (x ∷ xs)
      go (inl h) r = record { one = x; member = Memᴰ.head refl; passes = h }
      go (inr h) r = let w = r h in record { one = w.one; member = Memᴰ.tail w.member; passes = w.passes }

  pub any_intro : (p : A → Bool) {x : A} {l : List A} → Memᴰ x l → p x ≡ true → some_of p l ≡ true
  unfolding some_of
  any_intro p (Memᴰ.head {x = y} {xs = ys} e) h = or_left _ (some_of p ys) (subst (λ (z : A). p z ≡ true) e h)
  any_intro p (Memᴰ.tail {x = y} m) h = or_right (p y) _ (any_intro p m h)

  pub filter_elim : (p : A → Bool) {x : A} (l : List A) → Memᴰ x (filter p l) → Memᴰ x l × (p x ≡ true)
  unfolding filter
  filter_elim p [] m = absurd (Memᴰ.not-nil m)
  filter_elim p {x} (y ∷ ys) m = go (p y) refl m (filter_elim p ys)
    where
      here : p y ≡ true → (x ≡ y) ⊎ Memᴰ x (filter p ys) → (Memᴰ x (filter p ys) → Memᴰ x ys × (p x ≡ true))
          → Memᴰ x (y ∷ ys) × (p x ≡ true)
      here e (inl q) r = (Memᴰ.head q, rw q e)
      here e (inr k) r = let w = r k in (Memᴰ.tail w.0, w.1)

      go : (b : Bool) → p y ≡ b → Memᴰ x (if b then y ∷ filter p ys else filter p ys) → (Memᴰ x (filter p ys) → Memᴰ x ys × (p x ≡ true))
          → Memᴰ x (y ∷ ys) × (p x ≡ true)
      go true e k r = here e (Memᴰ.cases_cons k) r
      go false e k r = let w = r k in (Memᴰ.tail w.0, w.1)

  pub filter_intro : (p : A → Bool) {x : A} {l : List A} → Memᴰ x l → p x ≡ true → Memᴰ x (filter p l)
  unfolding filter
  filter_intro p {x} (Memᴰ.head {x = y} {xs = ys} e) h = rw (subst (λ (z : A). p z ≡ true) e h) (Memᴰ.head e)
  filter_intro p {x} (Memᴰ.tail {x = y} {xs = ys} m) h = go (p y) (filter_intro p m h)
    where
      go : (b : Bool) → Memᴰ x (filter p ys) → Memᴰ x (if b then y ∷ filter p ys else filter p ys)
      go true k = Memᴰ.tail k
      go false k = k

  pub filter_append : (p : A → Bool) (l m : List A) → filter p (l ++ m) ≡ filter p l ++ filter p m
  unfolding filter
  filter_append p [] m = refl
  filter_append p (x ∷ l) m = go (p x) (filter_append p l m)
    where
      go : (b : Bool) → filter p (l ++ m) ≡ filter p l ++ filter p m
          → (if b then x ∷ filter p (l ++ m) else filter p (l ++ m)) ≡ (if b then x ∷ filter p l else filter p l) ++ filter p m
      go true e = ap (λ (r : List A). x ∷ r) e
      go false e = e
