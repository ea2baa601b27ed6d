-- Lists by index: at which index a member stands, what a store leaves, what a list of zeros has.
-- Assumes nothing.
use Rattle.std.proofs.Common.{◌≡◌, ℕ, zero, suc, ◌+◌, ◌<◌, ◌≢◌, ◌⊎◌, List, [], ◌∷◌, length, get_or, take, set, replicate, refl, ap, ◌∙◌, inl, inr, le_of_suc-le-suc, arith, get_or-set_other, get_or-set_same}
use native.Mathlib.Decide.{ℕ_discrete}
use mathlib.Core.List.Memᴰ
use mathlib.Core.List.{Memᴰ}

module _ {A : Type 0} where
  -- x is what f has at an index below n.
  pub record Indexed (f : ℕ → A) (n : ℕ) (x : A) : Type 0 where
    pub at : ℕ
    pub below : at < n
    pub is : x ≡ f at

  -- One index more.
  pub indexed_last : (f : ℕ → A) (n : ℕ) → Indexed f (suc n) (f n)
  indexed_last f n = record { at = n; below = omega arith; is = refl }

  pub indexed_more : {f : ℕ → A} {n : ℕ} {x : A} → Indexed f n x → Indexed f (suc n) x
  indexed_more w = record { at = w.at; below = omega (arith, w.below); is = w.is }

  -- The first n elements.
  pub take_indexed : {x : A} (n : ℕ) (l : List A) (d : A) → Memᴰ x (take n l) → Indexed (λ i. get_or l i d) n x
  take_indexed zero l d m = absurd (Memᴰ.not-nil m)
  take_indexed (suc n) [] d m = absurd (Memᴰ.not-nil m)
  take_indexed (suc n) (x ∷ xs) d (Memᴰ.head e) = record { at = 0; below = omega arith; is = e }
  take_indexed (suc n) (x ∷ xs) d (Memᴰ.tail m) =
      let p = take_indexed n xs d m in
      record { at = suc p.at; below = omega (arith, p.below); is = p.is }

  pub among : (l : List A) (n i : ℕ) (d : A) → i < n → i < length l → Memᴰ (get_or l i d) (take n l)
  among l zero i d h k = absurd (omega arith)
  among [] (suc n) i d h k = absurd (omega arith)
  among (x ∷ xs) (suc n) zero d h k = Memᴰ.head refl
  among (x ∷ xs) (suc n) (suc i) d h k = Memᴰ.tail (among xs n i d (le_of_suc-le-suc h) (le_of_suc-le-suc k))

-- A store, read back: at its own index, and elsewhere.
abbrev pub ReadBack : (l : List ℕ) (i x p : ℕ) → Type 0
ReadBack l i x p = ((p ≡ i) × (get_or (set l i x) p 0 ≡ x)) ⊎ ((p ≢ i) × (get_or (set l i x) p 0 ≡ get_or l p 0))

pub read_back : (l : List ℕ) (i x p : ℕ) → i < length l → ReadBack l i x p
read_back l i x p h = pick (ℕ_discrete p i)
  where
    pick : Dec (p ≡ i) → ReadBack l i x p
    pick (yes e) = inl (e, ap (λ (q : ℕ). get_or (set l i x) q 0) e ∙ get_or-set_same l i x 0 h)
    pick (no a) = inr (a, get_or-set_other l i p x 0 a)

-- What holds of the first i elements holds of one more.
pub store_next : (Q : ℕ → ℕ → Type 0) (l : List ℕ) (i x : ℕ) → i < length l → ((p : ℕ) → p < i → Q p (get_or l p 0)) → Q i x → (p : ℕ) → p < i + 1
    → Q p (get_or (set l i x) p 0)
store_next Q l i x h old new p k = go (read_back l i x p h)
  where
    go : ReadBack l i x p → Q p (get_or (set l i x) p 0)
    go (inl s) = rw (s.1, s.0) new
    go (inr s) = rw s.1 (old p (omega (arith, s.0)))

pub zeros : (n v : ℕ) → ◌≡◌ {A = ℕ} (get_or (replicate n 0) v 0) 0
zeros zero v = refl
zeros (suc n) zero = refl
zeros (suc n) (suc v) = zeros n v
