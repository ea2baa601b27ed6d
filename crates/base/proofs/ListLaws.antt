-- Lists: what follows a part of one, the member at an index, and what every member satisfies, with one member more.
-- Assumes nothing.
use Prim.Native.Nat.{ℕ, zero, suc, ◌+◌, ◌<◌}
use native.Mathlib.Omega.{arith}
use mathlib.Core.Path.{◌≡◌, refl, sym, ◌∙◌}
use mathlib.Core.Logic.{◌⊎◌, inl, inr}
use mathlib.Core.List.Memᴰ
use mathlib.Core.List.{List, [], ◌∷◌, ◌++◌, Memᴰ}
use lib.ListN.{length, get_or, drop}
use lib.Seq.{drop-drop, drop-append_seam}

pub drop_after : {A : Type 0} (s : List A) (at : ℕ) (w rest : List A) → drop at s ≡ w ++ rest → drop (at + length w) s ≡ rest
drop_after s at w rest e = sym (drop-drop (length w) at s) ∙ rw e (drop-append_seam w rest)

pub get_d_member : {A : Type 0} (l : List A) (i : ℕ) (d : A) → i < length l → Memᴰ (get_or l i d) l
get_d_member [] i d h = absurd (omega arith)
get_d_member (x ∷ xs) zero d h = Memᴰ.head refl
get_d_member (x ∷ xs) (suc i) d h = Memᴰ.tail (get_d_member xs i d (omega arith))

module _ {A : Type 0} (P : A → Type 0) where
  pub cons_each : {y : A} {l : List A} → P y → ((z : A) → Memᴰ z l → P z) → (z : A) → Memᴰ z (y ∷ l) → P z
  cons_each {y} {l} one all z m = go (Memᴰ.cases_cons m)
    where
      go : (z ≡ y) ⊎ Memᴰ z l → P z
      go (inl e) = rw e one
      go (inr k) = all z k

  pub snoc_each : (l : List A) {y : A} → ((z : A) → Memᴰ z l → P z) → P y → (z : A) → Memᴰ z (l ++ y ∷ []) → P z
  snoc_each l {y} all one z m = go (Memᴰ.append_cases l m)
    where
      go : Memᴰ z l ⊎ Memᴰ z (y ∷ []) → P z
      go (inl k) = all z k
      go (inr k) = rw (Memᴰ.eq_of_singleton k) one
