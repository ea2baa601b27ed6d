-- A list in an array: one element more, and nothing behind the last.
-- Assumes nothing.
use Prim.Native.Nat.{ℕ, zero, suc, ◌-◌, ◌<◌}
use native.Mathlib.Omega.{arith}
use mathlib.Core.Path.{◌≡◌, sym, ◌∙◌}
use mathlib.Core.List.{List, [], ◌∷◌, ◌++◌, append_assoc}
use lib.ListN.{length, set, replicate, length-append}
use lib.Seq.{set-append_seam, set_out}
use Rattle.base.specs.Stored.{padded}

module _ {A : Type 0} (n : ℕ) (none : A) (l : List A) where
  -- The element behind the last, stored.
  pub padded_more : (a : A) → length l < n → set (padded n none l) (length l) a ≡ padded n none (l ++ a ∷ [])
  padded_more a h =
      let left : n - length l ≡ suc (n - length (l ++ a ∷ [])) = omega (arith, length-append l (a ∷ [])) in
      rw left (set-append_seam l none _ a ∙ sym (append_assoc l (a ∷ []) _))

  -- The place behind the last is clear.
  pub padded_clear : set (padded n none l) (length l) none ≡ padded n none l
  padded_clear = go (n - length l)
    where
      go : (m : ℕ) → set (l ++ replicate m none) (length l) none ≡ l ++ replicate m none
      go zero = set_out (l ++ []) (length l) none (omega (arith, length-append l []))
      go (suc m) = set-append_seam l none (replicate m none) none
