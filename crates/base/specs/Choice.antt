-- Tests over a list.
-- Assumes nothing.
use Rattle.std.specs.Prelude.{◌≡◌, Bool, true, false, ◌&&◌, ◌||◌}
use mathlib.Core.Bool.{cond}
use mathlib.Core.List.{List, [], ◌∷◌, Memᴰ}

module _ {ℓ} {A : Type ℓ} where
  -- some element passes the test
  unfoldable pub some_of : (A → Bool) → List A → Bool
  some_of p [] = false
  some_of p (x ∷ xs) = p x || some_of p xs

  -- every element passes the test
  unfoldable pub all_of : (A → Bool) → List A → Bool
  all_of p [] = true
  all_of p (x ∷ xs) = p x && all_of p xs

  -- the elements that pass the test
  unfoldable pub filter : (A → Bool) → List A → List A
  filter p [] = []
  filter p (x ∷ xs) = let r = filter p xs in cond (p x) (x ∷ r) r

module _ {A : Type 0} where
  -- an element of a list that passes the test
  pub record Passing (p : A → Bool) (l : List A) : Type 0 where
    pub one : A
    pub member : Memᴰ one l
    pub passes : p one ≡ true
