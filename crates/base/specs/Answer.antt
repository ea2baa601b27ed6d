-- An answer that may be a refusal. The order of the tests is the order of the refusals.
-- Assumes nothing.
use Rattle.std.specs.Prelude.{ℕ, Bool, true, false}

-- A value, or a refusal: its number in the table of refusals, and what is returned with it.
pub data Answer (A : Type 0) : Type 0 where
  accepted : A → Answer A
  refused : (number value : ℕ) → Answer A

module _ {A B : Type 0} where
  -- What follows an answer; a refusal stays.
  infixl 15 ◌>>=◌
  abbrev pub ◌>>=◌ : Answer A → (A → Answer B) → Answer B
  accepted a >>= f = f a
  refused k v >>= f = refused k v

abbrev pub is_accepted : {A : Type 0} → Answer A → Bool
is_accepted (accepted a) = true
is_accepted (refused k v) = false

-- A call that is done returns 0: its answer without the value.
abbrev pub replied : {A : Type 0} → Answer A → Answer ℕ
replied a = a >>= λ _. accepted 0
