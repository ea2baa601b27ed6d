-- Stored forms: a list in an array, and what stands beside an outcome.
-- Assumes nothing.
use Rattle.std.specs.Prelude.{ℕ, ◌-◌, List, ◌++◌, length, replicate}
use Rattle.base.specs.Answer.{Answer, accepted, refused}

module _ {A : Type 0} where
  -- A list in an array of n places: `none` in every place behind it.
  abbrev pub padded : (n : ℕ) (none : A) → List A → List A
  padded n none l = l ++ replicate (n - length l) none

  -- The value that was accepted; `none` beside a refusal.
  abbrev pub accepted_or : (none : A) → Answer A → A
  accepted_or none (accepted a) = a
  accepted_or none (refused k v) = none
