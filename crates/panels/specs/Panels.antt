-- Panels for one run: the floor, the reply, and refusals 16 and 17. Document 02, request 13.
-- Assumes nothing.
use Rattle.std.specs.Prelude.{ℕ, zero, suc, ◌-◌, ◌%◌, Bool, ◌||◌, not, List, [], ◌∷◌, length, ltb, eqb, if◌then◌else◌}
use Rattle.base.specs.Choice.{some_of, all_of}
use Rattle.base.specs.Least.{next_multiple}
use Rattle.base.specs.Answer.{Answer, accepted, ◌>>=◌}
use Rattle.refusal.specs.Refusal.{unless_refuse}
use Rattle.refusal.specs.declared.Refusal.TheVariants as Row
use Rattle.panels.specs.Layout.{BestLayout, tried, best}

-- The floor

-- The greatest number from 1 to n that passes a test, 0 where none does.
unfoldable pub greatest : (ℕ → Bool) → (n : ℕ) → ℕ
greatest p zero = 0
greatest p (suc n) = if p (suc n) then suc n else greatest p n

unfoldable pub divides_all : (lengths : List ℕ) (d : ℕ) → Bool
divides_all lengths d = all_of (λ l. eqb (l % d) 0) lengths

-- "The lengths' greatest common divisor": sought from the first length down, since no divisor of a length exceeds that length (laws
-- gcd_divides, gcd_greatest).
unfoldable pub gcd : (lengths : List ℕ) → ℕ
gcd [] = 0
gcd (l ∷ ls) = greatest (divides_all (l ∷ ls)) l

-- "The floor is the distance from the run's length up to the least multiple, not below it, of the lengths' greatest common divisor" (law
-- panels_given).
unfoldable pub floor : (lengths : List ℕ) (run : ℕ) → ℕ
floor lengths run = next_multiple (gcd lengths) run - run

-- The call

-- "The smallest overrun among those tried, its first layout, the tries made, and the floor"; none "still carries tries and floor".
pub record Panels : Type 0 where
  pub best : BestLayout
  pub tries : ℕ
  pub floor : ℕ

-- "Up to four panel lengths, each 1 to 20,000."
abbrev pub most_lengths : ℕ
most_lengths = 4

abbrev pub out_of_range : (length : ℕ) → Bool
out_of_range l = ltb l 1 || ltb 20000 l

-- "No length, over four, or one out of range is 16, tested first; a limit of 0 or above 65,536 is 17, next." Both return 0.
unfoldable pub panels_for : (lengths : List ℕ) (run limit : ℕ) → Answer Panels
panels_for lengths run limit =
    unless_refuse (not (eqb (length lengths) 0 || ltb most_lengths (length lengths) || some_of out_of_range lengths)) Row.Lengths >>= λ _.
    unless_refuse (not (eqb limit 0 || ltb 65536 limit)) Row.Tries >>= λ _.
    let those = tried lengths limit in
    accepted (record { best = best lengths run those; tries = length those; floor = floor lengths run })
