-- The call quantity: its complete reply.
-- Assumes nothing.
use Rattle.std.specs.Prelude.{ℕ, ◌-◌, ◌≤◌, ◌&&◌, List, leb, eqb}
use Rattle.base.specs.Answer.{Answer, accepted, ◌>>=◌}
use Rattle.refusal.specs.Refusal.{unless_refuse}
use Rattle.refusal.specs.declared.Refusal.TheVariants as Row
use Rattle.runs.specs.RunList.{shown_level}
use Rattle.runs.specs.Count.{count_from}
use Rattle.schedule.specs.Schedule.{read_schedule}

-- "How many millimetres of [p, q) have exactly that level."
unfoldable pub millimetres : (f : ℕ → ℕ) → (level p q : ℕ) → ℕ
millimetres f level p q = count_from (λ (t : ℕ). eqb (f t) level) p (q - p)

-- What 8 asks of a level and a range: level 1 to 6, and no p > q.
abbrev pub Ranged : (level p q : ℕ) → Type 0
Ranged level p q = (1 ≤ level) × (level ≤ 6) × (p ≤ q)

-- "8, then 10."
unfoldable pub quantity : (s : List ℕ) (level p q : ℕ) → Answer ℕ
quantity s level p q =
    unless_refuse (leb 1 level && leb level 6 && leb p q) Row.Argument >>= λ _.
    read_schedule s >>= λ rs.
    accepted (millimetres (shown_level rs) level p q)
