-- Bytes, a number that stands among them, and what is wrong where none can be read: rows 1 and 2 of document 01's table of refusals.
-- Assumes nothing.
use Rattle.std.specs.Prelude.{ℕ, ◌+◌, ◌≤◌, ◌<◌, ◌≡◌, length, drop}
use mathlib.Core.List.{List, ◌++◌, Memᴰ}
use Rattle.number.specs.declared.Reading.{Reading}
use Rattle.number.specs.Number.{write_number, most_groups, greatest_number, group_count, whole, scan}

-- A list of bytes.
abbrev pub Bytes : List ℕ → Type 0
Bytes s = (x : ℕ) → Memᴰ x s → x < 256

-- A number stands at an index as its writing, and it fits.
pub record WrittenAt (s : List ℕ) (at : ℕ) (r : Reading) : Type 0 where
  pub fits : r.value ≤ greatest_number
  pub next : r.next ≡ at + length (write_number r.value)
  pub split : drop at s ≡ write_number r.value ++ drop r.next s

-- Bytes that all have the top bit: none of them ends a number.
abbrev pub TopBits : List ℕ → Type 0
TopBits s = (x : ℕ) → Memᴰ x s → 128 ≤ x

-- 1: "job bytes end before or inside a number".
pub record EndsInside (s : List ℕ) : Type 0 where
  pub few : length s < most_groups
  pub unended : TopBits s

-- 2: "refusal 2 now looks at the sixth byte and no longer at the value": its sixth byte has the top bit set, or "it isn't in shortest form": its
-- groups are not as many as its bits need.
pub data IllFormed (s : List ℕ) : Type 0 where
  sixth : (six rest : List ℕ) → s ≡ six ++ rest → length six ≡ most_groups → TopBits six → IllFormed s
  long : (value groups : ℕ) → scan most_groups s ≡ whole value groups → (groups ≡ group_count value → ⊥) → IllFormed s
