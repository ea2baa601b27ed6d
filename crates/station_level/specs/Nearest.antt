-- What one pass over envelopes keeps for a station, and what it says of a level.
-- Assumes nothing.
use Rattle.std.specs.Prelude.{ℕ, ◌+◌, ◌≤◌, ◌<◌, ◌≡◌, ◌≢◌, Bool, ◌&&◌, ◌||◌, get_or, ltb}
use mathlib.Core.List.{List, Memᴰ}
use Rattle.runs.specs.declared.Stretch.{Stretch}
use Rattle.station_level.specs.declared.nearest.Nearest.{Nearest}
use Rattle.runs.specs.Level.{required_level}

-- x is the extreme, by an order, of a number of the envelopes of a set: none goes beyond it, and one has it, or it is `none`.
pub record Extreme (Within : ℕ → ℕ → Type 0) (none : ℕ) (number : Stretch → ℕ) (S : Stretch → Type 0) (x : ℕ) : Type 0 where
  pub each : (e : Stretch) → S e → Within (number e) x
  pub one : x ≢ none → (e : Stretch) × S e × (number e ≡ x)

-- The envelopes of a list that pass P, of the levels L.
abbrev pub Sought : (es : List Stretch) (P : Stretch → Type 0) (L : ℕ → Type 0) → Stretch → Type 0
Sought es P L e = Memᴰ e es × L e.level × P e

-- Of those that start at or before t the last end, 0 for none.
abbrev pub LastEnd : (es : List Stretch) (t : ℕ) (L : ℕ → Type 0) (x : ℕ) → Type 0
LastEnd es t L x = Extreme (λ (a b : ℕ). a ≤ b) 0 (λ (e : Stretch). e.end) (Sought es (λ (e : Stretch). e.start ≤ t) L) x

-- Of those that start behind t the first start; for none a number that is no start.
abbrev pub no_start : ℕ
no_start = 18446744073709551615

abbrev pub FirstStart : (es : List Stretch) (t : ℕ) (L : ℕ → Type 0) (x : ℕ) → Type 0
FirstStart es t L x = Extreme (λ (a b : ℕ). b ≤ a) no_start (λ (e : Stretch). e.start) (Sought es (λ (e : Stretch). t < e.start) L) x

-- What was kept of envelopes for the station t, for each level.
pub record NearestOf (es : List Stretch) (t : ℕ) (near : Nearest) : Type 0 where
  pub ends : (v : ℕ) → v ≤ 6 → LastEnd es t (λ (l : ℕ). l ≡ v) (get_or near.ends v 0)
  pub starts : (v : ℕ) → v ≤ 6 → FirstStart es t (λ (l : ℕ). l ≡ v) (get_or near.starts v 0)

-- With this last end and this first start: t is in an envelope, or between the end of one and the start of another that are less than G apart.
abbrev pub has_station : (end start G t : ℕ) → Bool
has_station end start G t = ltb t end || (ltb 0 end && ltb start (end + G))

-- The levels above v are tried: none of them has the station.
pub record ReadTo (es : List Stretch) (G t v end start : ℕ) : Type 0 where
  pub ends : LastEnd es t (λ (l : ℕ). v < l) end
  pub starts : FirstStart es t (λ (l : ℕ). v < l) start
  pub level : required_level es G t ≤ v
