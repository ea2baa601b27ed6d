-- The sweep over envelopes in order of their starts: what it knows after some of them.
-- Assumes nothing.
use Rattle.std.specs.Prelude.{◌≡◌, ℕ, zero, suc, ◌+◌, ◌-◌, ◌*◌, ◌<◌, ◌≤◌, min, max, Bool, true, List, length, nat_le, nat_lt, slice_index, if◌then◌else◌}
use Rattle.std.specs.Int.{from_bool}
use mathlib.Core.List.{Memᴰ}
use Rattle.runs.specs.declared.Stretch.{Stretch}
use Rattle.runs.specs.Level.{required_level}
use Rattle.runs.specs.RunList.{last_station}
use Rattle.runs.specs.Breaks.{Break, break_level, Shape, set_from}

-- An envelope of a job: it has a millimetre, ends by the last station, and its level is 1 to 6.
pub record Sound (e : Stretch) : Type 0 where
  pub long : e.start < e.end
  pub ends : e.end ≤ last_station
  pub low : 1 ≤ e.level
  pub top : e.level ≤ 6

abbrev pub AllSound : List Stretch → Type 0
AllSound es = (e : Stretch) → Memᴰ e es → Sound e

-- An envelope of level v or higher that ends at x.
pub record Ending (es : List Stretch) (v x : ℕ) : Type 0 where
  pub one : Stretch
  pub member : Memᴰ one es
  pub high : v ≤ one.level
  pub there : one.end ≡ x

-- The greatest end of the envelopes of level v or higher; 0 where there are none.
pub record Top (es : List Stretch) (v x : ℕ) : Type 0 where
  pub most : (e : Stretch) → Memᴰ e es → v ≤ e.level → e.end ≤ x
  pub met : 0 < x → Ending es v x

-- How many of the levels 1 to n have a top above t.
unfoldable pub above_to : (tops : List ℕ) (t n : ℕ) → ℕ
above_to tops t zero = 0
above_to tops t (suc n) = above_to tops t n + from_bool (nat_lt t (slice_index tops (suc n)))

-- The levels that have a top above t are those up to c.
pub record Above (tops : List ℕ) (t c : ℕ) : Type 0 where
  pub low : (v : ℕ) → 1 ≤ v → v ≤ c → t < slice_index tops v
  pub high : (v : ℕ) → t < slice_index tops v → v ≤ c

-- The tops after one envelope more, which ends at e, at level l.
abbrev pub raised_top : (l e v x : ℕ) → ℕ
raised_top l e v x = if nat_le v l then max x e else x

abbrev pub Raised : (l e : ℕ) (tops tops' : List ℕ) → Type 0
Raised l e tops tops' = (v : ℕ) → slice_index tops' v ≡ raised_top l e v (slice_index tops v)

-- No top is above that of a lower level.
abbrev pub Falling : List ℕ → Type 0
Falling tops = (v w : ℕ) → v ≤ w → slice_index tops w ≤ slice_index tops v

-- Level n + 1 has another top than level n.
abbrev pub fresh : (tops : List ℕ) (n : ℕ) → Bool
fresh tops zero = true
fresh tops (suc n) = nat_lt (slice_index tops (suc (suc n))) (slice_index tops (suc n))

-- How many different tops the levels 1 to n have. So often the level will fall.
unfoldable pub distinct_to : (tops : List ℕ) (n : ℕ) → ℕ
distinct_to tops zero = 0
distinct_to tops (suc n) = distinct_to tops n + from_bool (fresh tops n)

-- Envelopes that have begun by station u, and their tops.
pub record Begun (es : List Stretch) (u : ℕ) (tops : List ℕ) : Type 0 where
  pub sound : AllSound es
  pub by : (e : Stretch) → Memᴰ e es → e.start ≤ u
  pub top : (v : ℕ) → Top es v (slice_index tops v)

-- A sweep at station u, past the starts of these envelopes: their tops, the level at u, the break points up to u, of which there will be at most two for each
-- envelope.
pub record SweptTo (es : List Stretch) (G u : ℕ) (tops : List ℕ) (level : ℕ) (bs : List Break) : Type 0 where
  pub begun : Begun es u tops
  pub above : Above tops u level
  pub shape : Shape (suc u) bs
  pub shows : (t : ℕ) → t ≤ u → break_level bs t ≡ required_level es G t
  pub room : length bs + distinct_to tops level ≤ 2 * length es

-- The break points with the gap before a new envelope filled: from the top of level v on, where v is above the level that stands.
unfoldable pub filled_from : (tops : List ℕ) (level v : ℕ) → List Break → List Break
filled_from tops level v bs = if nat_lt level v then set_from (slice_index tops v) v bs else bs

-- The break points with an envelope from s at level l that is above the level that stands.
unfoldable pub lifted : (tops : List ℕ) (level s l G : ℕ) → List Break → List Break
lifted tops level s l G bs = set_from s l (filled_from tops level (min (above_to tops (s - G) 6) l) bs)
