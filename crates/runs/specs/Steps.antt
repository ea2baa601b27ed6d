-- What the steps of the sweep ask and give: the room in the arrays, the fall of the level up to a station, one envelope more, all envelopes.
-- Assumes nothing.
use Rattle.std.specs.Prelude.{◌≡◌, ℕ, zero, suc, ◌+◌, ◌*◌, ◌<◌, ◌≤◌, List, [], ◌∷◌, length, drop, slice_index}
use Rattle.runs.specs.declared.Stretch.{Stretch}
use Rattle.runs.specs.RunList.{last_station}
use Rattle.runs.specs.Breaks.{Break, breaks_to}
use Rattle.runs.specs.Keys.{envelope_of}
use Rattle.runs.specs.Sorted.{RisingKeys}
use Rattle.runs.specs.Sweep.{Sound, Raised, distinct_to, SweptTo}

-- Places for break points: there is one for a level beside each for a start.
abbrev pub Places : (starts levels : List ℕ) → Type 0
Places starts levels = length starts ≤ length levels

-- Each top to which the level will fall takes a place: beside those and the ones in use, `free` places are left.
pub record Room (free : ℕ) (starts levels tops : List ℕ) (count level : ℕ) : Type 0 where
  pub places : Places starts levels
  pub within : count + distinct_to tops level + free ≤ length starts

-- The break points go on up to s.
pub record Drained (tops : List ℕ) (s count level : ℕ) (bs : List Break) (count' level' : ℕ) (bs' : List Break) : Type 0 where
  pub within : count' + distinct_to tops level' ≤ count + distinct_to tops level
  pub stands : (es : List Stretch) (G u : ℕ) → u ≤ s → SweptTo es G u tops level bs → SweptTo es G s tops level' bs'

-- The break points go on up to s, where an envelope of level l starts, whatever its end is.
abbrev pub Stepped : (tops : List ℕ) (s l G level : ℕ) (bs : List Break) (level' : ℕ) (bs' : List Break) → Type 0
Stepped tops s l G level bs level' bs' =
    (es : List Stretch) (u e : ℕ) (tops' : List ℕ) → u ≤ s → SweptTo es G u tops level bs → Sound (record { start = s; end = e; level = l })
    → Raised l e tops tops'
    → SweptTo (record { start = s; end = e; level = l } ∷ es) G s tops' level' bs'

-- The envelopes of the first n keys, last one first.
unfoldable pub envelopes_to : (keys ends : List ℕ) (n : ℕ) → List Stretch
envelopes_to keys ends zero = []
envelopes_to keys ends (suc n) = envelope_of ends (slice_index keys n) ∷ envelopes_to keys ends n

-- The first n keys rise, and are those of sound envelopes.
pub record Sweepable (keys ends : List ℕ) (n : ℕ) : Type 0 where
  pub key_places : length keys ≡ 256
  pub end_places : length ends ≡ 256
  pub few : n ≤ 256
  pub rising : RisingKeys keys n
  pub sound : (i : ℕ) → i < n → Sound (envelope_of ends (slice_index keys i))

-- The break points of the required level up to the last station.
pub record Swept (keys ends : List ℕ) (n G : ℕ) (starts levels : List ℕ) (count : ℕ) : Type 0 where
  pub within : count ≤ n * 2
  pub tops : List ℕ
  pub level : ℕ
  pub stands : SweptTo (envelopes_to keys ends n) G last_station tops level (breaks_to starts levels count)

-- The same in the first places, two for each envelope, of starts that may have more: those behind stay as they were.
pub record SweptFront (keys ends : List ℕ) (n G : ℕ) (starts starts' levels' : List ℕ) (count : ℕ) : Type 0 where
  pub swept : Swept keys ends n G starts' levels' count
  pub as_long : length starts' ≡ length starts
  pub behind : drop (n * 2) starts' ≡ drop (n * 2) starts
