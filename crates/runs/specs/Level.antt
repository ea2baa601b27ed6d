-- The required level of a list of envelopes under a continuity limit.
-- Assumes nothing.
use Rattle.std.specs.Prelude.{ℕ, zero, suc, ◌+◌, ◌-◌, ◌<◌, ◌≤◌, Bool, ◌&&◌, ◌||◌, leb, ◌⊎◌, List, nat_le, nat_lt, if◌then◌else◌}
use mathlib.Core.List.{Memᴰ}
use Rattle.base.specs.Choice.{some_of, filter}
use Rattle.runs.specs.declared.Stretch.{Stretch}

-- 1. As the paper says it.

-- The stretch has the millimetre t.
abbrev pub Has : Stretch → ℕ → Type 0
Has e t = (e.start ≤ t) × (t < e.end)

-- Every envelope has a millimetre.
abbrev pub Proper : List Stretch → Type 0
Proper es = (e : Stretch) → Memᴰ e es → e.start < e.end

-- t is in an envelope of level v or higher.
pub record InSet (es : List Stretch) (v t : ℕ) : Type 0 where
  pub one : Stretch
  pub member : Memᴰ one es
  pub high : v ≤ one.level
  pub has : Has one t

-- A gap of a set: a longest stretch [x, y) without a millimetre of it that has one directly on both sides.
pub record Gap (S : ℕ → Type 0) (x y : ℕ) : Type 0 where
  pub some : x < y
  pub after_start : 0 < x
  pub before : S (x - 1)
  pub after : S y
  pub none : (t : ℕ) → x ≤ t → t < y → ¬ S t

-- t lies in a gap shorter than G.
pub record InGap (G : ℕ) (S : ℕ → Type 0) (t : ℕ) : Type 0 where
  pub from : ℕ
  pub to : ℕ
  pub gap : Gap S from to
  pub short : to - from < G
  pub lower : from ≤ t
  pub upper : t < to

-- "Add every gap shorter than G."
abbrev pub Filled : ℕ → (ℕ → Type 0) → ℕ → Type 0
Filled G S t = S t ⊎ InGap G S t

-- v is the highest level 1 to 6 whose set has t; 0 where none has.
pub record Highest (F : ℕ → Type 0) (v : ℕ) : Type 0 where
  pub top : v ≤ 6
  pub holds : 0 < v → F v
  pub above : (u : ℕ) → v < u → u ≤ 6 → ¬ F u

-- 2. The same, to compute: t is in an envelope, or between the end of one and the start of another that are less than G apart.

abbrev pub has : Stretch → ℕ → Bool
has e t = nat_le e.start t && nat_lt t e.end

abbrev pub between : ℕ → ℕ → Stretch → Stretch → Bool
between G t a b = nat_le a.end t && nat_lt t b.start && nat_lt b.start (a.end + G)

-- The envelopes of level v or higher.
abbrev pub at_least : ℕ → List Stretch → List Stretch
at_least v es = filter (λ (e : Stretch). leb v e.level) es

unfoldable pub filled : List Stretch → ℕ → ℕ → Bool
filled es G t = some_of (λ (e : Stretch). has e t) es || some_of (λ (a : Stretch). some_of (between G t a) es) es

-- The highest of the levels v, v - 1, .., 1 whose filled set has t; else 0.
unfoldable pub highest : List Stretch → ℕ → ℕ → ℕ → ℕ
highest es G t zero = 0
highest es G t (suc v) = let r = highest es G t v in if filled (at_least (suc v) es) G t then suc v else r

unfoldable pub required_level : List Stretch → ℕ → ℕ → ℕ
required_level es G t = highest es G t 6

-- 3. An assignment of levels that covers the envelopes, and one with no short gap.

-- Each envelope at its level or higher.
abbrev pub Covers : List Stretch → (ℕ → ℕ) → Type 0
Covers es f = (e : Stretch) → Memᴰ e es → (t : ℕ) → Has e t → e.level ≤ f t

-- At no level 1 to 6 has it a gap shorter than G.
abbrev pub NoShortGap : ℕ → (ℕ → ℕ) → Type 0
NoShortGap G f = (v : ℕ) → 1 ≤ v → v ≤ 6 → (x y : ℕ) → Gap (λ (t : ℕ). v ≤ f t) x y → G ≤ y - x

-- The same between two of its millimetres of [A, B): a gap that begins behind A and ends before B.
abbrev pub NoShortGapIn : (A B G : ℕ) → (ℕ → ℕ) → Type 0
NoShortGapIn A B G f = (v : ℕ) → 1 ≤ v → v ≤ 6 → (x y : ℕ) → Gap (λ (t : ℕ). v ≤ f t) x y → A < x → y < B → G ≤ y - x
