-- The required level at a station goes by the envelopes that have it and those nearest to it: the pass that keeps them, turn by turn, and the level read off.
-- Assumes nothing.
use Prim.Native.Nat.{ℕ, ◌+◌, ◌-◌, ◌≤◌, ◌<◌, min, max}
use native.Mathlib.Omega.{arith}
use native.Mathlib.Decide.{dec_le, dec_lt, ℕ_discrete}
use mathlib.Core.Path.{◌≡◌, refl, sym, ◌∙◌}
use mathlib.Core.Logic.{◌⊎◌, inl, inr, ◌≢◌}
use mathlib.Core.Bool.{true, false, ◌&&◌}
use mathlib.Core.List.Memᴰ
use mathlib.Core.List.{List, [], ◌∷◌, ◌++◌, Memᴰ}
use lib.ListN.{length, get_or, set, replicate, get_or-replicate}
use lib.Seq.{get_or-set_same, get_or-set_other}
use lib.Dec.{ltb}
use borrow.Author.Tests.{ltb-true, lt-ltb}
use Rattle.std.proofs.lemmas.Bool.{and_from, and_parts, both_ways, or_cases, or_left, or_right}
use Rattle.runs.specs.declared.Stretch.{Stretch}
use Rattle.runs.specs.Level.{required_level}
use Rattle.runs.specs.RunList.{last_station}
use Rattle.runs.specs.Keys.{keyed_envelopes, Keyed}
use Rattle.runs.specs.Sweep.{AllSound}
use Rattle.runs.proofs.KeyLaws.{envelope_at, keyed_none, keyed_step}
use Rattle.runs.proofs.LevelLaws.{Joined, covered, bridged, level_top, level→joined, joined→level}
use Rattle.station_level.specs.declared.nearest.Nearest.{Nearest}
use Rattle.station_level.specs.Nearest.{Extreme, Sought, LastEnd, no_start, FirstStart, NearestOf, has_station, ReadTo}

-- Extremes

-- An order, and of two numbers the one that both are within.
pub record Further (Within : ℕ → ℕ → Type 0) (best : ℕ → ℕ → ℕ) : Type 0 where
  pub self : (a : ℕ) → Within a a
  pub first : (a b c : ℕ) → Within a b → Within a (best b c)
  pub second : (a b c : ℕ) → Within a c → Within a (best b c)
  pub either : (b c : ℕ) → (best b c ≡ b) ⊎ (best b c ≡ c)

pub later : Further (λ (a b : ℕ). a ≤ b) max
later = record { self = λ a. omega arith; first = λ a b c h. omega arith; second = λ a b c h. omega arith; either = λ b c. go b c (dec_le b c) }
  where
    go : (b c : ℕ) → Dec (b ≤ c) → (max b c ≡ b) ⊎ (max b c ≡ c)
    go b c (yes h) = inr (omega arith)
    go b c (no h) = inl (omega arith)

pub earlier : Further (λ (a b : ℕ). b ≤ a) min
earlier = record { self = λ a. omega arith; first = λ a b c h. omega arith; second = λ a b c h. omega arith; either = λ b c. go b c (dec_le b c) }
  where
    go : (b c : ℕ) → Dec (b ≤ c) → (min b c ≡ b) ⊎ (min b c ≡ c)
    go b c (yes h) = inl (omega arith)
    go b c (no h) = inr (omega arith)

module _ {Within : ℕ → ℕ → Type 0} {best : ℕ → ℕ → ℕ} (further : Further Within best) (none : ℕ) (number : Stretch → ℕ) where
  pub extreme_none : (S : Stretch → Type 0) → ((e : Stretch) → S e → ⊥) → Extreme Within none number S none
  extreme_none S empty = record { each = λ e s. absurd (empty e s); one = λ n. absurd (n refl) }

  -- Two sets together.
  extreme_both : (S T U : Stretch → Type 0) (x y : ℕ) → Extreme Within none number S x → Extreme Within none number T y
      → ((e : Stretch) → S e → U e) → ((e : Stretch) → T e → U e) → ((e : Stretch) → U e → S e ⊎ T e) → Extreme Within none number U (best x y)
  extreme_both S T U x y s t su tu split = record { each = λ e u. each e (split e u); one = λ n. one n (further.either x y) }
    where
      each : (e : Stretch) → S e ⊎ T e → Within (number e) (best x y)
      each e (inl m) = further.first (number e) x y (s.each e m)
      each e (inr m) = further.second (number e) x y (t.each e m)

      one : best x y ≢ none → (best x y ≡ x) ⊎ (best x y ≡ y) → (e : Stretch) × U e × (number e ≡ best x y)
      one n (inl q) = let w = s.one (λ z. n (q ∙ z)) in (w.0, su w.0 w.1, w.2 ∙ sym q)
      one n (inr q) = let w = t.one (λ z. n (q ∙ z)) in (w.0, tu w.0 w.1, w.2 ∙ sym q)

  -- The same set.
  extreme_same : (S U : Stretch → Type 0) (x : ℕ) → Extreme Within none number S x → ((e : Stretch) → S e → U e) → ((e : Stretch) → U e → S e)
      → Extreme Within none number U x
  extreme_same S U x s su us = record { each = λ e u. s.each e (us e u); one = λ n. let w = s.one n in (w.0, su w.0 w.1, w.2) }

  -- For each level, of the envelopes of a list that pass P.
  abbrev pub ByLevel : (es : List Stretch) (P : Stretch → Type 0) (a : List ℕ) → Type 0
  ByLevel es P a = (v : ℕ) → v ≤ 6 → Extreme Within none number (Sought es P (λ (l : ℕ). l ≡ v)) (get_or a v 0)

  module _ (P : Stretch → Type 0) (es : List Stretch) (a : List ℕ) (kept : ByLevel es P a) where
    -- One envelope more.
    module _ (x : Stretch) where
      old : (v : ℕ) (e : Stretch) → Sought es P (λ (l : ℕ). l ≡ v) e → Sought (es ++ x ∷ []) P (λ (l : ℕ). l ≡ v) e
      old v e m = (Memᴰ.append_left (x ∷ []) m.0, m.1, m.2)

      cases : (v : ℕ) (e : Stretch) → Sought (es ++ x ∷ []) P (λ (l : ℕ). l ≡ v) e → Sought es P (λ (l : ℕ). l ≡ v) e ⊎ (e ≡ x)
      cases v e m = go (Memᴰ.append_cases es m.0)
        where
          go : Memᴰ e es ⊎ Memᴰ e (x ∷ []) → Sought es P (λ (l : ℕ). l ≡ v) e ⊎ (e ≡ x)
          go (inl k) = inl (k, m.1, m.2)
          go (inr k) = inr (Memᴰ.eq_of_singleton k)

      -- It is none of those kept.
      kept_other : (v : ℕ) → v ≤ 6 → (Sought (es ++ x ∷ []) P (λ (l : ℕ). l ≡ v) x → ⊥)
          → Extreme Within none number (Sought (es ++ x ∷ []) P (λ (l : ℕ). l ≡ v)) (get_or a v 0)
      kept_other v h n = extreme_same _ _ _ (kept v h) (old v) (λ e m. go e m (cases v e m))
        where
          go : (e : Stretch) → Sought (es ++ x ∷ []) P (λ (l : ℕ). l ≡ v) e → Sought es P (λ (l : ℕ). l ≡ v) e ⊎ (e ≡ x) → Sought es P (λ (l : ℕ). l ≡ v) e
          go e m (inl k) = k
          go e m (inr q) = absurd (n (rw q at m))

      pub kept_same : (P x → ⊥) → ByLevel (es ++ x ∷ []) P a
      kept_same n v h = kept_other v h (λ m. n m.2)

      pub kept_more : P x → x.level < length a → ByLevel (es ++ x ∷ []) P (set a x.level (best (get_or a x.level 0) (number x)))
      kept_more p fits v h = go (ℕ_discrete v x.level)
        where
          new : ℕ
          new = best (get_or a x.level 0) (number x)

          go : Dec (v ≡ x.level) → Extreme Within none number (Sought (es ++ x ∷ []) P (λ (l : ℕ). l ≡ v)) (get_or (set a x.level new) v 0)
          go (yes q) = rw (q, get_or-set_same a x.level new 0 fits)
              (extreme_both _ (λ (e : Stretch). e ≡ x) _ _ _ (kept x.level (omega arith))
              (record { each = λ e z. rw z (further.self (number x)); one = λ n. (x, refl, refl) })
              (old x.level) (λ e z. rw z (Memᴰ.append_right es (Memᴰ.head refl), refl, p)) (cases x.level))
          go (no q) = rw (get_or-set_other a x.level v new 0 q) (kept_other v h (λ m. q (sym m.1)))

    -- The levels above v and level v are those above v - 1.
    pub from_level : (v x : ℕ) → 0 < v → v ≤ 6 → Extreme Within none number (Sought es P (λ (l : ℕ). v < l)) x
        → Extreme Within none number (Sought es P (λ (l : ℕ). v - 1 < l)) (best x (get_or a v 0))
    from_level v x some h above =
        extreme_both _ _ _ _ _ above (kept v h) (λ e m. (m.0, omega (arith, m.1), m.2)) (λ e m. (m.0, omega (arith, m.1), m.2))
        (λ e m. go e m (dec_lt v e.level))
      where
        go : (e : Stretch) → Sought es P (λ (l : ℕ). v - 1 < l) e → Dec (v < e.level) → Sought es P (λ (l : ℕ). v < l) e ⊎ Sought es P (λ (l : ℕ). l ≡ v) e
        go e m (yes q) = inl (m.0, q, m.2)
        go e m (no q) = inr (m.0, omega (arith, m.1), m.2)

-- The pass

pub none_kept : (keys lasts : List ℕ) (t : ℕ) → NearestOf (keyed_envelopes keys lasts 0) t (record { ends = replicate 8 0; starts = replicate 8 no_start })
none_kept keys lasts t = rw (keyed_none keys lasts) (record {
  ends = λ v h. rw (get_or-replicate {A = ℕ} 8 v 0 0 (omega arith)) (extreme_none later 0 _ _ (λ e m. Memᴰ.not-nil m.0));
  starts = λ v h. rw (get_or-replicate {A = ℕ} 8 v no_start 0 (omega arith)) (extreme_none earlier no_start _ _ (λ e m. Memᴰ.not-nil m.0));
})

-- One envelope more: it has begun at the station, or lies ahead. Its level is a rest by 8, so it has a place.
module _ (keys lasts : List ℕ) (n : ℕ) (keyed : Keyed keys lasts n) (i t : ℕ) (below : i < n) (near : Nearest)
    (kept : NearestOf (keyed_envelopes keys lasts i) t near) where
  abbrev x : Stretch
  x = envelope_at keys lasts i

  pub begun_turn : x.start ≤ t → length near.ends ≡ 8 → {y : ℕ} → y ≡ max (get_or near.ends x.level 0) x.end
      → NearestOf (keyed_envelopes keys lasts (i + 1)) t (record { ends = set near.ends x.level y; starts = near.starts })
  begun_turn h full q = rw (keyed_step keys lasts n keyed i below, q) (record {
    ends = kept_more later 0 _ _ _ near.ends kept.ends x h (omega arith);
    starts = kept_same earlier no_start _ _ _ near.starts kept.starts x (λ l. omega arith);
  })

  pub ahead_turn : t < x.start → length near.starts ≡ 8 → {y : ℕ} → y ≡ min (get_or near.starts x.level 0) x.start
      → NearestOf (keyed_envelopes keys lasts (i + 1)) t (record { ends = near.ends; starts = set near.starts x.level y })
  ahead_turn h full q = rw (keyed_step keys lasts n keyed i below, q) (record {
    ends = kept_same later 0 _ _ _ near.ends kept.ends x (λ l. omega arith);
    starts = kept_more earlier no_start _ _ _ near.starts kept.starts x h (omega arith);
  })

-- The last ends are ends of envelopes, or 0.
pub ends_known : (es : List Stretch) → AllSound es → (t : ℕ) (near : Nearest) → NearestOf es t near → (v : ℕ) → v ≤ 6 → get_or near.ends v 0 ≤ last_station
ends_known es sound t near kept v h = go (dec_lt 0 (get_or near.ends v 0))
  where
    go : Dec (0 < get_or near.ends v 0) → get_or near.ends v 0 ≤ last_station
    go (yes l) = let w = (kept.ends v h).one (λ z. omega arith) in omega (arith, w.2, (sound w.0 w.1.0).ends)
    go (no l) = omega arith

-- The level read off

-- Where these are the last end and the first start of level v and those above it, the test says whether the filled set of v has the station.
module _ (es : List Stretch) (sound : AllSound es) (G t v end start : ℕ) (some : 0 < v) (last : LastEnd es t (λ (l : ℕ). v - 1 < l) end)
    (first : FirstStart es t (λ (l : ℕ). v - 1 < l) start) where
  test→joined : G ≤ 4294967295 → has_station end start G t ≡ true → Joined es v G t
  test→joined few h = inside (dec_lt t end)
    where
      gap : end ≤ t → (ltb t end ≡ true) ⊎ ((ltb 0 end && ltb start (end + G)) ≡ true) → Joined es v G t
      gap late (inl q) = absurd (omega (arith, ltb-true t end q))
      gap late (inr q) =
          let close = ltb-true start (end + G) ((and_parts (ltb 0 end) _ q).1) in
          let a = last.one (λ z. omega (arith, ltb-true 0 end ((and_parts _ (ltb start (end + G)) q).0))) in
          let b = first.one (λ z. omega (arith, (sound a.0 a.1.0).ends, a.2)) in
          bridged a.0 b.0 a.1.0 b.1.0 (omega (arith, a.1.1)) (omega (arith, b.1.1)) (omega (arith, a.2)) b.1.2
          (omega (arith, a.2, b.2))

      inside : Dec (t < end) → Joined es v G t
      inside (yes l) = let a = last.one (λ z. omega arith) in covered a.0 a.1.0 (omega (arith, a.1.1)) (a.1.2, omega (arith, a.2))
      inside (no l) = gap (omega arith) (or_cases (ltb t end) _ h)

  joined→test : Joined es v G t → has_station end start G t ≡ true
  joined→test (covered e m h k) = or_left _ _ (lt-ltb t end (omega (arith, last.each e (m, omega arith, k.0), k.1)))
  joined→test (bridged a b m o h k x y z) =
      let long = (sound a m).long in
      let ends = last.each a (m, omega arith, omega arith) in
      let starts = first.each b (o, omega arith, y) in
      or_right (ltb t end) _ (and_from _ _ (lt-ltb 0 end (omega arith)) (lt-ltb start (end + G) (omega arith)))

pub read_none : (es : List Stretch) → AllSound es → (G t : ℕ) → ReadTo es G t 6 0 no_start
read_none es sound G t = record {
  ends = extreme_none later 0 _ _ (λ e m. omega (arith, (sound e m.0).top, m.1));
  starts = extreme_none earlier no_start _ _ (λ e m. omega (arith, (sound e m.0).top, m.1));
  level = level_top es G t;
}

module _ (es : List Stretch) (sound : AllSound es) (near : Nearest) (G t v end start : ℕ) (kept : NearestOf es t near) (read : ReadTo es G t v end start)
    (some : 0 < v) (top : v ≤ 6)
    {e s : ℕ} (p : e ≡ max end (get_or near.ends v 0)) (q : s ≡ min start (get_or near.starts v 0)) where
  last : LastEnd es t (λ (l : ℕ). v - 1 < l) e
  last = rw p (from_level later 0 _ _ _ near.ends kept.ends v end some top read.ends)

  first : FirstStart es t (λ (l : ℕ). v - 1 < l) s
  first = rw q (from_level earlier no_start _ _ _ near.starts kept.starts v start some top read.starts)

  pub level_found_lem : G ≤ 4294967295 → has_station e s G t ≡ true → v ≡ required_level es G t
  level_found_lem few h = omega (arith, joined→level es G t v (omega arith) top (test→joined es sound G t v e s some last first few h), read.level)

  pub level_lower : has_station e s G t ≡ false → ReadTo es G t (v - 1) e s
  level_lower h = record { ends = last; starts = first; level = go (dec_le v (required_level es G t)) }
    where
      go : Dec (v ≤ required_level es G t) → required_level es G t ≤ v - 1
      go (yes l) = absurd (both_ways _ h (joined→test es sound G t v e s some last first (level→joined es G t v (omega arith) l)))
      go (no l) = omega arith
