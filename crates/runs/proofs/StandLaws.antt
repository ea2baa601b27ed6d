-- A sweep that stands at a station: the next station, the fall to a lower level, the first and the last.
-- Assumes nothing.
use Rattle.std.proofs.Common.{◌≡◌, ℕ, suc, ◌+◌, ◌-◌, ◌<◌, ◌≤◌, List, [], ◌∷◌, get_or, sym, ◌∙◌, subst, arith}
use native.Mathlib.Decide.{dec_le, dec_lt}
use mathlib.Core.List.Memᴰ
use Rattle.runs.specs.declared.Stretch.{Stretch}
use Rattle.runs.specs.Level.{required_level}
use Rattle.runs.specs.RunList.{last_station, RunsOf}
use Rattle.runs.specs.Required.{end_points}
use Rattle.runs.specs.Breaks.{Break, break_level, level_of, runs_below}
use Rattle.runs.specs.Sweep.{above_to, Above, distinct_to, SweptTo}
use Rattle.base.proofs.OrderLaws.{le_of_not_lt}
use Rattle.runs.proofs.LevelLaws.{level_top}
use Rattle.runs.proofs.PointLaws.{level_past}
use Rattle.runs.proofs.BreakLaws.{at_last, at_earlier, shape_on, level_on, breaks_runs}
use Rattle.runs.proofs.TopLaws.{level_falls, distinct_less}
use Rattle.runs.proofs.SweepLaws.{not_above, begun_later, tops_fall, above_is, level_past_starts}

module _ {es : List Stretch} {G u : ℕ} {tops : List ℕ} {level : ℕ} {bs : List Break} (s : SweptTo es G u tops level bs) where
  level_after : (t c : ℕ) → u ≤ t → Above tops t c → required_level es G t ≡ c
  level_after = level_past_starts G s.begun

  pub level_last : level_of bs ≡ level
  level_last = sym (level_on (suc u) u bs s.shape (omega arith)) ∙ s.shows u (omega arith) ∙ level_after u level (omega arith) s.above

  -- Up to the top of the level that stands, the level is the same.
  pub stay : (t : ℕ) → u ≤ t → (0 < level → t < get_or tops level 0) → SweptTo es G t tops level bs
  stay t h k = record {
    begun = begun_later h s.begun;
    above = above_by t h (omega arith);
    shape = shape_on (suc u) (suc t) bs (omega arith) s.shape;
    shows = λ z l. at z l (dec_le z u);
    room = s.room;
  }
    where
      above_by : (z : ℕ) → u ≤ z → z ≤ t → Above tops z level
      above_by z a b = record {
        low = λ v p q. omega (arith, k (omega arith), tops_fall s.begun v level q);
        high = λ v p. s.above.high v (omega arith);
      }

      at : (z : ℕ) → z ≤ t → Dec (z ≤ u) → break_level bs z ≡ required_level es G z
      at z l (yes a) = s.shows z a
      at z l (no a) = level_on (suc u) z bs s.shape (omega arith) ∙ level_last ∙ sym (level_after z level (omega arith) (above_by z (omega arith) l))

-- At the top of the level that stands the level falls.
module _ {es : List Stretch} {G u : ℕ} {tops : List ℕ} {level : ℕ} {bs : List Break} (s : SweptTo es G u tops level bs) (some : 0 < level) where
  low_top : u < get_or tops level 0
  low_top = s.above.low level some (omega arith)

  just_before : SweptTo es G (get_or tops level 0 - 1) tops level bs
  just_before = stay s (get_or tops level 0 - 1) (omega (arith, low_top)) (λ _. omega (arith, low_top))

  pub fall : (d : ℕ) → Above tops (get_or tops level 0) d → SweptTo es G (get_or tops level 0) tops d (record { start = get_or tops level 0; level = d } ∷ bs)
  fall d a = record {
    begun = begun_later (omega (arith, low_top)) s.begun;
    above = a;
    shape = (
      omega arith,
      λ q. omega (arith, q ∙ level_last s, level_falls tops level d some a.low),
      shape_on _ (get_or tops level 0) bs (omega (arith, low_top)) just_before.shape,
    );
    shows = λ t h. at t h (dec_lt t (get_or tops level 0));
    room = omega (arith, s.room, distinct_less tops level d some a.low (not_above a (suc d) (omega arith)));
  }
    where
      b : Break
      b = record { start = get_or tops level 0; level = d }

      at : (t : ℕ) → t ≤ get_or tops level 0 → Dec (t < get_or tops level 0) → break_level (b ∷ bs) t ≡ required_level es G t
      at t h (yes l) = at_earlier b bs t l ∙ just_before.shows t (omega arith)
      at t h (no l) = at_last b bs t (omega arith)
          ∙ sym (level_after s t d (omega (arith, low_top)) (subst (λ (z : ℕ). Above tops z d) (let e : get_or tops level 0 ≡ t = omega arith in e) a))

-- A sweep that stands at or before s.
pub record Standing (es : List Stretch) (G s : ℕ) (tops : List ℕ) (level : ℕ) (bs : List Break) : Type 0 where
  pub at : ℕ
  pub by : at ≤ s
  pub stands : SweptTo es G at tops level bs

module _ {es : List Stretch} {G s : ℕ} {tops : List ℕ} {level : ℕ} {bs : List Break} (w : Standing es G s tops level bs) where
  pub standing_fall : (d : ℕ) → d ≡ above_to tops (get_or tops level 0) 6 → 0 < level → get_or tops level 0 ≤ s
      → Standing es G s tops d (record { start = get_or tops level 0; level = d } ∷ bs)
  standing_fall d e p h = record {
    at = get_or tops level 0;
    by = h;
    stands = fall w.stands p d (subst (Above tops (get_or tops level 0)) (sym e) (above_is w.stands.begun (get_or tops level 0)));
  }

  pub standing_end : (0 < level → s < get_or tops level 0) → SweptTo es G s tops level bs
  standing_end h = stay w.stands s w.by h

-- Before the first envelope.
pub stands_first : (G : ℕ) (tops : List ℕ) → ((v : ℕ) → get_or tops v 0 ≡ 0) → SweptTo [] G 0 tops 0 []
unfolding break_level end_points distinct_to
stands_first G tops z = record {
  begun = record {
    sound = λ e m. absurd (Memᴰ.not-nil m);
    by = λ e m. absurd (Memᴰ.not-nil m);
    top = λ v. record { most = λ e m. absurd (Memᴰ.not-nil m); met = λ p. absurd (omega (arith, z v)) };
  };
  above = record { low = λ v p q. absurd (omega arith); high = λ v p. absurd (omega (arith, z v)) };
  shape = tt;
  room = omega arith;
  shows = λ t l. sym (level_past [] G t (λ x m. absurd (Memᴰ.not-nil m)));
}

-- At the last station the level is 0, and the break points give the required runs.
module _ {es : List Stretch} {G : ℕ} {tops : List ℕ} {level : ℕ} {bs : List Break} (s : SweptTo es G last_station tops level bs) where
  zero_level : level ≤ 0
  zero_level = le_of_not_lt (λ p.
      let low = s.above.low level p (omega arith) in
      let m = (s.begun.top level).met (omega arith) in
      omega (arith, low, m.there, (s.begun.sound m.one m.member).ends))

  pub last_zero : level_of bs ≡ 0
  last_zero = omega (arith, level_last s, zero_level)

  pub stands_last : (e : ℕ) → RunsOf (required_level es G) (runs_below e bs)
  stands_last e = breaks_runs (required_level es G) (level_top es G) bs e s.shape last_zero
      (λ t. (stay s (t + last_station) (omega arith) (λ p. absurd (omega (arith, zero_level)))).shows t (omega arith))
