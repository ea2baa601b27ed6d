-- The required level covers the envelopes and has no gap shorter than G; nothing lower does both.
-- Assumes nothing.
use Rattle.std.proofs.Common.{ℕ, ◌-◌, ◌<◌, ◌≤◌, List, inr, arith}
use native.Mathlib.Decide.{dec_le, dec_lt}
use mathlib.Core.List.{Memᴰ}
use Rattle.runs.specs.declared.Stretch.{Stretch}
use Rattle.runs.specs.Level.{Covers, NoShortGap, NoShortGapIn, InSet, Gap, required_level, Proper}
use Rattle.base.proofs.OrderLaws.{le_of_not_lt}
use Rattle.runs.proofs.LevelLaws.{Joined, covered, bridged, Levelled, level_below, level→joined, joined→level}
use Rattle.runs.proofs.GapLaws.{around, Filled→joined}

module _ (es : List Stretch) (G : ℕ) where
  pub required_covers : Levelled es → Covers es (required_level es G)
  required_covers l e m t h = joined→level es G t e.level (l e m).0 (l e m).1 (covered e m (omega arith) h)

  -- A filled set begins and ends with an envelope's millimetre, not with one that was added.
  module _ (proper : Proper es) (v : ℕ) where
    last_in : (x : ℕ) → 0 < x → Joined es v G (x - 1) → ¬ Joined es v G x → InSet es v (x - 1)
    last_in x p (covered e m h k) n = record { one = e; member = m; high = h; has = k }
    last_in x p (bridged a b m o h k y z w) n = absurd (go (dec_lt x b.start))
      where
        go : Dec (x < b.start) → ⊥
        go (yes l) = n (bridged a b m o h k (omega arith) l w)
        go (no l) = n (covered b o k (omega arith, omega (arith, proper b o)))

    first_in : (y : ℕ) → 0 < y → Joined es v G y → ¬ Joined es v G (y - 1) → InSet es v y
    first_in y p (covered e m h k) n = record { one = e; member = m; high = h; has = k }
    first_in y p (bridged a b m o h k x z w) n = absurd (go (dec_lt a.end y))
      where
        go : Dec (a.end < y) → ⊥
        go (yes l) = n (bridged a b m o h k (omega arith) (omega arith) w)
        go (no l) = n (covered a m h (omega (arith, proper a m), omega arith))

    -- So a gap of it is one of the envelopes' set, and would be filled if it were short.
    joined_gap : (x y : ℕ) → Gap (λ (t : ℕ). Joined es v G t) x y → G ≤ y - x
    joined_gap x y g =
        le_of_not_lt (λ h. g.none x (omega arith) g.some
        (Filled→joined es v G x (inr (record { from = x; to = y; gap = set_gap; short = h; lower = omega arith; upper = g.some }))))
      where
        set_gap : Gap (InSet es v) x y
        set_gap = record {
          some = g.some;
          after_start = g.after_start;
          before = last_in x g.after_start g.before (g.none x (omega arith) g.some);
          after = first_in y (omega (arith, g.some)) g.after (g.none (y - 1) (omega (arith, g.some)) (omega (arith, g.some)));
          none = λ t a b s. g.none t a b (covered s.one s.member s.high s.has);
        }

  pub required_no_short_gap : Proper es → NoShortGap G (required_level es G)
  required_no_short_gap proper v p q x y g =
      joined_gap proper v x y (record {
        some = g.some;
        after_start = g.after_start;
        before = level→joined es G (x - 1) v p g.before;
        after = level→joined es G y v p g.after;
        none = λ t a b j. g.none t a b (joined→level es G t v p q j);
      })

  -- Of envelopes that lie in [A, B): every assignment of levels that covers them and has no short gap in it is nowhere lower.
  pub required_least : (A B : ℕ) → Proper es → ((e : Stretch) → Memᴰ e es → (A ≤ e.start) × (e.end ≤ B)) → (f : ℕ → ℕ) → Covers es f
      → NoShortGapIn A B G f → (t : ℕ) → required_level es G t ≤ f t
  required_least A B proper lies f c n t = level_below es G t (f t) at
    where
      at : (v : ℕ) → 1 ≤ v → v ≤ 6 → Joined es v G t → v ≤ f t
      at v p q (covered e m h k) = omega (arith, c e m t k)
      at v p q (bridged a b m o h k x y z) = le_of_not_lt (λ l.
          let pa = proper a m in
          let pb = proper b o in
          let ca = c a m (a.end - 1) (omega arith, omega arith) in
          let cb = c b o b.start (omega arith, omega arith) in
          let r = around (λ (u : ℕ). v ≤ f u) (λ (u : ℕ). dec_le v (f u)) (a.end - 1) t b.start (omega arith) (omega arith) (λ (w : v ≤ f t). omega arith) y
          (omega arith) in
          let short = n v p q r.from r.to r.gap (omega (arith, (lies a m).0, r.low)) (omega (arith, (lies b o).1, r.up)) in
          omega (arith, short, r.low, r.up, r.lower, r.upper))
