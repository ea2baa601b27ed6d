-- Envelopes that have begun by a station, and their tops: from there on the required level is the number of the tops above.
-- Assumes nothing.
use Rattle.std.proofs.Common.{◌≡◌, ℕ, ◌-◌, ◌<◌, ◌≤◌, List, get_or, arith}
use Rattle.runs.specs.declared.Stretch.{Stretch}
use Rattle.runs.specs.Level.{required_level}
use Rattle.runs.specs.Sweep.{above_to, Above, Falling, Begun}
use Rattle.base.proofs.OrderLaws.{le_of_not_lt}
use Rattle.runs.proofs.LevelLaws.{Joined, covered, bridged, level_is, joined→level}
use Rattle.runs.proofs.TopLaws.{above_count}

pub not_above : {tops : List ℕ} {t c : ℕ} → Above tops t c → (v : ℕ) → c < v → get_or tops v 0 ≤ t
not_above a v h = le_of_not_lt (λ l. omega (arith, a.high v l))

pub begun_later : {es : List Stretch} {u t : ℕ} {tops : List ℕ} → u ≤ t → Begun es u tops → Begun es t tops
begun_later h ok = record { sound = ok.sound; by = λ e m. omega (arith, ok.by e m); top = ok.top }

module _ {es : List Stretch} {s : ℕ} {tops : List ℕ} (ok : Begun es s tops) where
  pub tops_fall : Falling tops
  tops_fall v u h = le_of_not_lt (λ l.
      let m = (ok.top u).met (omega arith) in
      omega (arith, (ok.top v).most m.one m.member (omega (arith, m.high)), m.there))

  -- Only levels to 6 have a top.
  topless : (v : ℕ) → 0 < get_or tops v 0 → v ≤ 6
  topless v p =
      let m = (ok.top v).met p in
      omega (arith, m.high, (ok.sound m.one m.member).top)

  pub above_small : {t c : ℕ} → Above tops t c → c ≤ 6
  above_small {t} {c} a = le_of_not_lt (λ l. omega (arith, topless c (omega (arith, a.low c (omega arith) (omega arith)))))

  pub above_is : (t : ℕ) → Above tops t (above_to tops t 6)
  above_is t =
      let c = above_count tops tops_fall t 6 in
      record { low = c.low; high = λ v h. c.high v (topless v (omega arith)) h }

module _ {es : List Stretch} {s : ℕ} {tops : List ℕ} (G : ℕ) (ok : Begun es s tops) where
  -- Nothing is filled from the top on.
  pub below_top : (v t : ℕ) → Joined es v G t → t < get_or tops v 0
  below_top v t (covered e m h k) = omega (arith, (ok.top v).most e m h, k.1)
  below_top v t (bridged a b m o h k x y z) = omega (arith, (ok.top v).most b o k, (ok.sound b o).long)

  -- From s to the top all is covered.
  pub solid : (v t : ℕ) → s ≤ t → t < get_or tops v 0 → Joined es v G t
  solid v t h k =
      let m = (ok.top v).met (omega arith) in
      covered m.one m.member m.high (omega (arith, ok.by m.one m.member), omega (arith, m.there))

  -- Just before a top its level is required.
  pub under_top : (v : ℕ) → 1 ≤ v → 0 < get_or tops v 0 → v ≤ required_level es G (get_or tops v 0 - 1)
  under_top v p h =
      let m = (ok.top v).met h in
      let long = (ok.sound m.one m.member).long in
      joined→level es G (get_or tops v 0 - 1) v p (topless ok v h) (covered m.one m.member m.high (omega (arith, m.there), omega (arith, m.there)))

  -- From s on the required level is the number of the tops above.
  pub level_past_starts : (t c : ℕ) → s ≤ t → Above tops t c → required_level es G t ≡ c
  level_past_starts t c h a =
      level_is es G t c (above_small ok a)
      (λ p. solid c t h (a.low c p (omega arith)))
      (λ v p j. a.high v (below_top v t j))
