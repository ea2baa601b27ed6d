-- A sweep meets an envelope that starts where it stands: the level is as high already, or it rises.
-- Assumes nothing.
use Rattle.std.proofs.Common.{◌≡◌, ℕ, suc, ◌-◌, ◌<◌, ◌≤◌, min, max, Bool, true, false, ltb, List, ◌∷◌, length, get_or, sym, refl, ap, ◌∙◌, arith, ltb-false, ltb-true, if◌then◌else◌}
use native.Mathlib.Decide.{dec_le, dec_lt}
use mathlib.Core.List.{Memᴰ}
use Rattle.base.proofs.ListLaws.{cons_each}
use Rattle.runs.specs.declared.Stretch.{Stretch}
use Rattle.runs.specs.Level.{required_level}
use Rattle.runs.specs.Breaks.{Break, break_level, Shape, set_from}
use Rattle.runs.specs.Sweep.{Sound, Ending, Top, above_to, Above, Raised, Begun, SweptTo, filled_from, lifted}
use Rattle.base.proofs.OrderLaws.{le_of_not_lt}
use Rattle.runs.proofs.BreakLaws.{shape_on, set_shape, set_before, set_after, set_more, set_cuts}
use Rattle.runs.proofs.TopLaws.{raised_high, raised_low, distinct_skip, distinct_lift}
use Rattle.runs.proofs.SweepLaws.{not_above, above_is, under_top}
use Rattle.runs.proofs.MoreLaws.{skip_level, lift_here, lift_filled, lift_kept}
use Rattle.runs.proofs.StandLaws.{level_last}

module _ {es : List Stretch} {G u : ℕ} {tops : List ℕ} {level : ℕ} {bs : List Break} (s : SweptTo es G u tops level bs) (x : Stretch) (at : x.start ≡ u)
    (x-sound : Sound x) (tops' : List ℕ) (raised : Raised x.level x.end tops tops') where
  high_is : (v : ℕ) → v ≤ x.level → get_or tops' v 0 ≡ max (get_or tops v 0) x.end
  high_is = raised_high x.level x.end tops tops' raised

  low_is : (v : ℕ) → x.level < v → get_or tops' v 0 ≡ get_or tops v 0
  low_is = raised_low x.level x.end tops tops' raised

  -- The tops are those of one envelope more.
  more_top : (v : ℕ) → Top (x ∷ es) v (get_or tops' v 0)
  more_top v = go (dec_le v x.level)
    where
      old : 0 < get_or tops v 0 → get_or tops v 0 ≡ get_or tops' v 0 → Ending (x ∷ es) v (get_or tops' v 0)
      old p e = let m = (s.begun.top v).met p in record { one = m.one; member = Memᴰ.tail m.member; high = m.high; there = m.there ∙ e }

      most : (v ≤ x.level → x.end ≤ get_or tops' v 0) → get_or tops v 0 ≤ get_or tops' v 0 → (e : Stretch) → Memᴰ e (x ∷ es) → v ≤ e.level
          → e.end ≤ get_or tops' v 0
      most q r = cons_each (λ e. v ≤ e.level → e.end ≤ get_or tops' v 0) q (λ e m h. omega (arith, (s.begun.top v).most e m h))

      go : Dec (v ≤ x.level) → Top (x ∷ es) v (get_or tops' v 0)
      go (no n) =
          let e = low_is v (omega arith) in
          record { most = most (λ h. absurd (omega arith)) (omega arith); met = λ p. old (omega arith) (sym e) }
      go (yes h) = record { most = most (λ _. omega (arith, e)) (omega (arith, e)); met = λ p. pick (dec_le x.end (get_or tops v 0)) }
        where
          e : get_or tops' v 0 ≡ max (get_or tops v 0) x.end
          e = high_is v h

          pick : Dec (x.end ≤ get_or tops v 0) → Ending (x ∷ es) v (get_or tops' v 0)
          pick (yes q) = old (omega (arith, x-sound.long)) (omega (arith, e))
          pick (no q) = record { one = x; member = Memᴰ.head refl; high = h; there = omega (arith, e) }

  more_begun : Begun (x ∷ es) u tops'
  more_begun = record { sound = cons_each Sound x-sound s.begun.sound; by = cons_each (λ e. e.start ≤ u) (omega arith) s.begun.by; top = more_top }

  -- The level that stands is as high.
  pub skip : x.level ≤ level → SweptTo (x ∷ es) G u tops' level bs
  skip h = record {
    begun = more_begun;
    above = record { low = λ v p q. low v p q (dec_le v x.level); high = λ v p. high v p (dec_le v x.level) };
    shape = s.shape;
    shows = λ t l. s.shows t l ∙ sym (skip_level G s.begun x at x-sound s.above h t l);
    room = omega (arith, s.room, distinct_skip x.level x.end tops tops' raised level h);
  }
    where
      low : (v : ℕ) → 1 ≤ v → v ≤ level → Dec (v ≤ x.level) → u < get_or tops' v 0
      low v p q (yes l) = omega (arith, high_is v l, s.above.low v p q)
      low v p q (no l) = omega (arith, low_is v (omega arith), s.above.low v p q)

      high : (v : ℕ) → u < get_or tops' v 0 → Dec (v ≤ x.level) → v ≤ level
      high v p (yes l) = omega arith
      high v p (no l) = s.above.high v (omega (arith, low_is v (omega arith)))

  module _ (higher : level < x.level) where
    -- The level of the gap before the envelope, where it is above that which stands.
    abbrev k : ℕ
    k = min (above_to tops (u - G) 6) x.level

    near : Above tops (u - G) (above_to tops (u - G) 6)
    near = above_is s.begun (u - G)

    filled_step : (P : List Break → Type 0) → (level < k → P (set_from (get_or tops k 0) k bs)) → (k ≤ level → P bs) → P (filled_from tops level k bs)
    unfolding filled_from
    filled_step P f g = go (ltb level k) refl
      where
        go : (b : Bool) → ltb level k ≡ b → P (if b then set_from (get_or tops k 0) k bs else bs)
        go true e = f (ltb-true level k e)
        go false e = g (ltb-false level k e)

    filled_shape : Shape (suc u) (filled_from tops level k bs)
    filled_shape =
        filled_step (λ (p : List Break). Shape (suc u) p)
        (λ h. shape_on (suc (get_or tops k 0)) (suc u) (set_from (get_or tops k 0) k bs) (omega (arith, not_above s.above k h))
        (set_shape (get_or tops k 0) k bs (suc u) s.shape))
        (λ _. s.shape)

    filled_shows : (t : ℕ) → t < u → break_level (filled_from tops level k bs) t ≡ required_level (x ∷ es) G t
    filled_shows t l =
        filled_step (λ (p : List Break). break_level p t ≡ required_level (x ∷ es) G t)
        (λ h. filling h (dec_le (get_or tops k 0) t))
        (λ h. s.shows t (omega arith) ∙ sym (kept (λ d. absurd (omega arith))))
      where
        kept : (level < k → t < get_or tops k 0) → required_level (x ∷ es) G t ≡ required_level es G t
        kept = lift_kept G s.begun x at x-sound s.above higher near t l

        filling : level < k → Dec (get_or tops k 0 ≤ t) → break_level (set_from (get_or tops k 0) k bs) t ≡ required_level (x ∷ es) G t
        filling h (yes d) = set_after (get_or tops k 0) k bs (suc u) t s.shape d ∙ sym (lift_filled G s.begun x at x-sound s.above higher near t l h d)
        filling h (no d) = set_before (get_or tops k 0) k bs t (omega arith) ∙ s.shows t (omega arith) ∙ sym (kept (λ _. omega arith))

    -- Filling the gap cuts a break point off: at the top of level k the level fell below k.
    filled_length : length (filled_from tops level k bs) ≤ length bs
    filled_length = filled_step (λ (p : List Break). length p ≤ length bs) cuts (λ _. omega arith)
      where
        cuts : level < k → length (set_from (get_or tops k 0) k bs) ≤ length bs
        cuts h =
            let positive = near.low k (omega arith) (omega arith) in
            let before = not_above s.above k h in
            set_cuts (get_or tops k 0) k bs (omega (arith, s.shows (get_or tops k 0 - 1) (omega arith), under_top G s.begun k (omega arith) (omega arith)))
            (omega (arith, level_last s))

    -- The level rises to that of the new envelope.
    pub lift : SweptTo (x ∷ es) G u tops' x.level (lifted tops level u x.level G bs)
    unfolding lifted
    lift = record {
      begun = more_begun;
      above = record {
        low = λ v p q. omega (arith, high_is v q, x-sound.long);
        high = λ v p. le_of_not_lt (λ l. omega (arith, s.above.high v (omega (arith, low_is v l))));
      };
      shape = set_shape u x.level (filled_from tops level k bs) (suc u) filled_shape;
      shows = λ t l. shows t l (dec_lt t u);
      room = omega (
        arith,
        s.room,
        filled_length,
        set_more u x.level (filled_from tops level k bs),
        distinct_lift x.level x.end tops tops' raised level (λ v h. omega (arith, not_above s.above v h, x-sound.long)) (omega arith),
      );
    }
      where
        shows : (t : ℕ) → t ≤ u → Dec (t < u) → break_level (set_from u x.level (filled_from tops level k bs)) t ≡ required_level (x ∷ es) G t
        shows t l (yes h) = set_before u x.level (filled_from tops level k bs) t h ∙ filled_shows t h
        shows t l (no h) =
            let e : u ≡ t = omega arith in
            set_after u x.level (filled_from tops level k bs) (suc u) t filled_shape (omega arith)
            ∙ sym (lift_here G s.begun x at x-sound s.above higher) ∙ ap (λ (z : ℕ). required_level (x ∷ es) G z) e
