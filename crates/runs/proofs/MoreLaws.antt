-- One envelope more, that starts at s: what it changes in the required level up to there.
-- Assumes nothing.
use Rattle.std.proofs.Common.{◌≡◌, ℕ, ◌+◌, ◌-◌, ◌<◌, ◌≤◌, min, ◌⊎◌, List, ◌∷◌, get_or, refl, ap, inl, inr, arith}
use native.Mathlib.Decide.{dec_le, dec_lt}
use mathlib.Core.List.Memᴰ
use mathlib.Core.List.{Memᴰ}
use Rattle.runs.specs.declared.Stretch.{Stretch}
use Rattle.runs.specs.Level.{required_level}
use Rattle.runs.specs.Sweep.{Sound, Ending, Above, Begun}
use Rattle.base.proofs.OrderLaws.{le_of_not_lt}
use Rattle.runs.proofs.LevelLaws.{Joined, covered, bridged, level_is, level_le, required_more}
use Rattle.runs.proofs.SweepLaws.{tops_fall, below_top, solid}

module _ {es : List Stretch} {s : ℕ} {tops : List ℕ} (G : ℕ) (ok : Begun es s tops) (x : Stretch) (at : x.start ≡ s) (x-sound : Sound x) where
  -- What was filled before; from s on; from a top less than G before s.
  data More (v t : ℕ) : Type 0 where
    old : Joined es v G t → More v t
    within : v ≤ x.level → s ≤ t → More v t
    gap_before : v ≤ x.level → s - G < get_or tops v 0 → get_or tops v 0 ≤ t → t < s → More v t

  -- before s, behind an envelope a that ends less than G before
  gap_after : (v t : ℕ) (a : Stretch) → Memᴰ a es → v ≤ a.level → v ≤ x.level → a.end ≤ t → t < s → s < a.end + G → More v t
  gap_after v t a m h k y z w = go (dec_le (get_or tops v 0) t)
    where
      up : a.end ≤ get_or tops v 0
      up = (ok.top v).most a m h

      go : Dec (get_or tops v 0 ≤ t) → More v t
      go (yes q) = gap_before k (omega (arith, up, (ok.sound a m).long)) q z
      go (no q) =
          let c = (ok.top v).met (omega arith) in
          old (pick c (dec_le c.one.start t))
        where
          pick : (c : Ending es v (get_or tops v 0)) → Dec (c.one.start ≤ t) → Joined es v G t
          pick c (yes r) = covered c.one c.member c.high (r, omega (arith, c.there))
          pick c (no r) = bridged a c.one m c.member h c.high y (omega arith) (omega (arith, ok.by c.one c.member))

  joined_cons : (v t : ℕ) → Joined (x ∷ es) v G t → More v t
  joined_cons v t (covered e m h k) = go (Memᴰ.cases_cons m)
    where
      go : (e ≡ x) ⊎ Memᴰ e es → More v t
      go (inl q) = within (omega (arith, ap (λ (r : Stretch). r.level) q)) (omega (arith, k.0, ap (λ (r : Stretch). r.start) q))
      go (inr o) = old (covered e o h k)
  joined_cons v t (bridged a b m o h k y z w) = go (Memᴰ.cases_cons m) (Memᴰ.cases_cons o)
    where
      go : (a ≡ x) ⊎ Memᴰ a es → (b ≡ x) ⊎ Memᴰ b es → More v t
      go (inl p) (inl q) = absurd (omega (arith, ap (λ (r : Stretch). r.end) p, ap (λ (r : Stretch). r.start) q, x-sound.long))
      go (inl p) (inr q) = absurd (omega (arith, ap (λ (r : Stretch). r.end) p, ok.by b q, x-sound.long))
      go (inr p) (inl q) =
          let f = ap (λ (r : Stretch). r.start) q in
          gap_after v t a p h (omega (arith, ap (λ (r : Stretch). r.level) q)) y (omega arith) (omega arith)
      go (inr p) (inr q) = old (bridged a b p q h k y z w)

  cons_gap : (v t : ℕ) → v ≤ x.level → s - G < get_or tops v 0 → get_or tops v 0 ≤ t → t < s → Joined (x ∷ es) v G t
  cons_gap v t h k y z =
      let c = (ok.top v).met (omega arith) in
      bridged c.one x (Memᴰ.tail c.member) (Memᴰ.head refl) c.high h (omega (arith, c.there)) (omega arith) (omega (arith, c.there))

  -- Where a level is kept, and where the new one counts.
  same_level : (t : ℕ) → ((v : ℕ) → 1 ≤ v → More v t → Joined es v G t) → required_level (x ∷ es) G t ≡ required_level es G t
  same_level t keep =
      omega (arith, level_le (x ∷ es) es G t t (λ v p j. keep v p (joined_cons v t j)), required_more es (x ∷ es) G t (λ e m. Memᴰ.tail m))

  module _ {c : ℕ} (a : Above tops s c) where
    -- The level that stands at s is as high: nothing changes up to s.
    pub skip_level : x.level ≤ c → (t : ℕ) → t ≤ s → required_level (x ∷ es) G t ≡ required_level es G t
    skip_level h t le = same_level t keep
      where
        keep : (v : ℕ) → 1 ≤ v → More v t → Joined es v G t
        keep v p (old j) = j
        keep v p (within k l) = solid G ok v t l (omega (arith, a.low v p (omega arith)))
        keep v p (gap_before k l y z) = absurd (omega (arith, a.low v p (omega arith)))

    module _ (higher : c < x.level) where
      pub lift_here : required_level (x ∷ es) G s ≡ x.level
      lift_here =
          level_is (x ∷ es) G s x.level x-sound.top
          (λ p. covered x (Memᴰ.head refl) (omega arith) (omega arith, omega (arith, x-sound.long)))
          (λ v p j. go v (joined_cons v s j))
        where
          go : (v : ℕ) → More v s → v ≤ x.level
          go v (old j) = omega (arith, a.high v (below_top G ok v s j))
          go v (within k l) = k
          go v (gap_before k l y z) = k

      module _ {k : ℕ} (near : Above tops (s - G) k) (t : ℕ) (before : t < s) where
        pub lift_filled : c < min k x.level → get_or tops (min k x.level) 0 ≤ t → required_level (x ∷ es) G t ≡ min k x.level
        lift_filled h l =
            level_is (x ∷ es) G t (min k x.level) (omega (arith, x-sound.top))
            (λ p. cons_gap (min k x.level) t (omega arith) (near.low (min k x.level) p (omega arith)) l before)
            (λ v p j. go v (joined_cons v t j))
          where
            go : (v : ℕ) → More v t → v ≤ min k x.level
            go v (old j) = le_of_not_lt (λ q. omega (arith, below_top G ok v t j, tops_fall ok (min k x.level) v (omega arith)))
            go v (within q r) = absurd (omega arith)
            go v (gap_before q r y z) = omega (arith, near.high v r)

        pub lift_kept : (c < min k x.level → t < get_or tops (min k x.level) 0) → required_level (x ∷ es) G t ≡ required_level es G t
        lift_kept h = same_level t keep
          where
            keep : (v : ℕ) → 1 ≤ v → More v t → Joined es v G t
            keep v p (old j) = j
            keep v p (within q r) = absurd (omega arith)
            keep v p (gap_before q r y z) = absurd (go (dec_lt c (min k x.level)))
              where
                go : Dec (c < min k x.level) → ⊥
                go (yes d) = omega (arith, h d, tops_fall ok v (min k x.level) (omega (arith, near.high v r)))
                go (no d) = omega (arith, a.low v p (omega (arith, near.high v r)))
