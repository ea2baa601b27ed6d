-- One envelope less: outside it, lengthened by G at both ends, the required level is the same.
-- Assumes nothing.
use Rattle.std.proofs.Common.{◌≡◌, ℕ, ◌+◌, ◌<◌, ◌≤◌, ◌⊎◌, List, sym, subst, inl, inr, arith}
use mathlib.Core.List.{Memᴰ}
use Rattle.runs.specs.declared.Stretch.{Stretch}
use Rattle.runs.specs.Level.{required_level}
use Rattle.runs.proofs.LevelLaws.{Joined, covered, bridged, level_le, required_more}

-- t is outside the envelope lengthened by G at both ends.
abbrev pub Outside : Stretch → (G t : ℕ) → Type 0
Outside e G t = (t + G < e.start) ⊎ (e.end + G ≤ t)

module _ (e : Stretch) (es fs : List Stretch) (G t : ℕ) (long : e.start < e.end) (out : Outside e G t)
    (only : (x : Stretch) → Memᴰ x es → (x ≡ e) ⊎ Memᴰ x fs) (more : (x : Stretch) → Memᴰ x fs → Memᴰ x es) where
  -- What reaches t, or would fill a gap there, begins by t + G and ends after t - G: e does not.
  far : {x : Stretch} {C : Type 0} → x ≡ e → (x.start < x.end → (x.start ≤ t + G) × (t < x.end + G)) → C
  far q near = absurd (subst (λ (s : Stretch). (s.start < s.end → (s.start ≤ t + G) × (t < s.end + G)) → ⊥) (sym q) (λ w. go out (w long)) near)
    where
      go : Outside e G t → (e.start ≤ t + G) × (t < e.end + G) → ⊥
      go (inl l) w = omega (arith, w.0)
      go (inr l) w = omega (arith, w.1)

  joined_without : (v : ℕ) → Joined es v G t → Joined fs v G t
  joined_without v (covered x m h k) = go (only x m)
    where
      go : (x ≡ e) ⊎ Memᴰ x fs → Joined fs v G t
      go (inl q) = far q (λ l. (omega (arith, k.0), omega (arith, k.1)))
      go (inr m') = covered x m' h k
  joined_without v (bridged a b m o h k x y z) = go (only a m) (only b o)
    where
      go : (a ≡ e) ⊎ Memᴰ a fs → (b ≡ e) ⊎ Memᴰ b fs → Joined fs v G t
      go (inl q) w = far q (λ l. (omega arith, omega arith))
      go (inr m') (inl q) = far q (λ l. (omega arith, omega arith))
      go (inr m') (inr o') = bridged a b m' o' h k x y z

  -- Nothing but e is missing from fs: the level is the same.
  pub level_without : required_level es G t ≡ required_level fs G t
  level_without = omega (arith, required_more fs es G t more, level_le es fs G t t (λ v p. joined_without v))
