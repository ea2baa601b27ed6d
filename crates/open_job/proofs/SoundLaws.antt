-- The test of a state's places by the limits of a header is the memory's test of it.
-- Assumes nothing.
use Rattle.std.specs.Prelude.{Some, None, if◌then◌else◌}
use Prim.Native.Nat.{ℕ, ◌≤◌}
use native.Mathlib.Omega.{arith}
use mathlib.Core.Path.{◌≡◌, refl, ◌∙◌}
use mathlib.Core.Bool.{Bool, true, false, ◌&&◌}
use lib.Dec.{leb, eqb}
use borrow.Author.Tests.{leb-true}
use Rattle.base.specs.Choice.{all_of}
use Rattle.job.specs.declared.Header.{Header}
use Rattle.open_memory.specs.declared.rules.Limits.{Limits}
use Rattle.open_memory.specs.Memory.{most_standing, is_unused, is_open_job}
use Rattle.open_memory.specs.Steps.{limits_of, low_after, places_pass}
use Rattle.open_memory.proofs.LimitLaws.{state_sound, state_many, bits_after_lem}
use Rattle.open_job.specs.declared.KeptState.{KeptState}
use Rattle.open_job.specs.States.{state_of, is_used, is_nothing_kept, kept_sound}
use Rattle.open_job.specs.Parts.{hazards_held, places_held, passes}
use Rattle.open_job.proofs.StateLaws.{sound_used, sound_unused}

-- A state has no more hazards than may stand.
pub held_most : (used count n : ℕ) → Some n ≡ hazards_held used count → n ≤ 256
unfolding hazards_held
held_most used count n = go (eqb used 1) (leb count most_standing) refl (eqb used 0 && eqb count 0)
  where
    go : (u f : Bool) → leb count most_standing ≡ f → (z : Bool)
        → Some n ≡ (if u then (if f then Some count else None) else (if z then Some 0 else None)) → n ≤ 256
    go true true e z h = let same : n ≡ count = cc in omega (arith, same, leb-true count most_standing e)
    go true false e z h = cc
    go false f e true h = let same : n ≡ 0 = cc in omega (arith, same)
    go false f e false h = cc

module _ (h : Header) (l : Limits) (own : Some l ≡ limits_of h) where
  -- The present state, or one that is kept.
  pub counted_sound : (k : KeptState) → (leb k.count most_standing && places_pass l k.count k.hazards) ≡ is_open_job (state_of h k)
  counted_sound k = go (leb k.count most_standing) refl
    where
      go : (f : Bool) → leb k.count most_standing ≡ f → (f && places_pass l k.count k.hazards) ≡ is_open_job (state_of h k)
      go true e = state_sound h k.count k.hazards l own (leb-true k.count most_standing e)
      go false e = state_many h k.count k.hazards e

  used_sound : (k : KeptState) → eqb k.used 1 ≡ true → passes l k ≡ is_open_job (state_of h k)
  unfolding hazards_held
  used_sound k u = rw u (go (leb k.count most_standing)) ∙ counted_sound k
    where
      go : (f : Bool) → places_held l (if f then Some k.count else None) k.hazards ≡ (f && places_pass l k.count k.hazards)
      go true = refl
      go false = refl

  unused_sound : (k : KeptState) → eqb k.used 1 ≡ false → passes l k ≡ is_nothing_kept k
  unfolding hazards_held is_nothing_kept places_pass low_after
  unused_sound k u = rw u (go (eqb k.used 0 && eqb k.count 0))
    where
      go : (z : Bool) → places_held l (if z then Some 0 else None) k.hazards ≡ (z && all_of is_unused k.hazards)
      go true = bits_after_lem 0 k.hazards
      go false = refl

  -- One kept state.
  pub kept_sound_lem : (k : KeptState) → passes l k ≡ kept_sound h k
  unfolding is_used
  kept_sound_lem k = go (eqb k.used 1) refl
    where
      go : (u : Bool) → eqb k.used 1 ≡ u → passes l k ≡ kept_sound h k
      go true e = used_sound k e ∙ sound_used k h e
      go false e = unused_sound k e ∙ sound_unused k h e
