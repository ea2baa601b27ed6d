-- Two open jobs are equal exactly if their headers are alike and the same hazards stand and are kept under the same names and numbers.
-- Assumes nothing.
use Prim.Native.Nat.{ℕ, ◌+◌, ◌≤◌, ◌<◌}
use native.Mathlib.Omega.{arith}
use native.Mathlib.Decide.{dec_le}
use mathlib.Core.Path.{◌≡◌, refl, sym, ap, ap₂, subst, ◌∙◌}
use mathlib.Core.Logic.{◌⊎◌, inl, inr}
use mathlib.Core.Bool.{Bool, true, false}
use mathlib.Core.List.Memᴰ
use mathlib.Core.List.{List, [], ◌∷◌, Memᴰ}
use lib.ListN.{length}
use borrow.Author.Tests.{eqb-true}
use Rattle.job.specs.declared.Header.{Header}
use Rattle.job.specs.declared.NamedHazard.{NamedHazard}
use Rattle.job.specs.declared.StoredJob.{StoredJob}
use Rattle.job.specs.Job.{counted}
use Rattle.demands.specs.Demands.{Alike}
use Rattle.open_memory.specs.Memory.{standing, laid_out, is_open_job}
use Rattle.open_memory.proofs.RuleLaws.{Stand}
use Rattle.open_job.proofs.LayoutLaws.{open_exactly}
use Rattle.open_job.specs.declared.KeptState.{KeptState}
use Rattle.open_job.specs.declared.OpenStates.{OpenStates}
use Rattle.open_job.specs.States.{kept_from, state_of, is_used, kept_sound, kept_under}
use Rattle.open_job.proofs.StateLaws.{states_same, none_above, nothing_is, sound_used, sound_unused, now_open, each_sound_lem}
use Rattle.open_promises.specs.Rules.{SameHazards, SameKept, both_nothing, both_states, SameOpenJob, EqualPromise}
use Rattle.open_promises.proofs.MeaningLaws.{places_under}

-- Hazards whose names rise stand in one order alone.

name_from : (h : Header) (low : ℕ) (ps : List NamedHazard) → Stand h low ps → (x : NamedHazard) → Memᴰ x ps → low ≤ x.name
name_from h low [] t x m = absurd (Memᴰ.not-nil m)
name_from h low (p ∷ ps) t x m = go (Memᴰ.cases_cons m) (name_from h (p.name + 1) ps t.3 x)
  where
    go : (x ≡ p) ⊎ Memᴰ x ps → (Memᴰ x ps → p.name + 1 ≤ x.name) → low ≤ x.name
    go (inl e) r = omega (arith, t.0, ap (λ (y : NamedHazard). y.name) e)
    go (inr k) r = omega (arith, t.0, r k)

-- Of a greater name than the first: it stands behind that.
behind_first : (p x : NamedHazard) (ps : List NamedHazard) → p.name < x.name → Memᴰ x (p ∷ ps) → Memᴰ x ps
behind_first p x ps l m = go (Memᴰ.cases_cons m)
  where
    go : (x ≡ p) ⊎ Memᴰ x ps → Memᴰ x ps
    go (inl e) = absurd (omega (arith, ap (λ (y : NamedHazard). y.name) e))
    go (inr k) = k

module _ (h k : Header) where
  one_order : (low high : ℕ) (ps qs : List NamedHazard) → Stand h low ps → Stand k high qs → SameHazards ps qs → ps ≡ qs
  one_order low high [] [] t u s = refl
  one_order low high [] (q ∷ qs) t u s = absurd (Memᴰ.not-nil ((s q).1 (Memᴰ.head refl)))
  one_order low high (p ∷ ps) [] t u s = absurd (Memᴰ.not-nil ((s p).0 (Memᴰ.head refl)))
  one_order low high (p ∷ ps) (q ∷ qs) t u s =
      let first : p ≡ q = heads (Memᴰ.cases_cons ((s p).0 (Memᴰ.head refl))) (Memᴰ.cases_cons ((s q).1 (Memᴰ.head refl))) in
      let name : p.name ≡ q.name = ap (λ (y : NamedHazard). y.name) first in
      ap₂ (λ (x : NamedHazard) (xs : List NamedHazard). x ∷ xs) first (one_order (p.name + 1) (q.name + 1) ps qs t.3 u.3 (λ x. (
        λ m. behind_first q x qs (omega (arith, name, name_from h (p.name + 1) ps t.3 x m)) ((s x).0 (Memᴰ.tail m)),
        λ m. behind_first p x ps (omega (arith, name, name_from k (q.name + 1) qs u.3 x m)) ((s x).1 (Memᴰ.tail m)),
      )))
    where
      heads : (p ≡ q) ⊎ Memᴰ p qs → (q ≡ p) ⊎ Memᴰ q ps → p ≡ q
      heads (inl e) b = e
      heads (inr a) (inl e) = sym e
      heads (inr a) (inr b) = absurd (omega (arith, name_from k (q.name + 1) qs u.3 p a, name_from h (p.name + 1) ps t.3 q b))

-- One state: what stands in it and its header say all of it.
state_equal : (a b : StoredJob) → length a.hazards ≡ 256 → length b.hazards ≡ 256 → is_open_job a ≡ true → is_open_job b ≡ true
    → Alike a.header b.header → SameHazards (standing a) (standing b) → a ≡ b
state_equal a b size-a size-b open-a open-b alike same =
    let x = (open_exactly a size-a).0 open-a in
    let y = (open_exactly b size-b).0 open-b in
    let stand = one_order a.header b.header 0 0 (standing a) (standing b) x.hazards y.hazards same in
    x.layout ∙ ap (λ (h : Header). laid_out h (standing a)) alike ∙ ap (laid_out b.header) stand ∙ sym y.layout

-- What is kept under a number.
module _ (h i : Header) (alike : Alike h i) (k l : KeptState) (size-k : length k.hazards ≡ 256) (size-l : length l.hazards ≡ 256)
    (sound-k : kept_sound h k ≡ true) (sound-l : kept_sound i l ≡ true) where
  used_is : (g : Header) (x : KeptState) → is_used x ≡ true → x ≡ kept_from (state_of g x)
  unfolding is_used
  used_is g x e = let used : x.used ≡ 1 = eqb-true _ _ e in λ j. record { used = used j; count = x.count; hazards = x.hazards }

  kept_equal : SameKept k l → k ≡ l
  kept_equal (both_nothing p q) = nothing_is k size-k (sound_unused k h p ∙ sound-k) ∙ sym (nothing_is l size-l (sound_unused l i q ∙ sound-l))
  kept_equal (both_states p q same) =
      used_is h k p
      ∙ ap kept_from (state_equal (state_of h k) (state_of i l) size-k size-l (sound_used k h p ∙ sound-k) (sound_used l i q ∙ sound-l)
      (ap (λ (g : Header). counted g l.count) alike) same)
      ∙ sym (used_is i l q)

-- The same as itself.
same_kept : (k : KeptState) → SameKept k k
same_kept k = go (is_used k) refl
  where
    go : (b : Bool) → is_used k ≡ b → SameKept k k
    go true e = both_states e e (λ p. (λ m. m, λ m. m))
    go false e = both_nothing e e

same_open : (a : OpenStates) → SameOpenJob a a
same_open a = record { header = refl; hazards = λ p. (λ m. m, λ m. m); kept = λ number l. same_kept (kept_under a number) }

pub equal_promise : EqualPromise
equal_promise a b places-a places-b open-a open-b = (λ e. subst (SameOpenJob a) e (same_open a), equal)
  where
    equal : SameOpenJob a b → a ≡ b
    equal s = states_same a b places-a.eight places-b.eight (state_equal a.present b.present places-a.present_state places-b.present_state (now_open a open-a) (now_open b open-b)
        s.header s.hazards) (λ number. go number (dec_le number 7))
      where
        go : (number : ℕ) → Dec (number ≤ 7) → kept_under a number ≡ kept_under b number
        go number (yes l) =
            kept_equal a.present.header b.present.header s.header (kept_under a number) (kept_under b number) (places_under a places-a number)
            (places_under b places-b number) (each_sound_lem a open-a number) (each_sound_lem b open-b number)
            (s.kept number l)
        go number (no l) = none_above a number (omega arith) ∙ sym (none_above b number (omega arith))
