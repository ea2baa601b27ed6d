-- The memory as a present state and eight kept ones: put together and taken apart, and what its test says of each.
-- Assumes nothing.
use Rattle.std.specs.Prelude.{if◌then◌else◌}
use Prim.Native.Nat.{ℕ, zero, suc, ◌≤◌, ◌<◌}
use native.Mathlib.Omega.{arith}
use native.Mathlib.Decide.{ℕ_discrete}
use mathlib.Core.Path.{◌≡◌, refl, sym, ap, ◌∙◌}
use mathlib.Core.Logic.{◌⊎◌, inl, inr}
use mathlib.Core.Bool.{Bool, true, false, ◌&&◌, or-false, and-false}
use mathlib.Core.List.{List, [], ◌∷◌}
use lib.ListN.{length, take, replicate, get_or, set, length-set, get_or-eq_default}
use lib.Seq.{get_or-set_same, get_or-set_other}
use lib.Dec.{leb, eqb}
use borrow.Author.Tests.{eqb-true, eq-eqb, ne_eqb}
use Rattle.base.specs.Choice.{all_of}
use Rattle.base.specs.Answer.{accepted}
use Rattle.refusal.specs.declared.Refusal.TheVariants as Row
use Rattle.refusal.proofs.RefuseLaws.{tested, passed}
use Rattle.std.proofs.lemmas.Bool.{and_from, and_parts, or_cases, or_left}
use Rattle.job.specs.declared.Header.{Header}
use Rattle.job.specs.declared.StoredJob.{StoredJob}
use Rattle.job.specs.Reply.{unused}
use Rattle.open_memory.specs.Memory.{most_standing, is_unused, is_open_job}
use Rattle.open_memory.proofs.RuleLaws.{unused_are}
use Rattle.open_job.proofs.LayoutLaws.{unused_all}
use Rattle.open_job.specs.declared.KeptState.{KeptState}
use Rattle.open_job.specs.declared.OpenStates.{OpenStates}
use Rattle.open_job.specs.States.{most_kept, greatest_state_number, nothing_kept, kept_from, state_of, is_used, is_nothing_kept, kept_sound, kept_states, kept_under}
use Rattle.open_job.specs.States.{eight, states_from, are_open_states}
use Rattle.open_job.specs.Calls.{under_rules, test_state}

-- Put together and taken apart

-- A list of eight is as it is.
pub eight_same : (ks : List KeptState) → length ks ≡ most_kept → eight ks ≡ ks
eight_same (k0 ∷ k1 ∷ k2 ∷ k3 ∷ k4 ∷ k5 ∷ k6 ∷ k7 ∷ []) e = refl
eight_same [] e = absurd (omega arith)
eight_same (k0 ∷ []) e = absurd (omega arith)
eight_same (k0 ∷ k1 ∷ []) e = absurd (omega arith)
eight_same (k0 ∷ k1 ∷ k2 ∷ []) e = absurd (omega arith)
eight_same (k0 ∷ k1 ∷ k2 ∷ k3 ∷ []) e = absurd (omega arith)
eight_same (k0 ∷ k1 ∷ k2 ∷ k3 ∷ k4 ∷ []) e = absurd (omega arith)
eight_same (k0 ∷ k1 ∷ k2 ∷ k3 ∷ k4 ∷ k5 ∷ []) e = absurd (omega arith)
eight_same (k0 ∷ k1 ∷ k2 ∷ k3 ∷ k4 ∷ k5 ∷ k6 ∷ []) e = absurd (omega arith)
eight_same (k0 ∷ k1 ∷ k2 ∷ k3 ∷ k4 ∷ k5 ∷ k6 ∷ k7 ∷ k8 ∷ ks) e = absurd (omega arith)

pub kept_states_lem : (a : StoredJob) (ks : List KeptState) → length ks ≡ most_kept → kept_states (states_from a ks) ≡ ks
kept_states_lem a ks e = eight_same ks e

pub kept_under_lem : (a : StoredJob) (ks : List KeptState) → length ks ≡ most_kept → (number : ℕ) → kept_under (states_from a ks) number ≡ get_or ks number nothing_kept
kept_under_lem a ks e number = ap (λ (l : List KeptState). get_or l number nothing_kept) (kept_states_lem a ks e)

-- One of them replaced.
pub replaced : (ks : List KeptState) (n k : ℕ) (new : KeptState) → (n ≡ k → k < length ks)
    → get_or (set ks n new) k nothing_kept ≡ (if eqb n k then new else get_or ks k nothing_kept)
replaced ks n k new within = go (ℕ_discrete n k)
  where
    go : Dec (n ≡ k) → get_or (set ks n new) k nothing_kept ≡ (if eqb n k then new else get_or ks k nothing_kept)
    go (yes q) = rw (eq-eqb n k q) (ap (λ (x : ℕ). get_or (set ks x new) k nothing_kept) q ∙ get_or-set_same ks k new nothing_kept (within q))
    go (no q) = rw (ne_eqb n k q) (get_or-set_other ks n k new nothing_kept (λ r. q (sym r)))

pub kept_set : (m : OpenStates) (n number : ℕ) (new : KeptState) → n ≤ 7
    → kept_under (states_from m.present (set (kept_states m) n new)) number ≡ (if eqb n number then new else kept_under m number)
kept_set m n number new most =
    kept_under_lem m.present (set (kept_states m) n new) (length-set (kept_states m) n new) number ∙ replaced (kept_states m) n number new (λ q. omega arith)

-- Memory is what it has now, and under each number.
pub states_same : (m n : OpenStates) → length m.kept ≡ most_kept → length n.kept ≡ most_kept → m.present ≡ n.present
    → ((number : ℕ) → kept_under m number ≡ kept_under n number) → m ≡ n
states_same m n size_m size_n now kept =
    let all : kept_states m ≡ kept_states n =
    λ i. kept 0 i ∷ kept 1 i ∷ kept 2 i ∷ kept 3 i ∷ kept 4 i ∷ kept 5 i ∷ kept 6 i ∷ kept 7 i ∷ [] in
    let same : m.kept ≡ n.kept = sym (eight_same m.kept size_m) ∙ all ∙ eight_same n.kept size_n in
    λ i. record { present = now i; kept = same i }

pub none_under : (number : ℕ) → get_or (replicate most_kept nothing_kept) number nothing_kept ≡ nothing_kept
none_under number = go most_kept number
  where
    go : (n i : ℕ) → get_or (replicate n nothing_kept) i nothing_kept ≡ nothing_kept
    go zero i = refl
    go (suc n) zero = refl
    go (suc n) (suc i) = go n i

-- Nothing above the greatest number.
pub none_above : (m : OpenStates) (number : ℕ) → 7 < number → kept_under m number ≡ nothing_kept
none_above m number l = get_or-eq_default (kept_states m) nothing_kept {n = number} (omega arith)

-- The test

pub nothing_sound : (h : Header) → kept_sound h nothing_kept ≡ true
unfolding kept_sound is_nothing_kept
nothing_sound h = or_left _ _ (unused_all most_standing)

pub not_used : is_used nothing_kept ≡ false
unfolding is_used
not_used = refl

pub kept_used : (a : StoredJob) → is_used (kept_from a) ≡ true
unfolding is_used
kept_used a = refl

module _ (k : KeptState) where
  pub nothing_is : length k.hazards ≡ most_standing → is_nothing_kept k ≡ true → k ≡ nothing_kept
  unfolding is_nothing_kept
  nothing_is size e =
      let numbers = (and_parts (eqb k.used 0 && eqb k.count 0) (all_of is_unused k.hazards) e).0 in
      let used : k.used ≡ 0 = eqb-true _ _ ((and_parts (eqb k.used 0) (eqb k.count 0) numbers).0) in
      let count : k.count ≡ 0 = eqb-true _ _ ((and_parts (eqb k.used 0) (eqb k.count 0) numbers).1) in
      let hazards : k.hazards ≡ replicate most_standing unused = unused_are k.hazards
      ((and_parts (eqb k.used 0 && eqb k.count 0) (all_of is_unused k.hazards) e).1) ∙ ap (λ (n : ℕ). replicate n unused) size in
      λ i. record { used = used i; count = count i; hazards = hazards i }

  -- A state that is kept is not nothing; so the test is one of the two, by whether it is used.
  used_not_nothing : is_used k ≡ true → is_nothing_kept k ≡ false
  unfolding is_used is_nothing_kept
  used_not_nothing e =
      let one : k.used ≡ 1 = eqb-true _ _ e in
      rw (ne_eqb k.used 0 (λ q. omega arith))

  pub sound_used : (h : Header) → is_used k ≡ true → is_open_job (state_of h k) ≡ kept_sound h k
  unfolding kept_sound
  sound_used h e = rw (used_not_nothing e, e)

  pub sound_unused : (h : Header) → is_used k ≡ false → is_nothing_kept k ≡ kept_sound h k
  unfolding kept_sound
  sound_unused h e = rw e (sym (or-false (is_nothing_kept k)))

  -- Nothing is kept, or an open job is.
  pub sound_cases : (h : Header) → kept_sound h k ≡ true → (is_nothing_kept k ≡ true) ⊎ ((is_used k ≡ true) × (is_open_job (state_of h k) ≡ true))
  unfolding kept_sound
  sound_cases h e = go (or_cases (is_nothing_kept k) (is_used k && is_open_job (state_of h k)) e)
    where
      go : (is_nothing_kept k ≡ true) ⊎ (is_used k && is_open_job (state_of h k) ≡ true)
          → (is_nothing_kept k ≡ true) ⊎ ((is_used k ≡ true) × (is_open_job (state_of h k) ≡ true))
      go (inl x) = inl x
      go (inr x) = inr ((and_parts (is_used k) (is_open_job (state_of h k)) x).0, (and_parts (is_used k) (is_open_job (state_of h k)) x).1)

-- The test, of each that is kept.

module _ (p : KeptState → Bool) where
  each_all : (ks : List KeptState) → ((i : ℕ) → p (get_or ks i nothing_kept) ≡ true) → all_of p ks ≡ true
  unfolding all_of
  each_all [] e = refl
  each_all (k ∷ ks) e = and_from (p k) _ (e 0) (each_all ks (λ i. e (suc i)))

  all_each : p nothing_kept ≡ true → (ks : List KeptState) → all_of p ks ≡ true → (i : ℕ) → p (get_or ks i nothing_kept) ≡ true
  unfolding all_of
  all_each none [] e i = none
  all_each none (k ∷ ks) e zero = (and_parts (p k) (all_of p ks) e).0
  all_each none (k ∷ ks) e (suc i) = all_each none ks ((and_parts (p k) (all_of p ks) e).1) i

  -- One more passes, or one does not.
  pub all_turn : (ks : List KeptState) (i : ℕ) (d : KeptState) → i < length ks → all_of p (take i ks) ≡ true → p (get_or ks i d) ≡ true
      → all_of p (take (suc i) ks) ≡ true
  unfolding all_of
  all_turn [] i d l e h = absurd (omega arith)
  all_turn (k ∷ ks) zero d l e h = and_from (p k) _ h refl
  all_turn (k ∷ ks) (suc i) d l e h =
      and_from (p k) _ ((and_parts (p k) (all_of p (take i ks)) e).0) (all_turn ks i d (omega arith) ((and_parts (p k) (all_of p (take i ks)) e).1) h)

  pub one_fails : (ks : List KeptState) (i : ℕ) (d : KeptState) → i < length ks → p (get_or ks i d) ≡ false → false ≡ all_of p ks
  unfolding all_of
  one_fails [] i d l h = absurd (omega arith)
  one_fails (k ∷ ks) zero d l h = rw h refl
  one_fails (k ∷ ks) (suc i) d l h = sym (and-false (p k)) ∙ ap (λ (b : Bool). p k && b) (one_fails ks i d (omega arith) h)

module _ (m : OpenStates) where
  pub states_sound : is_open_job m.present ≡ true → ((number : ℕ) → kept_sound m.present.header (kept_under m number) ≡ true) → are_open_states m ≡ true
  unfolding are_open_states
  states_sound o e = and_from (is_open_job m.present) _ o (each_all (kept_sound m.present.header) (kept_states m) e)

  pub now_open : are_open_states m ≡ true → is_open_job m.present ≡ true
  unfolding are_open_states
  now_open e = (and_parts (is_open_job m.present) (all_of (kept_sound m.present.header) (kept_states m)) e).0

  pub each_sound_lem : are_open_states m ≡ true → (number : ℕ) → kept_sound m.present.header (kept_under m number) ≡ true
  unfolding are_open_states
  each_sound_lem e = all_each (kept_sound m.present.header) (nothing_sound m.present.header) (kept_states m)
      ((and_parts (is_open_job m.present) (all_of (kept_sound m.present.header) (kept_states m)) e).1)

  -- A state number that passes the tests of a keep.
  pub number_most : (number : ℕ) (u : Unit {0}) → under_rules (are_open_states m) (test_state number) ≡ accepted u → leb number greatest_state_number ≡ true
  number_most number u e = tested (leb number greatest_state_number) Row.State u (passed (are_open_states m) (Row.HeaderRange 0) _ u e).1
