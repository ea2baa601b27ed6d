-- What is made of the parts of the memory, one state at a time, is what the calls on the whole memory say.
-- Assumes nothing.
use Rattle.std.specs.Prelude.{Option, Some, None, Result, IsErrAnd, if◌then◌else◌}
use Prim.Native.Nat.{ℕ, zero, suc, ◌≤◌}
use native.Mathlib.Omega.{arith}
use mathlib.Core.Path.{◌≡◌, refl, sym, ap, ap₂, subst, ◌∙◌}
use mathlib.Core.Bool.{Bool, true, false, ◌&&◌}
use mathlib.Core.List.{List, [], ◌∷◌}
use lib.ListN.{length, set, replicate, length-set}
use lib.Dec.{leb}
use borrow.Author.Tests.{leb-true}
use Rattle.base.specs.Choice.{all_of}
use Rattle.base.specs.Answer.{Answer, accepted, refused, ◌>>=◌, is_accepted, replied}
use Rattle.refusal.specs.Refusal.{unless_refuse, refusal, number_of, value_of, answer_of}
use Rattle.refusal.specs.declared.Refusal.{Refusal}
use Rattle.refusal.specs.declared.Refusal.TheVariants as Row
use Rattle.refusal.proofs.RefuseLaws.{passed_on, tested}
use Rattle.base.proofs.AnswerLaws.{bind_same}
use Rattle.job.specs.declared.Header.{Header}
use Rattle.job.specs.declared.StoredJob.{StoredJob}
use Rattle.open_job.specs.declared.KeptState.{KeptState}
use Rattle.open_job.specs.declared.OpenStates.{OpenStates}
use Rattle.open_memory.specs.declared.rules.Limits.{Limits}
use Rattle.open_memory.specs.Steps.{limits_of, places_pass}
use Rattle.open_memory.proofs.LimitLaws.{state_none}
use Rattle.open_job.specs.States.{most_kept, greatest_state_number, nothing_kept, kept_from, state_of, is_used, kept_sound, all_sound, kept_states, kept_under, states_from, are_open_states}
use Rattle.open_job.specs.Calls.{memory_after, open_job, open_states, under_rules, changed_in, test_state, keep_in, kept_job, return_in}
use Rattle.open_job.specs.Parts.{passes, each_passes, each_sound, as_eight, Carries, after_keep, Keeps, looked_for, after_opening}
use Rattle.open_memory.specs.Memory.{most_standing, is_open_job}
use Rattle.open_job.proofs.StateLaws.{eight_same, now_open}
use Rattle.open_job.proofs.SoundLaws.{counted_sound, kept_sound_lem}

-- The kept states, each tested by the limits of the header.
each_kept : (h : Header) (l : Limits) → Some l ≡ limits_of h → (ks : List KeptState) → all_of (passes l) ks ≡ all_of (kept_sound h) ks
unfolding all_of
each_kept h l own [] = refl
each_kept h l own (k ∷ ks) = ap₂ ◌&&◌ (kept_sound_lem h l own k) (each_kept h l own ks)

-- The memory's array, whose length the type gives.
abbrev with_kept : StoredJob → List KeptState → OpenStates
with_kept a ks = record { present = a; kept = ks }

module _ (m : OpenStates) where
  pub test_whole : each_sound m ≡ are_open_states m
  unfolding are_open_states
  test_whole = go (limits_of m.present.header) refl
    where
      go : (o : Option Limits) → o ≡ limits_of m.present.header → each_passes m o ≡ (is_open_job m.present && all_sound m)
      go (Some l) e =
          ap₂ ◌&&◌ (counted_sound m.present.header l e (kept_from m.present)) (each_kept m.present.header l e (kept_states m))
      go None e = ap (λ (b : Bool). b && all_sound m) (state_none m.present.header m.present.header.count m.present.hazards e)

  -- The same by the limits that the header has.
  pub sound_some : (l : Limits) → Some l ≡ limits_of m.present.header
      → are_open_states m ≡ (leb m.present.header.count most_standing && places_pass l m.present.header.count m.present.hazards && all_of (passes l) (kept_states m))
  sound_some l e = sym (ap (each_passes m) e ∙ test_whole)

  pub sound_none : None ≡ limits_of m.present.header → false ≡ are_open_states m
  sound_none e = ap (each_passes m) e ∙ test_whole

  -- Add, withdraw and return: what a call makes of the present state is carried over into the whole memory.
  pub change_whole : (call : Answer StoredJob) → Carries m (under_rules (are_open_states m) call) (changed_in m call)
  change_whole call = go (under_rules (are_open_states m) call)
    where
      go : (part : Answer StoredJob) → Carries m part (part >>= λ a. accepted (states_from a (kept_states m)))
      go (accepted a) = (refl, refl)
      go (refused k v) = (refl, refl)

  -- Keep

  pub keep_whole : (number : ℕ) → Keeps m number (under_rules (are_open_states m) (test_state number)) (keep_in m number)
  unfolding keep_in
  keep_whole number = go (under_rules (are_open_states m) (test_state number))
    where
      new : List KeptState
      new = set m.kept number (kept_from m.present)

      stored : length m.kept ≡ most_kept
          → record { present = m.present; kept = new } ≡ states_from m.present (set (kept_states m) number (kept_from m.present))
      stored size =
          sym (ap (λ (ks : List KeptState). states_from m.present (set ks number (kept_from m.present))) (eight_same m.kept size)
          ∙ ap (with_kept m.present) (eight_same new (length-set m.kept number (kept_from m.present) ∙ size)))

      go : (part : Answer (Unit {0})) → Keeps m number part
          (part >>= λ _. accepted (states_from m.present (set (kept_states m) number (kept_from m.present))))
      go (accepted u) = (refl, stored, refl)
      go (refused k v) = (refl, (λ size. refl), refl)

  -- Return

  -- What is found under a number 0 to 7 is what is kept there.
  found : (number : ℕ) → leb number greatest_state_number ≡ true → looked_for m number ≡ kept_under m number
  found zero e = refl
  found (suc zero) e = refl
  found (suc (suc zero)) e = refl
  found (suc (suc (suc zero))) e = refl
  found (suc (suc (suc (suc zero)))) e = refl
  found (suc (suc (suc (suc (suc zero))))) e = refl
  found (suc (suc (suc (suc (suc (suc zero)))))) e = refl
  found (suc (suc (suc (suc (suc (suc (suc zero))))))) e = refl
  found (suc (suc (suc (suc (suc (suc (suc (suc n)))))))) e =
      absurd (let l : suc (suc (suc (suc (suc (suc (suc (suc n))))))) ≤ 7 = leb-true _ _ e in omega arith)

  return_same : (number : ℕ) → kept_job m.present.header number (looked_for m number) ≡ kept_job m.present.header number (kept_under m number)
  unfolding kept_job
  return_same number = bind_same (test_state number) _ _ (λ u e. ap back (found number (tested (leb number greatest_state_number) Row.State u e)))
    where
      back : KeptState → Answer StoredJob
      back k = unless_refuse (is_used k) Row.State >>= λ _. accepted (state_of m.present.header k)

  -- A return to what stands in the array under the number is the return.
  pub return_found : (number : ℕ) → changed_in m (kept_job m.present.header number (looked_for m number)) ≡ return_in m number
  unfolding return_in
  return_found number = ap (changed_in m) (return_same number)

  pub return_whole : (number : ℕ) → Carries m (under_rules (are_open_states m) (kept_job m.present.header number (looked_for m number))) (return_in m number)
  return_whole number =
      let call = kept_job m.present.header number (looked_for m number) in
      subst (Carries m (under_rules (are_open_states m) call)) (return_found number) (change_whole call)

  -- The same of what is kept under the number, as the definition has it.
  pub return_kept : (number : ℕ) → Carries m (under_rules (are_open_states m) (kept_job m.present.header number (kept_under m number))) (return_in m number)
  unfolding return_in
  return_kept number = change_whole (kept_job m.present.header number (kept_under m number))

  -- Opening

  pub open_whole : (s : List ℕ) (done : Bool) (a : StoredJob) (number value : ℕ) → (if done then accepted a else refused number value) ≡ open_job s
      → (after_opening m done a ≡ memory_after (open_states s) m) × (replied (open_job s) ≡ replied (open_states s))
  unfolding open_states
  open_whole s true a number value e = rw (sym e) (refl, refl)
  open_whole s false a number value e = rw (sym e) (refl, refl)

-- The calls in the caller's memory, whose array has eight states by its type.

-- What a call leaves of the memory, and its reply.
pub record Leaves (m : OpenStates) (whole : Answer OpenStates) (part : Answer (Unit {0})) (n : OpenStates) : Type 0 where
  pub memory : n ≡ memory_after whole m
  pub reply : replied part ≡ replied whole

module _ (m : OpenStates) where
  pub eight_whole : length m.kept ≡ most_kept → as_eight m ≡ m
  eight_whole size = ap (with_kept m.present) (eight_same m.kept size)

  -- The memory's test, first of each call but opening.
  abbrev test : Answer (Unit {0})
  test = unless_refuse (are_open_states m) (Row.HeaderRange 0)

  pub test_passed : (u : Unit {0}) → accepted u ≡ test → is_open_job m.present ≡ true
  test_passed u e = now_open m (tested (are_open_states m) (Row.HeaderRange 0) u (sym e))

  pub under_refused : {A : Type 0} (q : Refusal) (call : Answer A) → refusal q ≡ test → under_rules (are_open_states m) call ≡ refusal q
  under_refused q call e = rw (sym e) refl

  pub under_passed : {A : Type 0} (u : Unit {0}) (call : Answer A) → accepted u ≡ test → under_rules (are_open_states m) call ≡ call
  under_passed u call e = rw (sym e) refl

  -- What replies with a refusal is that refusal.
  refused_whole : (whole : Answer OpenStates) (q : Refusal) → replied {A = StoredJob} (refusal q) ≡ replied whole → whole ≡ refusal q
  refused_whole (accepted n) q e = cc
  refused_whole (refused k v) q e = cc

  -- A call that is refused leaves the memory as it was.
  refused_leaves : (whole : Answer OpenStates) (q : Refusal) → whole ≡ refusal q → Leaves m whole (refusal q) m
  refused_leaves whole q e = rw e (record { memory = refl; reply = refl })

  -- Add, withdraw and return: what a call makes of the present state is stored, and what is kept stays.
  pub change_broken : (call : Answer StoredJob) (whole : Answer OpenStates) → Carries m (under_rules (are_open_states m) call) whole
      → (r : Result (Unit {0}) Refusal) (q : Refusal) → IsErrAnd r (λ e. e ≡ q) → refusal q ≡ test → Leaves m whole (answer_of r) m
  change_broken call whole w r q h e = rw (passed_on r q h) (refused_leaves whole q (refused_whole whole q (ap replied (sym (under_refused q call e)) ∙ w.1)))

  module _ (size : length m.kept ≡ most_kept) (call : Answer StoredJob) (whole : Answer OpenStates) (w : Carries m (under_rules (are_open_states m) call) whole) where
    changes : (part : Answer StoredJob) → part ≡ under_rules (are_open_states m) call → (how : Answer (Unit {0})) → replied how ≡ replied part
        → Leaves m whole how (with_kept (memory_after part m.present) m.kept)
    changes part p how e = record {
      memory =
          ap (with_kept (memory_after part m.present)) (sym (eight_same m.kept size))
          ∙ ap (λ (x : Answer StoredJob). states_from (memory_after x m.present) (kept_states m)) p
          ∙ w.0
          ∙ ap (memory_after whole) (eight_whole size);
      reply = e ∙ ap replied p ∙ w.1;
    }

    pub change_refused : (u : Unit {0}) → accepted u ≡ test → (r : Result (Unit {0}) Refusal) (q : Refusal) → IsErrAnd r (λ e. e ≡ q) → refusal q ≡ call
        → Leaves m whole (answer_of r) m
    change_refused u t r q h e = changes (refusal q) (e ∙ sym (under_passed u call t)) (answer_of r) (ap replied (passed_on r q h))

    pub change_done : (u : Unit {0}) → accepted u ≡ test → (a : StoredJob) → accepted a ≡ call → Leaves m whole (accepted tt) (with_kept a m.kept)
    change_done u t a e = changes (accepted a) (e ∙ sym (under_passed u call t)) (accepted tt) refl

  -- A return on memory that breaks the rules is refused, and alters nothing.
  pub return_broken : (number : ℕ) (r : Result (Unit {0}) Refusal) (q : Refusal) → IsErrAnd r (λ e. e ≡ q) → refusal q ≡ test
      → Leaves m (return_in m number) (answer_of r) m
  return_broken number = change_broken (kept_job m.present.header number (looked_for m number)) (return_in m number) (return_whole m number)

  -- Keep

  pub keep_broken : (number : ℕ) (r : Result (Unit {0}) Refusal) (q : Refusal) → IsErrAnd r (λ e. e ≡ q) → refusal q ≡ test
      → Leaves m (keep_in m number) (answer_of r) m
  unfolding keep_in
  keep_broken number r q h e =
      rw (passed_on r q h)
      (refused_leaves (keep_in m number) q
      (ap (λ (a : Answer (Unit {0})). a >>= λ _. accepted (states_from m.present (set (kept_states m) number (kept_from m.present))))
      (under_refused q (test_state number) e)))

  module _ (size : length m.kept ≡ most_kept) (number : ℕ) where
    keeps : (part : Answer (Unit {0})) → part ≡ under_rules (are_open_states m) (test_state number) → (how : Answer (Unit {0})) → replied how ≡ replied part
        → Leaves m (keep_in m number) how (after_keep m (is_accepted (replied part)) number)
    keeps part p how e =
        let w = keep_whole m number in
        record { memory = ap (λ (x : Answer (Unit {0})). after_keep m (is_accepted (replied x)) number) p ∙ w.1 size; reply = e ∙ ap replied p ∙ w.2 }

    pub keep_refused : (u : Unit {0}) → accepted u ≡ test → (r : Result (Unit {0}) Refusal) (q : Refusal) → IsErrAnd r (λ e. e ≡ q)
        → refusal q ≡ test_state number → Leaves m (keep_in m number) (answer_of r) m
    keep_refused u t r q h e = keeps (refusal q) (e ∙ sym (under_passed u (test_state number) t)) (answer_of r) (ap replied (passed_on r q h))

    pub keep_done : (u : Unit {0}) → accepted u ≡ test → (v : Unit {0}) → accepted v ≡ test_state number
        → Leaves m (keep_in m number) (accepted tt) (with_kept m.present (set m.kept number (kept_from m.present)))
    keep_done u t v e = keeps (accepted v) (e ∙ sym (under_passed u (test_state number) t)) (accepted tt) refl

  -- Opening

  pub open_refused : (s : List ℕ) (q : Refusal) → refusal q ≡ open_job s → Leaves m (open_states s) (refusal q) m
  open_refused s q e =
      let w = open_whole m s false m.present (number_of q) (value_of q) e in record { memory = w.0; reply = ap replied e ∙ w.1 }

  pub open_done : (s : List ℕ) (a : StoredJob) → accepted a ≡ open_job s → Leaves m (open_states s) (accepted tt) (with_kept a (replicate most_kept nothing_kept))
  open_done s a e = let w = open_whole m s true a 0 0 e in record { memory = w.0; reply = ap replied e ∙ w.1 }
