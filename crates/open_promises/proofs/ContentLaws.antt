-- What one call leaves, in memory of any content: what is kept, and the room after a withdrawal.
-- Assumes nothing.
use Prim.Native.Nat.{ℕ, ◌≤◌, ◌<◌}
use native.Mathlib.Omega.{arith}
use mathlib.Core.Path.{◌≡◌, refl, sym, ap, subst, ◌∙◌}
use mathlib.Core.Bool.{true}
use mathlib.Core.List.{List}
use lib.ListN.{length, set, length-take}
use borrow.Author.Tests.{leb-true, lt-leb, eq-eqb, ne_eqb}
use Rattle.base.specs.Answer.{Answer, accepted, replied}
use Rattle.refusal.specs.declared.Refusal.TheVariants as Row
use Rattle.base.proofs.AnswerLaws.{bound, bind_assoc, beside_or_made}
use Rattle.refusal.proofs.RefuseLaws.{passed}
use Rattle.job.specs.declared.Header.{Header}
use Rattle.job.specs.declared.Hazard.{Hazard}
use Rattle.job.specs.declared.NamedHazard.{NamedHazard}
use Rattle.job.specs.declared.StoredJob.{StoredJob}
use Rattle.job.specs.Fits.{HeaderFits}
use Rattle.open_memory.specs.Memory.{most_standing, standing, laid_out, stands, without, admit}
use Rattle.open_memory.proofs.RuleLaws.{Stand, open_header, open_standing, open_count}
use Rattle.open_memory.proofs.PlaceLaws.{without_stand}
use Rattle.open_job.specs.States.{greatest_state_number, kept_from, kept_sound, kept_states, kept_under, states_from, are_open_states}
use Rattle.open_job.specs.Calls.{test_add, under_rules, changed_in, add_to, withdraw_from, memory_after, test_state, kept_job, add_in, withdraw_in, keep_in, return_in}
use Rattle.open_job.proofs.LayoutLaws.{laid_standing, laid_open, add_laid}
use Rattle.open_job.specs.declared.KeptState.{KeptState}
use Rattle.open_job.specs.declared.OpenStates.{OpenStates}
use Rattle.open_job.proofs.StateLaws.{kept_set, states_sound, now_open, each_sound_lem, number_most}
use Rattle.open_promises.specs.Lists.{add, withdraw, Call, edit, schedule, keep_as, return_to, after_call, test_name_and_hazard, AgainPromise, RoomPromise}
use Rattle.open_promises.specs.Lists.{UntouchedPromise, KeepPromise}
use Rattle.open_promises.proofs.HazardLaws.{stand_distinct, without_stands, one_less}
use Rattle.open_promises.proofs.ReplyLaws.{add_now}
use Rattle.job.specs.Job.{counted}

pub keep_promise : KeepPromise
unfolding keep_in
keep_promise m next number e =
    let b = bound (under_rules (are_open_states m) (test_state number)) _ next e in
    let most : number ≤ greatest_state_number = leb-true _ _ (number_most m number b.first b.taken) in
    let made : states_from m.present (set (kept_states m) number (kept_from m.present)) ≡ next = let q = b.rest in cc in (
      sym (ap (λ (x : OpenStates). kept_under x number) made) ∙ kept_set m number number (kept_from m.present) most ∙ rw (eq-eqb number number refl),
      sym (ap (λ (x : OpenStates). x.present) made),
    )

pub untouched_promise : UntouchedPromise
unfolding after_call add_in withdraw_in keep_in return_in
untouched_promise m c number other = go c other
  where
    Untouched : OpenStates → Type 0
    Untouched x = kept_under x number ≡ kept_under m number

    change_leaves : (a : Answer StoredJob) → Untouched (memory_after (changed_in m a) m)
    change_leaves a = beside_or_made Untouched m (under_rules (are_open_states m) a) _ refl (λ x f. refl)

    go : (c : Call) → (c ≡ keep_as number → ⊥) → Untouched (after_call m c)
    go (edit (add name z)) other = change_leaves (add_to m.present name z)
    go (edit (withdraw name)) other = change_leaves (withdraw_from m.present name)
    go (schedule side room) other = refl
    go (keep_as n) other =
        beside_or_made Untouched m (under_rules (are_open_states m) (test_state n)) _ refl (λ u e.
        kept_set m n number (kept_from m.present) (leb-true _ _ (number_most m n u e)) ∙ rw (ne_eqb n number (λ q. other (ap keep_as q))))
    go (return_to n) other = change_leaves (kept_job m.present.header n (kept_under m n))

-- After a withdrawal its name stands no more, and there is room.

sound_counted : (h : Header) (n : ℕ) (k : KeptState) → kept_sound h k ≡ kept_sound (counted h n) k
unfolding kept_sound
sound_counted h n k = refl

module _ (m : OpenStates) (good : are_open_states m ≡ true) (name : ℕ) (stood : stands name (standing m.present) ≡ true) where
  abbrev h : Header
  h = m.present.header

  abbrev left : List NamedHazard
  left = without name (standing m.present)

  abbrev next : OpenStates
  next = states_from (laid_out h left) (kept_states m)

  rules_before : Stand h 0 (standing m.present)
  rules_before = open_standing m.present (now_open m good)

  rules : Stand h 0 left
  rules = without_stand h 0 name (standing m.present) rules_before

  header : HeaderFits h
  header = open_header m.present (now_open m good)

  fewer : length left < most_standing
  fewer = omega (
    arith,
    one_less name (standing m.present) (stand_distinct h 0 (standing m.present) rules_before) stood,
    open_count m.present (now_open m good),
    length-take h.count m.present.hazards,
  )

  left_open : are_open_states next ≡ true
  left_open =
      states_sound next (laid_open h left header rules (omega (arith, fewer)))
      (λ number. sym (sound_counted h (length left) (kept_under m number)) ∙ each_sound_lem m good number)

  -- So an add is refused by its name and its hazard alone.
  next_added : (other : ℕ) (z : Hazard) → replied (add_in next other z) ≡ replied (test_name_and_hazard h left other z)
  next_added other z =
      add_now next left_open other z ∙ ap replied (add_laid h left other z)
      ∙ bind_assoc (test_add h left other z) _ _ ∙ rw (lt-leb most_standing (length left) fewer)

-- A withdrawal that is not refused.
record Withdrawn (m after : OpenStates) (name : ℕ) : Type 0 where
  good : are_open_states m ≡ true
  stood : stands name (standing m.present) ≡ true
  same : next m good name stood ≡ after

withdrawn : (m after : OpenStates) (name : ℕ) → withdraw_in m name ≡ accepted after → Withdrawn m after name
unfolding withdraw_in withdraw_from
withdrawn m after name e =
    let b = bound (under_rules (are_open_states m) (withdraw_from m.present name)) _ after e in
    let rule = passed (are_open_states m) (Row.HeaderRange 0) _ b.first b.taken in
    let stood = passed (stands name (standing m.present)) (Row.Name name) _ b.first rule.1 in
    let first : laid_out m.present.header (without name (standing m.present)) ≡ b.first = let q = stood.1 in cc in
    let whole : states_from b.first (kept_states m) ≡ after = let q = b.rest in cc in
    record { good = rule.0; stood = stood.0; same = ap (λ (a : StoredJob). states_from a (kept_states m)) first ∙ whole }

pub again_promise : AgainPromise
again_promise m after name e z =
    let w = withdrawn m after name e in
    subst (λ (n : OpenStates). replied (add_in n name z) ≡ replied (admit m.present.header name z)) w.same
    (next_added m w.good name w.stood name z ∙ rw (without_stands name (standing m.present)))

pub room_promise : RoomPromise
room_promise m after name e other z =
    let w = withdrawn m after name e in
    subst (λ (n : OpenStates). replied (add_in n other z) ≡ replied (test_name_and_hazard m.present.header (standing n.present) other z)) w.same
    (next_added m w.good name w.stood other z ∙ rw (laid_standing m.present.header (without name (standing m.present))))
