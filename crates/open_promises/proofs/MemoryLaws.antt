-- The memory after a list of calls: the hazards in their places, now and in what is kept.
-- Assumes nothing.
use Rattle.std.specs.Prelude.{if◌then◌else◌}
use Prim.Native.Nat.{ℕ}
use native.Mathlib.Omega.{arith}
use mathlib.Core.Path.{◌≡◌, refl, sym, ap, ap₂, subst, ◌∙◌}
use mathlib.Core.Bool.{Bool, true, false}
use mathlib.Core.List.{List, [], ◌∷◌, foldl, Memᴰ}
use lib.ListN.{length, set, replicate}
use lib.Dec.{leb, eqb}
use borrow.Author.Tests.{leb-true, leb-false}
use Rattle.base.specs.Answer.{Answer, accepted, ◌>>=◌}
use Rattle.refusal.specs.Refusal.{unless_refuse}
use Rattle.refusal.specs.declared.Refusal.TheVariants as Row
use Rattle.job.specs.declared.Header.{Header}
use Rattle.job.specs.declared.NamedHazard.{NamedHazard}
use Rattle.job.specs.declared.StoredJob.{StoredJob}
use Rattle.job.specs.Fits.{HeaderFits}
use Rattle.open_memory.specs.Memory.{laid_out, is_open_job}
use Rattle.open_job.specs.States.{most_kept, greatest_state_number, nothing_kept, kept_from, state_of, is_used, kept_sound, kept_states, kept_under, states_from}
use Rattle.open_job.specs.States.{are_open_states}
use Rattle.open_job.specs.Calls.{test_add, memory_after, changed_in, add_to, withdraw_from, add_in, withdraw_in, keep_in, kept_job, return_in}
use Rattle.open_job.proofs.LayoutLaws.{laid_open}
use Rattle.open_job.specs.declared.KeptState.{KeptState}
use Rattle.open_job.specs.declared.OpenStates.{OpenStates}
use Rattle.open_job.proofs.StateLaws.{kept_under_lem, kept_set, none_under, none_above, nothing_sound, not_used, kept_used, sound_used, states_sound}
use Rattle.open_job.proofs.WholeLaws.{change_whole, eight_whole}
use Rattle.open_promises.specs.Lists.{Edit, add, withdraw, Call, edit, schedule, keep_as, return_to, Nameable, Kept, nothing, state, States, opened}
use Rattle.open_promises.specs.Lists.{returned_to, states_after, stand_after, after_call}
use Rattle.open_promises.proofs.StandingLaws.{placed_after, edited, edit_memory, Agree, agree_edit}
use Rattle.open_promises.proofs.ModelLaws.{AgreeKept, AgreeAll, agree_opened, agree_call}
use Rattle.job.specs.Job.{counted}

abbrev pub laid_kept : Header → Kept (List NamedHazard) → KeptState
laid_kept h nothing = nothing_kept
laid_kept h (state ps) = kept_from (laid_out h ps)

pub record Laid (h : Header) (t : States (List NamedHazard)) (m : OpenStates) : Type 0 where
  pub present : m.present ≡ laid_out h t.present
  pub size : length m.kept ≡ most_kept
  pub kept : (number : ℕ) → kept_under m number ≡ laid_kept h (t.kept number)

-- The memory, the hazards in their places, and those apart from them.
pub record Follows (h : Header) (t s : States (List NamedHazard)) (m : OpenStates) : Type 0 where
  pub agree : AgreeAll (Agree h) t s
  pub laid : Laid h t m

-- One call

module _ (h : Header) (fits : HeaderFits h) {t s : States (List NamedHazard)} {m : OpenStates} (f : Follows h t s m) where
  pub laid_states : are_open_states m ≡ true
  laid_states =
      let present = f.agree.present in
      states_sound m (ap is_open_job f.laid.present ∙ laid_open h t.present fits present.rules present.few)
      (λ number. ap₂ (λ (a : StoredJob) (k : KeptState). kept_sound a.header k) f.laid.present (f.laid.kept number)
      ∙ go (t.kept number) (s.kept number) (f.agree.kept number) (length t.present))
    where
      go : (x y : Kept (List NamedHazard)) → AgreeKept (Agree h) x y → (n : ℕ) → kept_sound (counted h n) (laid_kept h x) ≡ true
      go nothing y r n = nothing_sound (counted h n)
      go (state ps) nothing r n = absurd r
      go (state ps) (state past) r n =
          sym (sound_used (kept_from (laid_out h ps)) (counted h n) (kept_used (laid_out h ps))) ∙ laid_open h ps fits r.rules r.few

  -- The memory after a call on its present state.
  edited_whole : (call : Answer StoredJob) → memory_after (changed_in m call) m ≡ states_from (memory_after call m.present) (kept_states m)
  edited_whole call =
      ap (memory_after (changed_in m call)) (sym (eight_whole m f.laid.size)) ∙ rw laid_states (rw laid_states at (sym (change_whole m call).0))

  edit_after : (e : Edit) → after_call m (edit e) ≡ states_from (memory_after (edited m.present e) m.present) (kept_states m)
  unfolding after_call add_in withdraw_in
  edit_after (add name z) = edited_whole (add_to m.present name z)
  edit_after (withdraw name) = edited_whole (withdraw_from m.present name)

  laid_edit : (e : Edit) → Laid h (record { present = placed_after h t.present e; kept = t.kept }) (after_call m (edit e))
  laid_edit e = subst (Laid h (record { present = placed_after h t.present e; kept = t.kept })) (sym (edit_after e)) (record {
    present = ap (λ (a : StoredJob). memory_after (edited a e) a) f.laid.present ∙ edit_memory h t.present e;
    size = refl;
    kept = f.laid.kept;
  })

  laid_keep : (n : ℕ) → Laid h (states_after (placed_after h) t (keep_as n)) (after_call m (keep_as n))
  unfolding states_after after_call keep_in
  laid_keep n = rw laid_states (go (leb n greatest_state_number) refl)
    where
      one : (b : Bool) (k : ℕ) → (if b then kept_from m.present else kept_under m k) ≡ laid_kept h (if b then state t.present else t.kept k)
      one true k = ap kept_from f.laid.present
      one false k = f.laid.kept k

      go : (b : Bool) → leb n greatest_state_number ≡ b
          → Laid h (if b then record { present = t.present; kept = λ k. if eqb n k then state t.present else t.kept k } else t)
          (memory_after (unless_refuse b Row.State >>= λ _. accepted (states_from m.present (set (kept_states m) n (kept_from m.present)))) m)
      go true e = record { present = f.laid.present; size = refl; kept = λ k. kept_set m n k (kept_from m.present) (leb-true _ _ e) ∙ one (eqb n k) k }
      go false e = f.laid

  laid_return : (n : ℕ) → Laid h (returned_to (t.kept n) t) (after_call m (return_to n))
  unfolding after_call return_in kept_job
  laid_return n = rw laid_states (go (leb n greatest_state_number) refl (t.kept n) (kept_under m n) refl (f.laid.kept n))
    where
      back : Bool → KeptState → OpenStates
      back b k =
          let kept : Answer StoredJob =
          unless_refuse b Row.State >>= λ _. unless_refuse (is_used k) Row.State >>= λ _. accepted (state_of m.present.header k) in
          memory_after (kept >>= λ a. accepted (states_from a (kept_states m))) m

      go : (b : Bool) → leb n greatest_state_number ≡ b → (x : Kept (List NamedHazard)) (k : KeptState) → kept_under m n ≡ k → k ≡ laid_kept h x
          → Laid h (returned_to x t) (back b k)
      go false e nothing k u l = f.laid
      go false e (state ps) k u l =
          let none : ◌≡◌ {A = ℕ} 0 1 = ap (λ (y : KeptState). y.used) (sym (none_above m n (leb-false n 7 e)) ∙ u ∙ l) in
          absurd (omega arith)
      go true e nothing k u l = subst (λ (y : KeptState). Laid h t (back true y)) (sym l) (rw not_used f.laid)
      go true e (state ps) k u l =
          subst (λ (y : KeptState). Laid h (record { present = ps; kept = t.kept }) (back true y)) (sym l)
          (rw (kept_used (laid_out h ps)) (record {
            present = ap (λ (a : StoredJob). state_of a.header (kept_from (laid_out h ps))) f.laid.present;
            size = refl;
            kept = f.laid.kept;
          }))

  laid_call : (c : Call) → Laid h (states_after (placed_after h) t c) (after_call m c)
  unfolding states_after after_call
  laid_call (edit e) = laid_edit e
  laid_call (schedule side room) = f.laid
  laid_call (keep_as n) = laid_keep n
  laid_call (return_to n) = laid_return n

-- A list of calls

pub follows_all : (h : Header) → HeaderFits h → (t s : States (List NamedHazard)) (m : OpenStates) → Follows h t s m
    → (cs : List Call) → ((e : Edit) → Memᴰ (edit e) cs → Nameable e)
    → Follows h (foldl (states_after (placed_after h)) t cs) (foldl (states_after (stand_after (test_add h))) s cs) (foldl after_call m cs)
follows_all h fits t s m f [] may = f
follows_all h fits t s m f (c ∷ cs) may =
    follows_all h fits (states_after (placed_after h) t c) (states_after (stand_after (test_add h)) s c) (after_call m c)
    (record {
      agree = agree_call (Agree h) (placed_after h) (stand_after (test_add h)) Nameable (λ ps past k e may. agree_edit h k e may) t s f.agree c
          (λ e q. may e (Memᴰ.head q));
      laid = laid_call h fits f c;
    }) cs (λ e k. may e (Memᴰ.tail k))

-- After an opening nothing stands, and nothing is kept.
pub follows_opened : (h : Header) → Follows h (opened []) (opened []) (states_from (laid_out h []) (replicate most_kept nothing_kept))
follows_opened h = record {
  agree = agree_opened (Agree h) (record { rules = tt; few = omega arith; same = λ p. (λ x. x, λ x. x); number = refl; apart = tt });
  laid = record { present = refl; size = refl; kept = λ number. kept_under_lem (laid_out h []) (replicate most_kept nothing_kept) refl number ∙ none_under number };
}
