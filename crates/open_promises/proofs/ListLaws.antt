-- The promises for lists of calls from an empty job.
-- Assumes nothing.
use Prim.Native.Nat.{ℕ, ◌≤◌}
use native.Mathlib.Omega.{arith}
use mathlib.Core.Path.{◌≡◌, refl, sym, ap, subst, ◌∙◌}
use mathlib.Core.Logic.{◌↔◌}
use mathlib.Core.Bool.{Bool, true}
use mathlib.Core.List.Memᴰ
use mathlib.Core.List.{List, [], ◌∷◌, ◌++◌, map, foldl, Memᴰ}
use lib.ListN.{length, length-map}
use Rattle.base.specs.Answer.{Answer, replied}
use Rattle.refusal.specs.Refusal.{unless_refuse}
use Rattle.refusal.specs.declared.Refusal.TheVariants as Row
use Rattle.base.proofs.AnswerLaws.{bind_assoc}
use Rattle.job.specs.declared.Header.{Header}
use Rattle.job.specs.declared.Hazard.{Hazard}
use Rattle.job.specs.declared.NamedHazard.{NamedHazard}
use Rattle.job.specs.declared.StoredJob.{StoredJob}
use Rattle.job.specs.Job.{Job, unnamed, job_of, made_from}
use Rattle.job.specs.Writing.{write_job}
use Rattle.job.specs.Fits.{HeaderFits}
use Rattle.planning.proofs.EnvelopeLaws.{accepted_fits}
use Rattle.planning.proofs.AcceptedLaws.{fitting_accepted}
use Rattle.schedule.specs.Plan.{plan}
use Rattle.open_memory.specs.Memory.{most_standing, laid_out, stands}
use Rattle.open_memory.proofs.RuleLaws.{Admitted, made_fits, stand_each}
use Rattle.open_job.specs.States.{is_used, kept_under, are_open_states}
use Rattle.open_job.specs.Calls.{test_add, add_to, withdraw_from, memory_after}
use Rattle.open_job.proofs.LayoutLaws.{laid_standing, add_laid, withdraw_laid, schedule_laid}
use Rattle.open_job.specs.declared.KeptState.{KeptState}
use Rattle.open_job.specs.declared.OpenStates.{OpenStates}
use Rattle.open_job.proofs.StateLaws.{not_used, kept_used}
use Rattle.open_promises.specs.Opening.{empty_states, opened_from}
use Rattle.open_promises.specs.Lists.{Call, keep_as, return_to, Kept, nothing, state, States, is_kept, opened, states_after, hazards_after, after_call}
use Rattle.open_promises.specs.Lists.{CallsFrom, AnswersAs, SchedulePromise, Holds, HoldsKept, Standing, StandingPromise, ReturnPromise}
use Rattle.open_promises.proofs.OpeningLaws.{opening_accepted}
use Rattle.open_promises.proofs.SameLaws.{same_plans}
use Rattle.open_promises.proofs.HazardLaws.{unnamed_among}
use Rattle.open_promises.proofs.StandingLaws.{placed_after, Agree, stands_same, tests_same}
use Rattle.open_promises.proofs.ModelLaws.{returned, AgreeKept}
use Rattle.open_promises.proofs.MemoryLaws.{laid_kept, laid_states, Follows, follows_all, follows_opened}
use Rattle.open_promises.proofs.ReplyLaws.{add_now, withdraw_now, schedule_now, keep_replied, return_replied}

-- Hazards that stand

holds : (h : Header) {ps past : List NamedHazard} → Agree h ps past → Holds h past (laid_out h ps)
holds h {ps} k = record {
  layout = ap (laid_out h) (sym (laid_standing h ps));
  few = omega (arith, k.few, k.number);
  many = ap length (laid_standing h ps) ∙ k.number;
  each = λ p. rw (laid_standing h ps) (k.same p);
}

holds_kept : (h : Header) (x y : Kept (List NamedHazard)) → AgreeKept (Agree h) x y → HoldsKept h y (laid_kept h x)
holds_kept h nothing nothing a = refl
holds_kept h nothing (state past) a = absurd a
holds_kept h (state ps) nothing a = absurd a
holds_kept h (state ps) (state past) a = (kept_used (laid_out h ps), holds h a)

used_kept : (h : Header) (y : Kept (List NamedHazard)) (k : KeptState) → HoldsKept h y k → is_used k ≡ is_kept y
used_kept h nothing k e = ap is_used e ∙ not_used
used_kept h (state past) k w = w.0

module _ (s : List ℕ) (j : Job) (calls : List Call) (m : OpenStates) (from : CallsFrom s j calls m) where
  abbrev h : Header
  h = j.header

  -- The hazards in their places, and apart from them.
  abbrev placed : States (List NamedHazard)
  placed = foldl (states_after (placed_after h)) (opened []) calls

  abbrev are : States (List NamedHazard)
  are = hazards_after h calls

  fits : HeaderFits h
  fits = (accepted_fits s j from.job_is_accepted).fits.header

  follows : Follows h placed are m
  follows =
      let memory : m ≡ foldl after_call (empty_states h) calls =
      from.memory ∙ ap (λ (a : Answer OpenStates). foldl after_call (memory_after a from.before) calls)
      (opening_accepted s j from.job_is_accepted ∙ ap (opened_from h) from.empty) in
      subst (Follows h placed are) (sym memory) (follows_all h fits (opened []) (opened []) _ (follows_opened h) calls from.nameable)

  good : are_open_states m ≡ true
  good = laid_states h fits follows

  now_laid : m.present ≡ laid_out h placed.present
  now_laid = follows.laid.present

  same : Agree h placed.present are.present
  same = follows.agree.present

  kept_holds : (number : ℕ) → HoldsKept h (are.kept number) (kept_under m number)
  kept_holds number = rw (follows.laid.kept number) (holds_kept h (placed.kept number) (are.kept number) (follows.agree.kept number))

  stood : Standing h are m
  stood = record {
    is_open = good;
    present_state = rw now_laid (holds h same);
    states_kept = kept_holds;
    next_add = λ name z. add_now m good name z ∙ ap (λ (a : StoredJob). replied (add_to a name z)) now_laid ∙ ap replied (add_laid h placed.present name z)
        ∙ bind_assoc (test_add h placed.present name z) _ _ ∙ ap replied (tests_same h same name z);
    next_withdrawal = λ name. withdraw_now m good name ∙ ap (λ (a : StoredJob). replied (withdraw_from a name)) now_laid
        ∙ ap replied (withdraw_laid h placed.present name) ∙ bind_assoc (unless_refuse (stands name placed.present) (Row.Name name)) _ _
        ∙ ap (λ (b : Bool). replied (unless_refuse b (Row.Name name))) (stands_same h same name);
    next_keep = keep_replied m good;
    next_return = λ number. return_replied m good number
        ∙ ap (λ (b : Bool). replied (unless_refuse b Row.State)) (used_kept h (are.kept number) (kept_under m number) (kept_holds number));
  }

  answers : (zs : List Hazard) → length zs ≤ most_standing → ((z : Hazard) → Memᴰ z zs ↔ Memᴰ z (map unnamed are.present))
      → AnswersAs m (made_from h zs)
  answers zs most each = record {
    job_is_accepted = fitting_accepted (made_from h zs) (made_fits h zs fits most (λ z k. may z (back z k)));
    planned = λ side room.
        schedule_now m good side room ∙ ap (λ (a : StoredJob). plan (write_job (job_of a)) side room) now_laid ∙ schedule_laid h placed.present side room
        ∙ same_plans h fits (map unnamed placed.present) zs (rw (length-map placed.present unnamed) same.few) most may
        (λ z k. (each z).1 (unnamed_among (λ p. (same.same p).0) z k)) back side room;
  }
    where
      may : (z : Hazard) → Memᴰ z (map unnamed placed.present) → Admitted h z
      may z k = let w = Memᴰ.of_map unnamed placed.present k in subst (Admitted h) w.2 (stand_each h 0 placed.present same.rules w.1)

      back : (z : Hazard) → Memᴰ z zs → Memᴰ z (map unnamed placed.present)
      back z k = unnamed_among (λ p. (same.same p).1) z ((each z).0 k)

pub schedule_promise : SchedulePromise
schedule_promise s j calls m from zs most each = answers s j calls m from zs most each

pub standing_promise : StandingPromise
standing_promise s j calls m from = stood s j calls m from

pub return_promise : ReturnPromise
return_promise s j before since number earlier m most other first second =
    now_laid s j (before ++ keep_as number ∷ since ++ return_to number ∷ []) m second
    ∙ ap (laid_out j.header) (returned (placed_after j.header) number (opened []) before since most other)
    ∙ sym (now_laid s j before earlier first)
