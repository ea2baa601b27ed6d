-- Request 14 of an open job: beyond its reach a withdrawal alters no level, and nothing that lookup shows in the open job's schedules.
-- Assumes nothing.
use Prim.Native.Nat.{ℕ}
use native.Mathlib.Decide.{ℕ_discrete}
use mathlib.Core.Path.{◌≡◌, sym, ap, subst, ◌∙◌}
use mathlib.Core.Logic.{◌⊎◌, inl, inr, ⊎_elim}
use mathlib.Core.Bool.{true}
use mathlib.Core.List.Memᴰ
use mathlib.Core.List.{List, [], ◌∷◌, map, foldl-append, Memᴰ}
use lib.ListN.{length, length-map}
use Rattle.base.specs.Answer.{Answer, accepted, replied}
use Rattle.refusal.specs.declared.Refusal.TheVariants as Row
use Rattle.refusal.proofs.RefuseLaws.{passed}
use Rattle.job.specs.declared.Header.{Header}
use Rattle.job.specs.declared.Hazard.{Hazard}
use Rattle.job.specs.declared.NamedHazard.{NamedHazard}
use Rattle.job.specs.Job.{Job, unnamed, counted, made_from}
use Rattle.job.specs.Writing.{write_job}
use Rattle.planning.specs.Envelope.{farther, reaches, reached, reach_of, offset_of, lengthening, envelope, cut_to_road, cut_envelope}
use Rattle.planning.specs.Required.{job_level}
use Rattle.planning.specs.Rows.{AcceptedFits}
use Rattle.planning.proofs.EnvelopeLaws.{accepted_fits}
use Rattle.schedule.specs.Plan.{plan}
use Rattle.schedule.specs.Planned.{Accepted, schedule_alone, Planned}
use Rattle.demands.specs.Demands.{Alike}
use Rattle.withdrawal.specs.Reach.{lengthened_at_both_ends, withdrawal_reach}
use Rattle.demands.specs.Withdrawal.{Unaltered, without_envelope, other_side, Beyond, outside, unaltered, SameLevels}
use Rattle.demands.proofs.DemandLaws.{counted_alike}
use Rattle.demands.proofs.WithdrawalLaws.{same_beyond, side_plans, same_shown}
use Rattle.open_memory.specs.Memory.{standing, stands, without}
use Rattle.open_memory.proofs.RuleLaws.{open_standing}
use Rattle.open_job.specs.Calls.{test_add, memory_after, open_states, withdraw_in}
use Rattle.open_job.specs.declared.OpenStates.{OpenStates}
use Rattle.open_job.proofs.StateLaws.{now_open}
use Rattle.open_promises.specs.Lists.{withdraw, Nameable, Call, edit, States, opened, states_after, stand_after, added_since, after_call, CallsFrom}
use Rattle.open_promises.specs.Lists.{AnswersAs, Standing}
use Rattle.open_promises.specs.Withdrawal.{then_withdrawn, job_after, Scheduled, StandsUnder, WithdrawalPromise}
use Rattle.open_promises.proofs.HazardLaws.{unnamed_among, stands_which, stand_distinct, distinct_alone, without_cases, without_other}
use Rattle.open_promises.proofs.ListLaws.{schedule_promise, standing_promise}

-- The hazard under a name

-- It is among those apart from the memory, and no other: in the memory names rise.
under_name : (h : Header) (s : States (List NamedHazard)) (m : OpenStates) → Standing h s m → (name : ℕ) → stands name s.present ≡ true
    → (p : NamedHazard) × StandsUnder name s.present p
under_name h s m stood name e =
    let w = stands_which name s.present e in
    let apart = stand_distinct m.present.header 0 (standing m.present) (open_standing m.present (now_open m stood.is_open)) in (
      w.0,
      record {
        member = w.1;
        its_name = w.2;
        alone = λ q k same. distinct_alone (standing m.present) apart w.0 q ((stood.present_state.each w.0).1 w.1)
            ((stood.present_state.each q).1 k) (same ∙ sym w.2);
      },
    )

-- The jobs before and after

-- The hazard count has no part in a withdrawal's reach.
pub unaltered_counted : (h : Header) (n : ℕ) (z : Hazard) (side : ℕ) → Unaltered h z side → Unaltered (counted h n) z side
unfolding reached reaches farther
unaltered_counted h n z side (without_envelope r) = without_envelope r
unaltered_counted h n z side (other_side d) = other_side d

pub beyond_counted : (h : Header) (n : ℕ) (z : Hazard) (side t : ℕ) → Beyond h z side t → Beyond (counted h n) z side t
unfolding withdrawal_reach lengthened_at_both_ends cut_envelope cut_to_road envelope lengthening reaches reach_of offset_of farther
beyond_counted h n z side t (outside k) = outside k
beyond_counted h n z side t (unaltered u) = unaltered (unaltered_counted h n z side u)

module _ (h : Header) (past : List NamedHazard) (name : ℕ) (p : NamedHazard) (under : StandsUnder name past p) where
  abbrev zs : List Hazard
  zs = map unnamed past

  abbrev others : List Hazard
  others = map unnamed (without name past)

  only : (x : Hazard) → Memᴰ x zs → (x ≡ unnamed p) ⊎ Memᴰ x others
  only x m = let w = Memᴰ.of_map unnamed past m in go w.0 w.1 w.2 (ℕ_discrete w.0.name name)
    where
      go : (q : NamedHazard) → Memᴰ q past → unnamed q ≡ x → Dec (q.name ≡ name) → (x ≡ unnamed p) ⊎ Memᴰ x others
      go q k same (yes e) = inl (sym same ∙ ap unnamed (under.alone q k e))
      go q k same (no e) = inr (subst (λ (y : Hazard). Memᴰ y others) same (Memᴰ.map unnamed (without_other name q past k e)))

  among : (x : Hazard) → Memᴰ x others → Memᴰ x zs
  among = unnamed_among (λ q k. (without_cases name q past k).0)

  to : Alike (counted h (length zs)) (counted h (length others))
  to = counted_alike h (length zs) (length others)

  back : Alike (counted h (length others)) (counted h (length zs))
  back = counted_alike h (length others) (length zs)

  without_levels : AcceptedFits (made_from h zs) → SameLevels (Beyond h (unnamed p)) (job_level (made_from h zs)) (job_level (made_from h others))
  without_levels fits side t b = same_beyond (made_from h zs) (made_from h others) to back (unnamed p) only among fits (Memᴰ.map unnamed under.member) side t
      (beyond_counted h (length zs) (unnamed p) side t b)

  without_plans : (s₁ s₂ : List ℕ) → Accepted s₁ (made_from h zs) → Accepted s₂ (made_from h others) → (side : ℕ) → Unaltered h (unnamed p) side → (room : ℕ)
      → plan s₂ side room ≡ plan s₁ side room
  without_plans s₁ s₂ a₁ a₂ side u room =
      side_plans (made_from h zs) (made_from h others) to back (unnamed p) only among s₁ s₂ a₁ a₂ side (unaltered_counted h (length zs) (unnamed p) side u) room

-- The calls with the withdrawal behind them

added_without : (h : Header) (calls : List Call) (name : ℕ) → added_since h (then_withdrawn calls name) ≡ without name (added_since h calls)
unfolding states_after stand_after
added_without h calls name =
    ap (λ (s : States (List NamedHazard)). s.present) (foldl-append (states_after (stand_after (test_add h))) (opened []) calls (edit (withdraw name) ∷ []))

module _ (s : List ℕ) (j : Job) (calls : List Call) (m : OpenStates) (from : CallsFrom s j calls m) where
  abbrev past : List NamedHazard
  past = added_since j.header calls

  answers : AnswersAs m (job_after j.header calls)
  answers = schedule_promise s j calls m from (map unnamed past) (rw (length-map past unnamed) (standing_promise s j calls m from).present_state.few)
      (λ z. (λ k. k, λ k. k))

  module _ (name : ℕ) (next : OpenStates) (e : withdraw_in m name ≡ accepted next) where
    was_standing : stands name past ≡ true
    was_standing =
        (passed (stands name past) (Row.Name name) (λ _. accepted 0) 0 (sym ((standing_promise s j calls m from).next_withdrawal name) ∙ ap replied e)).0

    still_from : CallsFrom s j (then_withdrawn calls name) next
    unfolding after_call
    still_from = record {
      job_is_accepted = from.job_is_accepted;
      empty = from.empty;
      nameable = λ x k. ⊎_elim (from.nameable x)
          (λ (l : Memᴰ (edit x) (edit (withdraw name) ∷ [])). let q = Memᴰ.eq_of_singleton l in let same : x ≡ withdraw name = cc in
          subst Nameable (sym same) tt) (Memᴰ.append_cases calls k);
      before = from.before;
      memory = sym (foldl-append after_call (memory_after (open_states s) from.before) calls (edit (withdraw name) ∷ [])
          ∙ ap (λ (n : OpenStates). memory_after (withdraw_in n name) n) (sym from.memory) ∙ ap (λ (a : Answer OpenStates). memory_after a m) e);
    }

-- The schedule call's bytes are the planned schedule of the job that the memory answers as.
pub scheduled_planned : (m : OpenStates) (j : Job) → AnswersAs m j → (side : ℕ) (w : List ℕ) → Scheduled m side w → Planned (write_job j) side w
scheduled_planned m j a side w p room l = ap schedule_alone (sym (a.planned side room)) ∙ p room l

pub withdrawal_promise : WithdrawalPromise
withdrawal_promise s j calls m from name next e = record {
  hazard = found.0;
  stood = found.1;
  called = called;
  before = before;
  after = after;
  levels = levels;
  shown = λ side low right left rightAfter leftAfter p q.
      same_shown (write_job old) (write_job new) old new before.job_is_accepted after.job_is_accepted (Beyond h (unnamed found.0)) levels side low right left
      rightAfter leftAfter
      (scheduled_planned m old before side _ p) (scheduled_planned next new after side _ q);
  nothing_alters = λ side u room. after.planned side room ∙ plans side u room ∙ sym (before.planned side room);
}
  where
    h : Header
    h = j.header

    past : List NamedHazard
    past = added_since h calls

    old : Job
    old = job_after h calls

    new : Job
    new = job_after h (then_withdrawn calls name)

    found : (p : NamedHazard) × StandsUnder name past p
    found = under_name h _ m (standing_promise s j calls m from) name (was_standing s j calls m from name next e)

    called : CallsFrom s j (then_withdrawn calls name) next
    called = still_from s j calls m from name next e

    before : AnswersAs m old
    before = answers s j calls m from

    after : AnswersAs next new
    after = answers s j (then_withdrawn calls name) next called

    same : new ≡ made_from h (map unnamed (without name past))
    same = ap (λ (l : List NamedHazard). made_from h (map unnamed l)) (added_without h calls name)

    levels : SameLevels (Beyond h (unnamed found.0)) (job_level old) (job_level new)
    levels = rw same (without_levels h past name found.0 found.1 (accepted_fits (write_job old) old before.job_is_accepted))

    plans : (side : ℕ) → Unaltered h (unnamed found.0) side → (room : ℕ) → plan (write_job new) side room ≡ plan (write_job old) side room
    plans = without_plans h past name found.0 found.1 (write_job old) (write_job new) before.job_is_accepted (after.job_is_accepted ∙ ap accepted same)
