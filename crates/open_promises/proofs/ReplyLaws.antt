-- What the calls reply, on memory that keeps the rules.
-- Assumes nothing.
use Prim.Native.Nat.{ℕ}
use mathlib.Core.Path.{◌≡◌, refl, sym, ap, ◌∙◌}
use mathlib.Core.Bool.{Bool, true, false}
use lib.Dec.{leb}
use borrow.Author.Tests.{leb-false}
use Rattle.base.specs.Answer.{accepted, ◌>>=◌, replied}
use Rattle.refusal.specs.Refusal.{unless_refuse}
use Rattle.refusal.specs.declared.Refusal.TheVariants as Row
use Rattle.base.proofs.AnswerLaws.{bind_assoc}
use Rattle.job.specs.declared.Hazard.{Hazard}
use Rattle.job.specs.Job.{job_of}
use Rattle.job.specs.Writing.{write_job}
use Rattle.schedule.specs.Plan.{plan}
use Rattle.open_job.specs.declared.KeptState.{KeptState}
use Rattle.open_job.specs.States.{greatest_state_number, state_of, is_used, kept_states, kept_under, states_from, are_open_states}
use Rattle.open_job.specs.Calls.{add_to, withdraw_from, add_in, withdraw_in, schedule_in, keep_in, kept_job, return_in}
use Rattle.open_job.specs.declared.OpenStates.{OpenStates}
use Rattle.open_job.proofs.StateLaws.{none_above, not_used}

module _ (m : OpenStates) (good : are_open_states m ≡ true) where
  -- Add, withdraw and schedule as on the present state.
  pub add_now : (name : ℕ) (z : Hazard) → replied (add_in m name z) ≡ replied (add_to m.present name z)
  unfolding add_in
  add_now name z = rw good (bind_assoc (add_to m.present name z) _ _)

  pub withdraw_now : (name : ℕ) → replied (withdraw_in m name) ≡ replied (withdraw_from m.present name)
  unfolding withdraw_in
  withdraw_now name = rw good (bind_assoc (withdraw_from m.present name) _ _)

  pub schedule_now : (side room : ℕ) → schedule_in m side room ≡ plan (write_job (job_of m.present)) side room
  unfolding schedule_in
  schedule_now side room = rw good

  pub keep_replied : (number : ℕ) → replied (keep_in m number) ≡ replied (unless_refuse (leb number greatest_state_number) Row.State)
  unfolding keep_in
  keep_replied number = rw good (bind_assoc (unless_refuse (leb number greatest_state_number) Row.State) _ _)

  -- Above 7 nothing is kept.
  pub return_replied : (number : ℕ) → replied (return_in m number) ≡ replied (unless_refuse (is_used (kept_under m number)) Row.State)
  unfolding return_in kept_job
  return_replied number = rw good (go (leb number greatest_state_number) refl)
    where
      kept : KeptState
      kept = kept_under m number

      go : (b : Bool) → leb number greatest_state_number ≡ b
          → replied ((unless_refuse b Row.State >>= λ _. unless_refuse (is_used kept) Row.State >>= λ _. accepted (state_of m.present.header kept))
          >>= λ a. accepted (states_from a (kept_states m)))
          ≡ replied (unless_refuse (is_used kept) Row.State)
      go true e = ap replied (bind_assoc (unless_refuse (is_used kept) Row.State) _ _) ∙ bind_assoc (unless_refuse (is_used kept) Row.State) _ _
      go false e = sym (ap (λ (b : Bool). replied (unless_refuse b Row.State)) (ap is_used (none_above m number (leb-false number 7 e)) ∙ not_used))
