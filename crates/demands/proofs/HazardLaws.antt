-- The calls about one hazard of a job (document 02, requests 9 and 10): when they refuse, whatever they tell of the hazard.
-- Assumes nothing.
use Prim.Native.Nat.{ℕ, ◌≤◌, ◌<◌}
use native.Mathlib.Omega.{arith}
use native.Mathlib.Decide.{dec_lt}
use mathlib.Core.Path.{◌≡◌, refl, sym, ap, ap₂, ◌∙◌}
use mathlib.Core.Logic.{◌↔◌, ◌≢◌, inl, inr, ⊎_elim}
use mathlib.Core.Bool.{Bool, true, false}
use mathlib.Core.List.{List}
use lib.ListN.{length}
use Rattle.base.specs.Answer.{Answer, accepted, refused, ◌>>=◌}
use Rattle.job.specs.declared.Hazard.{Hazard}
use Rattle.job.specs.Job.{Job}
use Rattle.planning.specs.Envelope.{accept_job}
use Rattle.planning.specs.Approached.{hazard_at, adjacent_reaches, approached_hazard}
use Rattle.planning.proofs.ApproachedLaws.{no_such, not_reached, approached}
use Rattle.schedule.specs.Plan.{plan}
use Rattle.demands.specs.Corners.{NoApproach}
use Rattle.demands.specs.Offset.{Approached}
use Rattle.demands.proofs.RefusalLaws.{OneToSeven, accept_refusals, plan_refuses}

module _ {A : Type 0} (tell : Job → Hazard → A) (s : List ℕ) (i : ℕ) where
  abbrev pub told : Answer A
  told = accept_job s >>= λ j. approached_hazard j i >>= λ z. accepted (tell j z)

  -- What the call answers, and why.
  pub data HazardVerdict : Type 0 where
    unaccepted : (k v : ℕ) → accept_job s ≡ refused k v → k ≤ 7 → told ≡ refused k v → HazardVerdict
    unapproached : NoApproach s i → told ≡ refused 14 0 → HazardVerdict
    approached_so : (j : Job) → Approached s j i → told ≡ accepted (tell j (hazard_at j i)) → HazardVerdict

  pub told_approached : (j : Job) → Approached s j i → told ≡ accepted (tell j (hazard_at j i))
  told_approached j a = rw (a.job, approached j i a.there a.reach)

  told_none : NoApproach s i → told ≡ refused 14 0
  told_none n = rw (n.taken, ⊎_elim (no_such n.job i) (not_reached n.job i) n.why)

  hazard_verdict : HazardVerdict
  hazard_verdict = go (accept_job s) refl (accept_refusals s)
    where
      none : NoApproach s i → HazardVerdict
      none n = unapproached n (told_none n)

      reach : (j : Job) → accept_job s ≡ accepted j → Dec (i < length j.hazards) → (r : Bool) → adjacent_reaches j.header (hazard_at j i) ≡ r → HazardVerdict
      reach j e (yes l) true r = let a : Approached s j i = record { job = e; there = l; reach = r } in approached_so j a (told_approached j a)
      reach j e (yes l) false r = none (record { job = j; taken = e; why = inr r })
      reach j e (no l) b r = none (record { job = j; taken = e; why = inl (omega arith) })

      go : (a : Answer Job) → accept_job s ≡ a → OneToSeven a → HazardVerdict
      go (accepted j) e o = reach j e (dec_lt i (length j.hazards)) (adjacent_reaches j.header (hazard_at j i)) refl
      go (refused k v) e o = unaccepted k v e o.1 (rw e)

  -- A reply that is no refusal is given for a hazard asked for.
  pub told_given : (a : A) → told ≡ accepted a → (j : Job) × Approached s j i × (tell j (hazard_at j i) ≡ a)
  told_given a e = go hazard_verdict
    where
      go : HazardVerdict → (j : Job) × Approached s j i × (tell j (hazard_at j i) ≡ a)
      go (unaccepted k v p l q) = cc
      go (unapproached n q) = cc
      go (approached_so j w q) = (j, w, cc)

  -- "14, no such hazard or adjacent traffic doesn't reach it": exactly then, of an accepted job.
  pub told_fourteen : (v : ℕ) → (told ≡ refused 14 v) ↔ ((v ≡ 0) × NoApproach s i)
  told_fourteen v = (λ e. to e hazard_verdict, λ w. told_none w.1 ∙ ap (refused 14) (sym w.0))
    where
      to : told ≡ refused 14 v → HazardVerdict → (v ≡ 0) × NoApproach s i
      to e (unaccepted k w p l q) = absurd (let z : k ≡ 14 = cc in omega arith)
      to e (unapproached n q) = ((cc), n)
      to e (approached_so j a q) = cc

  -- "Refusals are plan's without 9; then 14": number and value, on either side of plan and whatever the room of its output is.
  pub told_refusals : (side room k v : ℕ) → side ≤ 1 → ((told ≡ refused k v) × (k ≢ 14)) ↔ ((plan s side room ≡ refused k v) × (k ≢ 9))
  told_refusals side room k v h = let plans = plan_refuses s side room h k v in (λ w. plans.0 (to w.0 w.1 hazard_verdict), λ w. from (plans.1 w))
    where
      to : told ≡ refused k v → k ≢ 14 → HazardVerdict → accept_job s ≡ refused k v
      to e n (unaccepted m w a l q) = let number : m ≡ k = cc in let value : w ≡ v = cc in a ∙ ap₂ refused number value
      to e n (unapproached w q) = absurd (n (cc))
      to e n (approached_so j a q) = cc

      from : accept_job s ≡ refused k v → (told ≡ refused k v) × (k ≢ 14)
      from e = (rw e, λ q. let few : k ≤ 7 = (rw e at (accept_refusals s)).1 in omega arith)

  -- Plan's 8 is of the side, which is not asked for here.
  pub told_not_eight : (v : ℕ) → told ≢ refused 8 v
  told_not_eight v e = go hazard_verdict
    where
      go : HazardVerdict → ⊥
      go (unaccepted k w p l q) = let z : k ≡ 8 = cc in omega arith
      go (unapproached n q) = let z : ◌≡◌ {A = ℕ} 14 8 = cc in omega arith
      go (approached_so j a q) = cc
