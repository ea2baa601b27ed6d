-- What is told of one hazard: by its envelope, and by its index in a job.
-- Assumes nothing.
use Rattle.std.specs.Prelude.{Some, None, if◌then◌else◌}
use Prim.Native.Nat.{ℕ, ◌+◌, ◌-◌, ◌≤◌, max, min}
use native.Mathlib.Omega.{arith}
use mathlib.Core.Path.{◌≡◌, refl, sym, ap, ◌∙◌}
use mathlib.Core.Bool.{Bool, true, false}
use mathlib.Core.List.{List}
use lib.ListN.{length}
use lib.Dec.{ltb}
use Rattle.base.specs.Answer.{Answer, accepted, refused, ◌>>=◌}
use Rattle.refusal.specs.Refusal.{unless_refuse}
use Rattle.refusal.specs.declared.Refusal.TheVariants as Row
use Rattle.job.specs.declared.Header.{Header}
use Rattle.job.specs.declared.Hazard.{Hazard}
use Rattle.job.specs.Job.{Job}
use Rattle.planning.specs.declared.envelope.CutEnvelope.{CutEnvelope}
use Rattle.planning.specs.declared.accept.Indexed.{Indexed}
use Rattle.planning.specs.Envelope.{reached, cut_to_road, cut_envelope, overhang, accept_job}
use Rattle.planning.specs.Approached.{hazard_at}
use Rattle.planning.specs.Own.{own_envelope}
use Rattle.planning.specs.Accept.{indexed_hazard}
use Rattle.withdrawal.specs.declared.reply.Reach.{Reach}
use Rattle.withdrawal.specs.Reach.{lengthened_at_both_ends, withdrawal_reach, road_reach, no_reach, hazard_reach, reach}

-- By its envelope
module _ (h : Header) (z : Hazard) where
  abbrev cut : CutEnvelope
  cut = record { stretch = cut_envelope h z; overhangs = overhang h z }

  -- An envelope is found exactly where somebody reaches the hazard.
  found : (e : CutEnvelope) → own_envelope h z ≡ Some e → (reached h z ≡ true) × (e ≡ cut)
  unfolding own_envelope
  found e is = go (reached h z) refl is
    where
      go : (b : Bool) → reached h z ≡ b → (if b then Some cut else None) ≡ Some e
          → (reached h z ≡ true) × (e ≡ cut)
      go true r q = (r, cc)
      go false r q = cc

  missing : own_envelope h z ≡ None → reached h z ≡ false
  unfolding own_envelope
  missing is = go (reached h z) refl is
    where
      go : (b : Bool) → reached h z ≡ b → (if b then Some cut else None) ≡ None
          → reached h z ≡ false
      go true r q = cc
      go false r q = r

  -- It ends on the road.
  pub found_end : (e : CutEnvelope) → own_envelope h z ≡ Some e → e.stretch.end ≤ h.end
  unfolding cut_envelope cut_to_road
  found_end e is = omega (arith, ap (λ (x : CutEnvelope). x.stretch.end) (found e is).1)

  -- The stretch: lengthened by G at both ends, and cut.
  pub told_found : (e : CutEnvelope) → own_envelope h z ≡ Some e → {from to : ℕ} → from ≡ max h.begin (e.stretch.start - h.continuity)
      → to ≡ min (e.stretch.end + h.continuity) h.end
      → ◌≡◌ {A = Reach} (record { side = z.side; start = e.stretch.start; end = e.stretch.end; overhangs = e.overhangs; from = from; to = to })
      (hazard_reach h z)
  unfolding hazard_reach road_reach withdrawal_reach lengthened_at_both_ends cut_to_road
  told_found e is a b = rw (a, b, (found e is).0, (found e is).1)

  pub told_missing : own_envelope h z ≡ None → ◌≡◌ {A = Reach} (no_reach z.side) (hazard_reach h z)
  unfolding hazard_reach
  told_missing is = rw (missing is)

-- By its index

abbrev tell : Indexed → Answer Reach
tell a = accepted (hazard_reach a.header a.hazard)

abbrev own : Job → (i : ℕ) → Indexed
own j i = record { header = j.header; hazard = hazard_at j i }

told_indexed : (s : List ℕ) (i : ℕ) → reach s i ≡ (indexed_hazard s i >>= tell)
unfolding reach indexed_hazard
told_indexed s i = go (accept_job s)
  where
    one : (j : Job) (there : Bool) → (unless_refuse there Row.Hazard >>= λ _. tell (own j i))
        ≡ (unless_refuse there Row.Hazard >>= (λ _. accepted (own j i)) >>= tell)
    one j true = refl
    one j false = refl

    there : Job → Answer (Unit {0})
    there j = unless_refuse (ltb i (length j.hazards)) Row.Hazard

    go : (b : Answer Job) → (b >>= λ j. there j >>= λ _. tell (own j i)) ≡ (b >>= (λ j. there j >>= λ _. accepted (own j i)) >>= tell)
    go (accepted j) = one j (ltb i (length j.hazards))
    go (refused k v) = refl

module _ (s : List ℕ) (i : ℕ) where
  pub told_there : {a : Indexed} {r : Reach} → indexed_hazard s i ≡ accepted a → r ≡ hazard_reach a.header a.hazard → accepted r ≡ reach s i
  told_there e q = ap accepted q ∙ sym (told_indexed s i ∙ rw e)

  pub told_refused : (k v : ℕ) → indexed_hazard s i ≡ refused k v → refused k v ≡ reach s i
  told_refused k v e = sym (told_indexed s i ∙ rw e)
