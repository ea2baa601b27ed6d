-- The call reach: what its reply says of a hazard, that the withdrawal alters nothing outside the stretch given, and its refusals against plan's.
-- Assumes nothing.
use Prim.Native.Nat.{ℕ, ◌≤◌, ◌<◌}
use native.Mathlib.Omega.{arith}
use native.Mathlib.Decide.{dec_le, dec_lt}
use mathlib.Core.Path.{◌≡◌, refl, sym, subst, ap, ap₂, ◌∙◌}
use mathlib.Core.Logic.{◌↔◌, ◌≢◌, ◌⊎◌, inl, inr}
use mathlib.Core.Bool.{true, false}
use mathlib.Core.List.{List, [], Memᴰ}
use lib.ListN.{length}
use borrow.Author.Tests.{lt-ltb, le-ltb}
use Rattle.base.specs.Answer.{Answer, accepted, refused}
use Rattle.base.proofs.ListLaws.{get_d_member}
use Rattle.std.proofs.lemmas.Bool.{cases_Bool}
use Rattle.job.specs.declared.Header.{Header}
use Rattle.job.specs.declared.Hazard.{Hazard}
use Rattle.job.specs.Job.{Job, hazard_of}
use Rattle.job.specs.Writing.{write_job}
use Rattle.job.proofs.RangeLaws.{hazard_bounds}
use Rattle.runs.specs.Level.{Has}
use Rattle.planning.specs.Envelope.{reached, envelope, cut_to_road, cut_envelope, OnRoad, Asked, accept_job}
use Rattle.planning.specs.Required.{job_level}
use Rattle.planning.specs.Approached.{hazard_at}
use Rattle.planning.specs.Rows.{AcceptedFits}
use Rattle.planning.proofs.EnvelopeLaws.{accepted_fits, cut_has, LiesOnRoad, to_cut, side_lies}
use Rattle.planning.proofs.FormulaLaws.{envelope_exactly}
use Rattle.planning.proofs.RoadLaws.{level_off_road}
use Rattle.schedule.specs.Planned.{Accepted, schedule_level}
use Rattle.withdrawal.specs.declared.reply.Reach.{Reach}
use Rattle.withdrawal.specs.Reach.{lengthened_at_both_ends, withdrawal_reach, road_reach, no_reach, envelope_reach, hazard_reach, reach}
use Rattle.demands.specs.Withdrawal.{without_hazard, Unaltered, without_envelope, Beyond, unaltered, SameLevels, ReachesNoFarther}
use Rattle.demands.specs.Withdrawal as withdrawal
use Rattle.demands.specs.Reach.{InEnvelope, InStretch, Enveloped, Says, Untouched, outside, other_side, UntouchedSide, ReachGiven}
use Rattle.demands.specs.Reach.{ReachRefusals, NoHazard, ReachFourteen}
use Rattle.demands.proofs.DemandLaws.{demand2}
use Rattle.demands.proofs.RefusalLaws.{OneToSeven, accept_refusals, plan_refuses}
use Rattle.demands.proofs.WithdrawalLaws.{same_shown, withdrawal_reach_lem}

-- The reply for a hazard, reached or not
module _ (h : Header) (z : Hazard) where
  pub told_reached : reached h z ≡ true → hazard_reach h z ≡ envelope_reach h z
  unfolding hazard_reach
  told_reached e = rw e

  pub told_unreached : reached h z ≡ false → hazard_reach h z ≡ no_reach z.side
  unfolding hazard_reach
  told_unreached e = rw e

  pub own_side : (hazard_reach h z).side ≡ z.side
  own_side = go (cases_Bool (reached h z))
    where
      go : (reached h z ≡ true) ⊎ (reached h z ≡ false) → (hazard_reach h z).side ≡ z.side
      go (inl e) = ap (λ (r : Reach). r.side) (told_reached e)
      go (inr e) = ap (λ (r : Reach). r.side) (told_unreached e)

  -- The stretch has exactly the millimetres of the lengthened envelope that are of the road.
  stretch_has : (t : ℕ) → InStretch (envelope_reach h z) t ↔ (OnRoad h t × Has (withdrawal_reach h z) t)
  unfolding road_reach cut_to_road
  stretch_has t = (
    λ k. ((omega (arith, k.0), omega (arith, k.1)), (omega (arith, k.0), omega (arith, k.1))),
    λ k. (omega (arith, k.0.0, k.1.0), omega (arith, k.0.1, k.1.1)),
  )

-- What it says of a hazard of an accepted job
module _ (j : Job) (fits : AcceptedFits j) (z : Hazard) (m : Memᴰ z j.hazards) where
  abbrev h : Header
  h = j.header

  lies : reached h z ≡ true → LiesOnRoad h (cut_envelope h z)
  lies e = side_lies j z.side fits (cut_envelope h z) (to_cut j z.side (record { member = m; on_side = refl; reach = e }))

  in_envelope : (t : ℕ) → InEnvelope (envelope_reach h z) t ↔ (OnRoad h t × Asked h z t)
  in_envelope t =
      let cut = cut_has h z t in
      let exactly = envelope_exactly j fits z m t in
      (λ k. let w = cut.0 k in (w.0, exactly.0 w.1), λ k. cut.1 (k.0, exactly.1 k.1))

  enveloped : reached h z ≡ true → Enveloped h z (envelope_reach h z)
  unfolding road_reach withdrawal_reach lengthened_at_both_ends cut_to_road
  enveloped e =
      let on = lies e in
      record {
        envelope = in_envelope;
        overhangs = refl;
        stretch = λ t. (
          λ k. ((omega (arith, k.0), omega (arith, k.1)), omega (arith, k.0), omega (arith, k.1)),
          λ k. (omega (arith, k.0.0, k.1), omega (arith, k.0.1, k.2)),
        );
        around = record {
          begins = omega arith;
          from_start = omega (arith, on.begins);
          long = on.long;
          end_to = omega (arith, on.ends);
          ends = omega arith;
        };
      }

  pub hazard_says : Says h z (hazard_reach h z)
  hazard_says = record {
    its_side = own_side h z;
    reached_so = λ e. subst (Enveloped h z) (sym (told_reached h z e)) (enveloped e);
    unreached = told_unreached h z;
  }

-- Where nothing alters

-- A hazard has an empty stretch only where nobody reaches it.
pub untouched_side : (h : Header) (z : Hazard) (r : Reach) → Says h z r → (side : ℕ) → UntouchedSide r side → Unaltered h z side
untouched_side h z r says side (inr off) = withdrawal.other_side (λ e. off (e ∙ sym says.its_side))
untouched_side h z r says side (inl empty) = go (cases_Bool (reached h z))
  where
    go : (reached h z ≡ true) ⊎ (reached h z ≡ false) → Unaltered h z side
    go (inl e) = let a = (says.reached_so e).around in absurd (omega (arith, a.from_start, a.long, a.end_to))
    go (inr e) = without_envelope e

-- Off the road nothing is required before or after, so the stretch may be cut there.
module _ (h : Header) (z : Hazard) (f g : (side t : ℕ) → ℕ) (off-f : (side t : ℕ) → (OnRoad h t → ⊥) → f side t ≡ 0)
    (off-g : (side t : ℕ) → (OnRoad h t → ⊥) → g side t ≡ 0) (same : SameLevels (Beyond h z) f g) where
  pub untouched_levels : SameLevels (Untouched (hazard_reach h z)) f g
  untouched_levels side t (other_side off) = same side t (unaltered (withdrawal.other_side (λ e. off (e ∙ sym (own_side h z)))))
  untouched_levels side t (outside out) = go (cases_Bool (reached h z))
    where
      road : (¬ InStretch (envelope_reach h z) t) → Dec (h.begin ≤ t) → Dec (t < h.end) → g side t ≡ f side t
      road away (yes a) (yes b) = same side t (withdrawal.outside (λ k. away ((stretch_has h z t).1 ((a, b), k))))
      road away (no a) b = off-g side t (λ on. a on.0) ∙ sym (off-f side t (λ on. a on.0))
      road away (yes a) (no b) = off-g side t (λ on. b on.1) ∙ sym (off-f side t (λ on. b on.1))

      go : (reached h z ≡ true) ⊎ (reached h z ≡ false) → g side t ≡ f side t
      go (inl e) = road (subst (λ (r : Reach). ¬ InStretch r t) (told_reached h z e) out) (dec_le h.begin t) (dec_lt t h.end)
      go (inr e) = same side t (unaltered (without_envelope e))

-- What covers the reached hazards covers the envelope given.
pub covers_envelope : (h : Header) (z : Hazard) (f : ℕ → ℕ)
    → (reached h z ≡ true → (t : ℕ) → OnRoad h t → Has (envelope h z) t → z.level ≤ f t)
    → (t : ℕ) → InEnvelope (hazard_reach h z) t → z.level ≤ f t
covers_envelope h z f covers t inside = go (cases_Bool (reached h z))
  where
    go : (reached h z ≡ true) ⊎ (reached h z ≡ false) → z.level ≤ f t
    go (inl e) = let k = (cut_has h z t).0 (subst (λ (r : Reach). InEnvelope r t) (told_reached h z e) inside) in covers e t k.0 k.1
    go (inr e) = absurd (let k = subst (λ (r : Reach). InEnvelope r t) (told_unreached h z e) inside in omega (arith, k.1))

-- The call

module _ (s : List ℕ) (i : ℕ) where
  told_given : (j : Job) → Accepted s j → i < length j.hazards → reach s i ≡ accepted (hazard_reach j.header (hazard_at j i))
  unfolding reach
  told_given j a l = rw a (simp (lt-ltb i (length j.hazards) l))

  told_none : NoHazard s i → reach s i ≡ refused 14 0
  unfolding reach
  told_none n = rw n.taken (simp (le-ltb i (length n.job.hazards) n.few))

  told_refused : (k v : ℕ) → accept_job s ≡ refused k v → reach s i ≡ refused k v
  unfolding reach
  told_refused k v e = rw e

pub reach_given : ReachGiven
reach_given s j a i l = (
  hazard_reach h z,
  told_given s i j a l,
  record {
    withdrawal = far;
    says = says;
    covered =
        λ w p. covers_envelope h z (schedule_level w) (λ e t on k. (demand2 s j (hazard_reach h z).side w a low p).covers z own (sym (own_side h z)) e t on k);
    levels = same;
    shown = same_shown s (write_job (without_hazard j i)) j (without_hazard j i) a far.still_accepted (Untouched (hazard_reach h z)) same;
    nothing_alters = λ side u room. far.nothing_alters side (untouched_side h z (hazard_reach h z) says side u) room;
  },
)
  where
    h : Header
    h = j.header

    z : Hazard
    z = hazard_at j i

    fits : AcceptedFits j
    fits = accepted_fits s j a

    own : Memᴰ z j.hazards
    own = get_d_member j.hazards i (hazard_of []) l

    far : ReachesNoFarther s j i
    far = withdrawal_reach_lem s j a i l

    says : Says h z (hazard_reach h z)
    says = hazard_says j fits z own

    low : (hazard_reach h z).side ≤ 1
    low = omega (arith, own_side h z, (hazard_bounds h z (fits.fits.hazards.each z own)).side)

    same : SameLevels (Untouched (hazard_reach h z)) (job_level j) (job_level (without_hazard j i))
    same =
        untouched_levels h z (job_level j) (job_level (without_hazard j i)) (λ side t off. level_off_road j side fits t off)
        (λ side t off. level_off_road (without_hazard j i) side (accepted_fits (write_job (without_hazard j i)) (without_hazard j i) far.still_accepted) t off)
        far.levels

-- Refusals

module _ (s : List ℕ) (i : ℕ) where
  -- What the call answers, and why.
  data ReachVerdict : Type 0 where
    unaccepted : (k v : ℕ) → accept_job s ≡ refused k v → k ≤ 7 → reach s i ≡ refused k v → ReachVerdict
    no_such : NoHazard s i → reach s i ≡ refused 14 0 → ReachVerdict
    given : (r : Reach) → reach s i ≡ accepted r → ReachVerdict

  reach_verdict : ReachVerdict
  reach_verdict = go (accept_job s) refl (accept_refusals s)
    where
      among : (j : Job) → accept_job s ≡ accepted j → Dec (i < length j.hazards) → ReachVerdict
      among j e (yes l) = let w = reach_given s j e i l in given w.0 w.1
      among j e (no l) = let n : NoHazard s i = record { job = j; taken = e; few = omega arith } in no_such n (told_none s i n)

      go : (a : Answer Job) → accept_job s ≡ a → OneToSeven a → ReachVerdict
      go (accepted j) e o = among j e (dec_lt i (length j.hazards))
      go (refused k v) e o = unaccepted k v e o.1 (told_refused s i k v e)

pub reach_fourteen : ReachFourteen
reach_fourteen s i v = (λ e. to e (reach_verdict s i), λ w. told_none s i w.1 ∙ ap (refused 14) (sym w.0))
  where
    to : reach s i ≡ refused 14 v → ReachVerdict s i → (v ≡ 0) × NoHazard s i
    to e (unaccepted k w p l q) = absurd (let z : k ≡ 14 = cc in omega arith)
    to e (no_such n q) = ((cc), n)
    to e (given r q) = cc

pub reach_refusals : ReachRefusals
reach_refusals s i side room k v h = let plans = plan_refuses s side room h k v in
    (λ w. plans.0 (to w.0 w.1 (reach_verdict s i)), λ w. from (plans.1 w))
  where
    to : reach s i ≡ refused k v → k ≢ 14 → ReachVerdict s i → accept_job s ≡ refused k v
    to e n (unaccepted m w a l q) = let number : m ≡ k = cc in let value : w ≡ v = cc in a ∙ ap₂ refused number value
    to e n (no_such w q) = absurd (n (cc))
    to e n (given r q) = cc

    from : accept_job s ≡ refused k v → (reach s i ≡ refused k v) × (k ≢ 14)
    from e = (told_refused s i k v e, λ q. let few : k ≤ 7 = (rw e at (accept_refusals s)).1 in omega arith)
