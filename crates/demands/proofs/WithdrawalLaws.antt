-- Request 14: beyond its reach the withdrawal of a hazard alters no level, and nothing that lookup shows.
-- Assumes nothing.
use Prim.Native.Nat.{ℕ, zero, suc, ◌+◌, ◌≤◌, ◌<◌}
use native.Mathlib.Omega.{arith}
use native.Mathlib.Decide.{dec_le, dec_lt, ℕ_discrete}
use native.Mathlib.Nat.{le_of_suc-le-suc, not-suc-le-zero}
use mathlib.Core.Path.{◌≡◌, sym, subst, ap, ◌∙◌}
use mathlib.Core.Logic.{◌⊎◌, inl, inr}
use mathlib.Core.Bool.{true, false}
use mathlib.Core.List.Memᴰ
use mathlib.Core.List.{List, [], ◌∷◌, Memᴰ}
use lib.ListN.{length, get_or}
use Rattle.base.specs.Answer.{accepted}
use Rattle.base.proofs.ListLaws.{get_d_member}
use Rattle.std.proofs.lemmas.Bool.{both_ways, cases_Bool}
use Rattle.job.specs.declared.Header.{Header}
use Rattle.job.specs.declared.Hazard.{Hazard}
use Rattle.job.specs.Job.{Job, hazard_of}
use Rattle.job.specs.Writing.{write_job}
use Rattle.job.proofs.RangeLaws.{header_bounds}
use Rattle.runs.specs.declared.Stretch.{Stretch}
use Rattle.runs.specs.Level.{Has, required_level}
use Rattle.runs.proofs.ChangeLaws.{Outside, level_without}
use Rattle.planning.specs.Envelope.{reached, cut_envelope, side_envelopes}
use Rattle.planning.specs.Overhang.{SideHazard}
use Rattle.planning.specs.Required.{job_level}
use Rattle.planning.specs.Approached.{hazard_at}
use Rattle.planning.specs.Rows.{AcceptedFits}
use Rattle.planning.proofs.EnvelopeLaws.{accepted_fits, FromCut, from_cut, to_cut, side_lies}
use Rattle.planning.proofs.AcceptedLaws.{fitting_accepted}
use Rattle.schedule.specs.Plan.{plan}
use Rattle.schedule.specs.Planned.{Accepted, Planned}
use Rattle.withdrawal.specs.Reach.{lengthened_at_both_ends, withdrawal_reach}
use Rattle.open_memory.proofs.RuleLaws.{made_fits}
use Rattle.demands.specs.Demands.{Alike}
use Rattle.demands.specs.Withdrawal.{without_at, without_hazard, Unaltered, without_envelope, other_side, Beyond, outside, unaltered, SameLevels, SameShown}
use Rattle.demands.specs.Withdrawal.{WithdrawalReach}
use Rattle.demands.proofs.DemandLaws.{alike_cut, more_envelopes, counted_alike}
use Rattle.demands.proofs.AlikeLaws.{same_levels, same_plan}
use Rattle.demands.proofs.LevelLaws.{level_lookup}

-- A list without what stands at an index

module _ {A : Type 0} where
  without_length : (i : ℕ) (l : List A) → i < length l → length (without_at i l) + 1 ≡ length l
  unfolding without_at
  without_length i [] h = absurd (not-suc-le-zero h)
  without_length zero (x ∷ xs) h = omega arith
  without_length (suc i) (x ∷ xs) h = omega (arith, without_length i xs (le_of_suc-le-suc h))

  without_member : (i : ℕ) (l : List A) {x : A} → Memᴰ x (without_at i l) → Memᴰ x l
  unfolding without_at
  without_member i [] m = absurd (Memᴰ.not-nil m)
  without_member zero (y ∷ ys) m = Memᴰ.tail m
  without_member (suc i) (y ∷ ys) {x} m = go (Memᴰ.cases_cons m) (without_member i ys)
    where
      go : (x ≡ y) ⊎ Memᴰ x (without_at i ys) → (Memᴰ x (without_at i ys) → Memᴰ x ys) → Memᴰ x (y ∷ ys)
      go (inl q) r = Memᴰ.head q
      go (inr k) r = Memᴰ.tail (r k)

  without_only : (i : ℕ) (l : List A) (d : A) → i < length l → {x : A} → Memᴰ x l → (x ≡ get_or l i d) ⊎ Memᴰ x (without_at i l)
  unfolding without_at
  without_only i [] d h m = absurd (not-suc-le-zero h)
  without_only zero (y ∷ ys) d h m = Memᴰ.cases_cons m
  without_only (suc i) (y ∷ ys) d h {x} m = go (Memᴰ.cases_cons m) (without_only i ys d (le_of_suc-le-suc h))
    where
      later : (x ≡ get_or ys i d) ⊎ Memᴰ x (without_at i ys) → (x ≡ get_or ys i d) ⊎ Memᴰ x (y ∷ without_at i ys)
      later (inl q) = inl q
      later (inr k) = inr (Memᴰ.tail k)

      go : (x ≡ y) ⊎ Memᴰ x ys → (Memᴰ x ys → (x ≡ get_or ys i d) ⊎ Memᴰ x (without_at i ys)) → (x ≡ get_or ys i d) ⊎ Memᴰ x (y ∷ without_at i ys)
      go (inl q) r = inr (Memᴰ.head q)
      go (inr k) r = later (r k)

outside_reach : (h : Header) (z : Hazard) (t : ℕ) → ¬ Has (withdrawal_reach h z) t → Outside (cut_envelope h z) h.continuity t
unfolding withdrawal_reach lengthened_at_both_ends
outside_reach h z t n = go (dec_lt (t + h.continuity) (cut_envelope h z).start) (dec_le ((cut_envelope h z).end + h.continuity) t)
  where
    go : Dec (t + h.continuity < (cut_envelope h z).start) → Dec ((cut_envelope h z).end + h.continuity ≤ t) → Outside (cut_envelope h z) h.continuity t
    go (yes a) b = inl a
    go (no a) (yes b) = inr b
    go (no a) (no b) = absurd (n (omega arith, omega arith))

-- Two jobs alike in their headers, of which the second lacks one hazard of the first and no other.
module _ (j k : Job) (to : Alike j.header k.header) (back : Alike k.header j.header) (z : Hazard)
    (only : (x : Hazard) → Memᴰ x j.hazards → (x ≡ z) ⊎ Memᴰ x k.hazards)
    (fewer : (x : Hazard) → Memᴰ x k.hazards → Memᴰ x j.hazards) where
  -- Where that hazard gives the side no envelope, both have the same.
  not_its : (side : ℕ) → Unaltered j.header z side → SideHazard j side z → ⊥
  not_its side (without_envelope r) s = both_ways _ r s.reach
  not_its side (other_side n) s = n (sym s.on_side)

  others : (side : ℕ) → Unaltered j.header z side → (x : Hazard) → SideHazard j side x → Memᴰ x k.hazards
  others side u x s = go (only x s.member)
    where
      go : (x ≡ z) ⊎ Memᴰ x k.hazards → Memᴰ x k.hazards
      go (inl q) = absurd (not_its side u (subst (SideHazard j side) q s))
      go (inr m) = m

  side_levels : (side : ℕ) → Unaltered j.header z side → (t : ℕ) → job_level k side t ≡ job_level j side t
  side_levels side u t = same_levels k j back to side (λ x s. fewer x s.member) (others side u) t

  pub side_plans : (s₁ s₂ : List ℕ) → Accepted s₁ j → Accepted s₂ k → (side : ℕ) → Unaltered j.header z side → (room : ℕ)
      → plan s₂ side room ≡ plan s₁ side room
  side_plans s₁ s₂ a₁ a₂ side u room = same_plan k j back to side (λ x s. fewer x s.member) (others side u) s₂ s₁ a₂ a₁ room

  -- An envelope of the first is that of the hazard or one of the second's.
  either : (side : ℕ) (e : Stretch) → Memᴰ e (side_envelopes j side) → (e ≡ cut_envelope j.header z) ⊎ Memᴰ e (side_envelopes k side)
  either side e m = go (only w.hazard w.own.member)
    where
      w : FromCut j side e
      w = from_cut j side e m

      go : (w.hazard ≡ z) ⊎ Memᴰ w.hazard k.hazards → (e ≡ cut_envelope j.header z) ⊎ Memᴰ e (side_envelopes k side)
      go (inl q) = inl (w.is ∙ ap (cut_envelope j.header) q)
      go (inr o) = inr (alike_cut j k to side e w o)

  module _ (fits : AcceptedFits j) (own : Memᴰ z j.hazards) where
    outside_levels : (side : ℕ) → SideHazard j side z → (t : ℕ) → Outside (cut_envelope j.header z) j.header.continuity t
        → job_level k side t ≡ job_level j side t
    unfolding job_level
    outside_levels side s t out =
        let long = (side_lies j side fits (cut_envelope j.header z) (to_cut j side s)).long in
        ap (λ (G : ℕ). required_level (side_envelopes k side) G t) (ap (λ (x : Header). x.continuity) back)
        ∙ sym (level_without (cut_envelope j.header z) (side_envelopes j side) (side_envelopes k side) j.header.continuity t long out (either side)
        (more_envelopes k j back side (λ x s. fewer x s.member)))

    pub same_beyond : SameLevels (Beyond j.header z) (job_level j) (job_level k)
    same_beyond side t (unaltered u) = side_levels side u t
    same_beyond side t (outside n) = go (ℕ_discrete side z.side) (cases_Bool (reached j.header z))
      where
        go : Dec (side ≡ z.side) → (reached j.header z ≡ true) ⊎ (reached j.header z ≡ false) → job_level k side t ≡ job_level j side t
        go (yes on) (inl r) = outside_levels side (record { member = own; on_side = sym on; reach = r }) t (outside_reach j.header z t n)
        go (yes on) (inr r) = side_levels side (without_envelope r) t
        go (no off) r = side_levels side (other_side off) t

-- Lookup shows what the jobs require.
pub same_shown :
    (s₁ s₂ : List ℕ) (j k : Job) → Accepted s₁ j → Accepted s₂ k → (Away : (side t : ℕ) → Type 0) → SameLevels Away (job_level j) (job_level k)
    → SameShown Away (job_level j) (Planned s₁) (Planned s₂)
same_shown s₁ s₂ j k a₁ a₂ Away same side low right left rightAfter leftAfter p₁ p₂ t b = record {
  before = (level_lookup s₁ j side right left a₁ low p₁ t).shown;
  after = (level_lookup s₂ k side rightAfter leftAfter a₂ low p₂ t).shown ∙ ap accepted (same side t b);
}

pub withdrawal_reach_lem : WithdrawalReach
withdrawal_reach_lem s j a i l = record {
  one_less = one_less ∙ fits.fits.hazards.count;
  still_accepted = still;
  levels = same;
  shown = same_shown s (write_job k) j k a still (Beyond j.header z) same;
  nothing_alters = side_plans j k to back z only fewer s (write_job k) a still;
}
  where
    fits : AcceptedFits j
    fits = accepted_fits s j a

    z : Hazard
    z = hazard_at j i

    k : Job
    k = without_hazard j i

    one_less : length (without_at i j.hazards) + 1 ≡ length j.hazards
    one_less = without_length i j.hazards l

    to : Alike j.header k.header
    to = counted_alike j.header j.header.count k.header.count

    back : Alike k.header j.header
    back = counted_alike j.header k.header.count j.header.count

    only : (x : Hazard) → Memᴰ x j.hazards → (x ≡ z) ⊎ Memᴰ x k.hazards
    only x m = without_only i j.hazards (hazard_of []) l m

    fewer : (x : Hazard) → Memᴰ x k.hazards → Memᴰ x j.hazards
    fewer x m = without_member i j.hazards m

    still : Accepted (write_job k) k
    still =
        fitting_accepted k (made_fits j.header k.hazards fits.fits.header
        (omega (arith, one_less, fits.fits.hazards.count, (header_bounds j.header fits.fits.header).count))
        (λ x m. record { fits = fits.fits.hazards.each x (fewer x m); passed = fits.passed x (fewer x m) }))

    same : SameLevels (Beyond j.header z) (job_level j) (job_level k)
    same = same_beyond j k to back z only fewer fits (get_d_member j.hazards i (hazard_of []) l)
