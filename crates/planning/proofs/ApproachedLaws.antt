-- The hazard asked for by its index: when 14 is returned, and what is known of a hazard that adjacent traffic reaches.
-- Assumes nothing.
use Prim.Native.Nat.{ℕ, ◌≤◌, ◌<◌}
use mathlib.Core.Path.{◌≡◌, refl, sym, subst, ◌∙◌}
use mathlib.Core.Bool.{Bool, true, false}
use mathlib.Core.List.{List, Memᴰ}
use lib.ListN.{length}
use lib.Dec.{ltb}
use borrow.Author.Tests.{lt-ltb, le-ltb, ltb-true}
use Rattle.base.specs.Answer.{Answer, accepted, refused, ◌>>=◌}
use Rattle.base.proofs.AnswerLaws.{bound, bind_assoc, bind_same}
use Rattle.base.proofs.ListLaws.{get_d_member}
use Rattle.refusal.specs.Refusal.{unless_refuse}
use Rattle.refusal.specs.declared.Refusal.TheVariants as Row
use Rattle.refusal.proofs.RefuseLaws.{passed}
use Rattle.job.specs.declared.Header.{Header}
use Rattle.job.specs.declared.Hazard.{Hazard}
use Rattle.job.specs.Job.{Job}
use Rattle.job.specs.Fits.{HazardFits}
use Rattle.job.proofs.RangeLaws.{hazard_bounds}
use Rattle.planning.specs.Envelope.{accept_job}
use Rattle.planning.specs.declared.accept.Indexed.{Indexed}
use Rattle.planning.specs.Accept.{indexed_hazard}
use Rattle.planning.specs.Approached.{hazard_at, adjacent_reaches, approached_hazard, ApproachedFits}
use Rattle.planning.specs.Rows.{AcceptedFits}
use Rattle.planning.proofs.ReachLaws.{reached_near}
use Rattle.planning.proofs.EnvelopeLaws.{accepted_fits}
use Rattle.planning.proofs.AdjacentLaws.{adjacent_reaches_lem}

module _ (j : Job) (i : ℕ) where
  pub no_such : length j.hazards ≤ i → approached_hazard j i ≡ refused 14 0
  unfolding approached_hazard
  no_such l = simp (le-ltb i (length j.hazards) l)

  pub not_reached : adjacent_reaches j.header (hazard_at j i) ≡ false → approached_hazard j i ≡ refused 14 0
  unfolding approached_hazard
  not_reached r = rw r (go (ltb i (length j.hazards)))
    where
      none : Answer Hazard
      none = refused 14 0

      go : (there : Bool) → (unless_refuse there Row.Hazard >>= λ _. none) ≡ none
      go true = refl
      go false = refl

  pub approached : i < length j.hazards → adjacent_reaches j.header (hazard_at j i) ≡ true → approached_hazard j i ≡ accepted (hazard_at j i)
  unfolding approached_hazard
  approached l r = simp (lt-ltb i (length j.hazards) l, r)

-- In an accepted job.
module _ (j : Job) (fits : AcceptedFits j) (i : ℕ) (l : i < length j.hazards) where
  member : Memᴰ (hazard_at j i) j.hazards
  member = get_d_member j.hazards i _ l

  own_fits : HazardFits j.header (hazard_at j i)
  own_fits = fits.fits.hazards.each (hazard_at j i) member

  -- "Adjacent traffic reaches the hazard if n < C."
  pub reach_test : adjacent_reaches j.header (hazard_at j i) ≡ ltb (hazard_at j i).near j.header.zone
  reach_test = adjacent_reaches_lem j.header (hazard_at j i) (hazard_bounds j.header (hazard_at j i) own_fits).side

  pub approached_fits : (hazard_at j i).near < j.header.zone → ApproachedFits j.header (hazard_at j i)
  approached_fits r =
      let reach = reached_near j.header (hazard_at j i) (hazard_bounds j.header (hazard_at j i) own_fits).side ∙ lt-ltb _ _ r in
      record { header = fits.fits.header; hazard = own_fits; reach = r; clear = (fits.passed (hazard_at j i) member).clear reach }

-- As it is asked for by `indexed_hazard`, which refuses where there is none.
module _ (s : List ℕ) (i : ℕ) where
  -- What is known of it.
  record Known (h : Header) (z : Hazard) : Type 0 where
    test : adjacent_reaches h z ≡ ltb z.near h.zone
    fits : z.near < h.zone → ApproachedFits h z

  known : (h : Header) (z : Hazard) → indexed_hazard s i ≡ accepted (record { header = h; hazard = z }) → Known h z
  unfolding indexed_hazard
  known h z e =
      let b = bound (accept_job s) _ (record { header = h; hazard = z }) e in
      let j = b.first in
      let p = passed (ltb i (length j.hazards)) Row.Hazard _ (record { header = h; hazard = z }) b.rest in
      let same : ◌≡◌ {A = Indexed} (record { header = j.header; hazard = hazard_at j i }) (record { header = h; hazard = z }) = let q = p.1 in cc in
      let fits = accepted_fits s j b.taken in
      let l = ltb-true i (length j.hazards) p.0 in
      subst (λ (a : Indexed). Known a.header a.hazard) same (record { test = reach_test j fits i l; fits = approached_fits j fits i l })

  pub indexed_reached : (h : Header) (z : Hazard) → indexed_hazard s i ≡ accepted (record { header = h; hazard = z }) → z.near < h.zone → ApproachedFits h z
  indexed_reached h z e = (known h z e).fits

  -- And what follows for it: the calls' own order, 14 for no such hazard and then 14 for one that is not reached, is that of one answer.
  module _ {A : Type 0} (then : Header → Hazard → Answer A) where
    abbrev asked : Answer A
    asked = accept_job s >>= λ j. approached_hazard j i >>= λ z. then j.header z

    asked_step : asked ≡ (indexed_hazard s i >>= λ a. unless_refuse (adjacent_reaches a.header a.hazard) Row.Hazard >>= λ _. then a.header a.hazard)
    unfolding approached_hazard indexed_hazard
    asked_step =
        bind_same (accept_job s) _ _ (λ j _. bind_assoc (there j) _ _ ∙ bind_same (there j) _ _ (λ _ _. bind_assoc (reach j) _ _)
        ∙ sym (bind_assoc (there j) _ _))
        ∙ sym (bind_assoc (accept_job s) _ _)
      where
        there : Job → Answer (Unit {0})
        there j = unless_refuse (ltb i (length j.hazards)) Row.Hazard

        reach : Job → Answer (Unit {0})
        reach j = unless_refuse (adjacent_reaches j.header (hazard_at j i)) Row.Hazard

    pub asked_refused : {k v : ℕ} → indexed_hazard s i ≡ refused k v → asked ≡ refused k v
    asked_refused e = asked_step ∙ rw e

    module _ (h : Header) (z : Hazard) (e : indexed_hazard s i ≡ accepted (record { header = h; hazard = z })) where
      pub asked_unreached : h.zone ≤ z.near → asked ≡ refused 14 0
      asked_unreached l = asked_step ∙ rw (e, (known h z e).test, le-ltb z.near h.zone l)

      pub asked_reached : z.near < h.zone → asked ≡ then h z
      asked_reached l = asked_step ∙ rw (e, (known h z e).test, lt-ltb z.near h.zone l)
