-- What an accepted job is known to satisfy: its hazards passed 5, and each cut envelope lies on the road.
-- Assumes nothing.
use Rattle.std.specs.Prelude.{if◌then◌else◌}
use Prim.Native.Nat.{ℕ, suc, ◌+◌, ◌≤◌, ◌<◌}
use native.Mathlib.Omega.{arith}
use mathlib.Core.Path.{◌≡◌, refl, sym, subst, ap, ◌∙◌}
use mathlib.Core.Logic.{◌⊎◌, inl, inr, ◌↔◌}
use mathlib.Core.Bool.{Bool, true, false, ◌&&◌, ◌||◌}
use mathlib.Core.List.Memᴰ
use mathlib.Core.List.{List, [], ◌∷◌, Memᴰ}
use lib.ListN.{length, length-map}
use lib.Dec.{eqb}
use borrow.Author.Tests.{ltb-false, eqb-true, eq-eqb}
use Rattle.base.specs.Answer.{accepted}
use Rattle.base.proofs.TestLaws.{not_and}
use Rattle.std.proofs.lemmas.Bool.{and_from, and_parts, or_left, or_right}
use Rattle.base.proofs.AnswerLaws.{bound}
use Rattle.refusal.proofs.RefuseLaws.{tested}
use Rattle.base.proofs.ListLaws.{cons_each}
use Rattle.approach.specs.Approach.{Domain}
use Rattle.job.specs.declared.Header.{Header}
use Rattle.job.specs.declared.Hazard.{Hazard}
use Rattle.job.specs.Job.{Job, read_job}
use Rattle.job.specs.Fits.{HazardFits, JobFits}
use Rattle.job.proofs.RangeLaws.{header_bounds, hazard_bounds}
use Rattle.job.proofs.JobLaws.{job_fits}
use Rattle.runs.specs.declared.Stretch.{Stretch}
use Rattle.runs.specs.Level.{Has, Proper}
use Rattle.runs.specs.RunList.{last_station}
use Rattle.runs.proofs.LevelLaws.{Levelled, EndsBy}
use Rattle.planning.specs.Envelope.{Traffic, forward, opposite, runout, reaches, reached, reach_of, offset_of, envelope, envelopes, cut_to_road, cut_envelope}
use Rattle.planning.specs.Envelope.{side_envelopes, OnRoad, stands_near, test_hazard, test_hazards, accept_job}
use Rattle.planning.specs.Overhang.{SideHazard}
use Rattle.planning.specs.Rows.{Passed, AcceptedFits}
use Rattle.planning.proofs.ReachLaws.{reaching_domain}
use Rattle.refusal.specs.declared.Refusal.TheVariants as Row

pub hazard_passed : (h : Header) (i : ℕ) (z : Hazard) (u : Unit {0}) → test_hazard h i z ≡ accepted u → Passed h z
unfolding test_hazard stands_near
hazard_passed h i z u e = record { clear = λ r. ltb-false _ _ (not_and (reached h z) _ (tested _ (Row.NearBarrier i) _ e) r) }

pub hazards_passed : (h : Header) (i : ℕ) (zs : List Hazard) (u : Unit {0}) → test_hazards h i zs ≡ accepted u → (z : Hazard) → Memᴰ z zs → Passed h z
unfolding test_hazards
hazards_passed h i [] u e = λ z m. absurd (Memᴰ.not-nil m)
hazards_passed h i (x ∷ xs) u e =
    let b1 = bound (test_hazard h i x) _ u e in
    cons_each (Passed h) (hazard_passed h i x b1.first b1.taken) (hazards_passed h (i + 1) xs u b1.rest)

pub accepted_fits : (s : List ℕ) (j : Job) → accept_job s ≡ accepted j → AcceptedFits j
unfolding accept_job
accepted_fits s j e =
    let b1 = bound (read_job s) _ j e in
    let b2 = bound (test_hazards b1.first.header 0 b1.first.hazards) _ j b1.rest in
    finish b1.first b2.first b1.taken b2.taken b2.rest
  where
    finish : (k : Job) (u : Unit {0}) → read_job s ≡ accepted k → test_hazards k.header 0 k.hazards ≡ accepted u → accepted k ≡ accepted j → AcceptedFits j
    finish k u p q c =
        let w : k ≡ j = cc in
        subst AcceptedFits w (record { fits = job_fits s k p; passed = hazards_passed k.header 0 k.hazards u q })

-- The cut envelope has exactly the envelope's millimetres that are of the road.
pub cut_has : (h : Header) (z : Hazard) (t : ℕ) → Has (cut_envelope h z) t ↔ (OnRoad h t × Has (envelope h z) t)
unfolding cut_envelope cut_to_road
cut_has h z t = (
  λ k. ((omega (arith, k.0), omega (arith, k.1)), (omega (arith, k.0), omega (arith, k.1))),
  λ k. (omega (arith, k.0.0, k.1.0), omega (arith, k.0.1, k.1.1)),
)

-- It lies on the road and has a millimetre.
pub record LiesOnRoad (h : Header) (e : Stretch) : Type 0 where
  pub begins : h.begin ≤ e.start
  pub long : e.start < e.end
  pub ends : e.end ≤ h.end

cut_lies : (h : Header) (z : Hazard) → HazardFits h z → LiesOnRoad h (cut_envelope h z)
unfolding cut_envelope cut_to_road envelope
cut_lies h z f = let bounds = hazard_bounds h z f in
    record { begins = omega arith; long = omega (arith, bounds.long, bounds.begins, bounds.ends); ends = omega arith }

-- The envelopes of a side, not cut, as members.
record FromHazard (h : Header) (side : ℕ) (zs : List Hazard) (e : Stretch) : Type 0 where
  pub hazard : Hazard
  pub member : Memᴰ hazard zs
  pub on_side : hazard.side ≡ side
  pub reach : reached h hazard ≡ true
  pub is : e ≡ envelope h hazard

from_hazard : (h : Header) (side : ℕ) (zs : List Hazard) (e : Stretch) → Memᴰ e (envelopes h side zs) → FromHazard h side zs e
unfolding envelopes
from_hazard h side [] e m = absurd (Memᴰ.not-nil m)
from_hazard h side (z ∷ zs) e m = go (eqb z.side side && reached h z) refl m (from_hazard h side zs e)
  where
    later : FromHazard h side zs e → FromHazard h side (z ∷ zs) e
    later w = record { hazard = w.hazard; member = Memᴰ.tail w.member; on_side = w.on_side; reach = w.reach; is = w.is }

    here : (eqb z.side side && reached h z) ≡ true → (e ≡ envelope h z) ⊎ Memᴰ e (envelopes h side zs)
        → (Memᴰ e (envelopes h side zs) → FromHazard h side zs e) → FromHazard h side (z ∷ zs) e
    here t (inl q) r = record {
      hazard = z;
      member = Memᴰ.head refl;
      on_side = eqb-true _ _ ((and_parts _ (reached h z) t).0);
      reach = (and_parts (eqb z.side side) _ t).1;
      is = q;
    }
    here t (inr k) r = later (r k)

    go : (b : Bool) → (eqb z.side side && reached h z) ≡ b → Memᴰ e (if b then envelope h z ∷ envelopes h side zs else envelopes h side zs)
        → (Memᴰ e (envelopes h side zs) → FromHazard h side zs e) → FromHazard h side (z ∷ zs) e
    go true t k r = here t (Memᴰ.cases_cons k) r
    go false t k r = later (r k)

to_envelope : (h : Header) (side : ℕ) {z : Hazard} {zs : List Hazard} → Memᴰ z zs → z.side ≡ side → reached h z ≡ true
    → Memᴰ (envelope h z) (envelopes h side zs)
unfolding envelopes
to_envelope h side {z} (Memᴰ.head {x = x} {xs = xs} q) on r =
    rw q (rw (let t : (eqb x.side side && reached h x) ≡ true = and_from _ _ (eq-eqb _ _ (ap (λ (y : Hazard). y.side) (sym q) ∙ on)) (rw q at r) in t)
    (Memᴰ.head refl))
to_envelope h side {z} (Memᴰ.tail {x = x} {xs = xs} m) on r = go (eqb x.side side && reached h x) (to_envelope h side m on r)
  where
    go : (b : Bool) → Memᴰ (envelope h z) (envelopes h side xs)
        → Memᴰ (envelope h z) (if b then envelope h x ∷ envelopes h side xs else envelopes h side xs)
    go true k = Memᴰ.tail k
    go false k = k

-- The cut ones.
pub record FromCut (j : Job) (side : ℕ) (e : Stretch) : Type 0 where
  pub hazard : Hazard
  pub own : SideHazard j side hazard
  pub is : e ≡ cut_envelope j.header hazard

pub from_cut : (j : Job) (side : ℕ) (e : Stretch) → Memᴰ e (side_envelopes j side) → FromCut j side e
unfolding cut_envelope
from_cut j side e m =
    let p = Memᴰ.of_map (cut_to_road j.header) (envelopes j.header side j.hazards) m in
    let w = from_hazard j.header side j.hazards p.0 p.1 in
    record {
      hazard = w.hazard;
      own = record { member = w.member; on_side = w.on_side; reach = w.reach };
      is = sym p.2 ∙ ap (cut_to_road j.header) w.is;
    }

pub to_cut : (j : Job) (side : ℕ) {z : Hazard} → SideHazard j side z → Memᴰ (cut_envelope j.header z) (side_envelopes j side)
unfolding cut_envelope
to_cut j side s = Memᴰ.map (cut_to_road j.header) (to_envelope j.header side s.member s.on_side s.reach)

envelopes_length : (h : Header) (side : ℕ) (zs : List Hazard) → length (envelopes h side zs) ≤ length zs
unfolding envelopes
envelopes_length h side [] = omega arith
envelopes_length h side (z ∷ zs) = go (eqb z.side side && reached h z) (envelopes_length h side zs)
  where
    go : (b : Bool) → length (envelopes h side zs) ≤ length zs
        → length (if b then envelope h z ∷ envelopes h side zs else envelopes h side zs) ≤ suc (length zs)
    go true r = omega arith
    go false r = omega arith

-- The envelopes of a side of an accepted job.
module _ (j : Job) (side : ℕ) (fits : AcceptedFits j) where
  pub side_lies : (e : Stretch) → Memᴰ e (side_envelopes j side) → LiesOnRoad j.header e
  side_lies e m = let w = from_cut j side e m in rw w.is (cut_lies j.header w.hazard (fits.fits.hazards.each w.hazard w.own.member))

  pub side_proper : Proper (side_envelopes j side)
  side_proper e m = (side_lies e m).long

  pub side_levelled : Levelled (side_envelopes j side)
  unfolding cut_envelope cut_to_road envelope
  side_levelled e m =
      let w = from_cut j side e m in
      let bounds = hazard_bounds j.header w.hazard (fits.fits.hazards.each w.hazard w.own.member) in
      rw w.is (bounds.level_low, bounds.level_top)

  pub side_ends : EndsBy last_station (side_envelopes j side)
  side_ends e m = omega (arith, (side_lies e m).ends, (header_bounds j.header fits.fits.header).road_end)

  pub side_count : length (side_envelopes j side) ≤ 256
  side_count =
      let same : length (side_envelopes j side) ≡ length (envelopes j.header side j.hazards) =
      length-map (envelopes j.header side j.hazards) (cut_to_road j.header) in
      omega (arith, same, envelopes_length j.header side j.hazards, fits.fits.hazards.count, (header_bounds j.header fits.fits.header).count)

-- A traffic that reaches a hazard of an accepted job asks for a length in the formula's domain.
module _ (j : Job) (fits : AcceptedFits j) (z : Hazard) (m : Memᴰ z j.hazards) (t : Traffic) (r : reaches j.header z t ≡ true) where
  clear : j.header.offset + j.header.deflection ≤ z.near
  unfolding reached
  clear = (fits.passed z m).clear (any t r)
    where
      any : (t : Traffic) → reaches j.header z t ≡ true → (reaches j.header z forward || reaches j.header z opposite) ≡ true
      any forward q = or_left _ _ q
      any opposite q = or_right (reaches j.header z forward) _ q

  pub domain_of : Domain j.header.along j.header.across j.header.straight (runout j.header t) (reach_of j.header z t)
      (offset_of j.header z t)
  domain_of = reaching_domain j.header z fits.fits.header (fits.fits.hazards.each z m) clear t r

-- The envelopes that a tested job gives fit the builder of runs.
pub record EnvelopesFit (es : List Stretch) : Type 0 where
  pub few : length es ≤ 256
  pub proper : Proper es
  pub levelled : Levelled es
  pub ends : EndsBy last_station es

pub tested_fit : (j : Job) (side : ℕ) → JobFits j → test_hazards j.header 0 j.hazards ≡ accepted tt → EnvelopesFit (side_envelopes j side)
tested_fit j side f e =
    let fits : AcceptedFits j = record { fits = f; passed = hazards_passed j.header 0 j.hazards tt e } in
    record {
      few = side_count j side fits;
      proper = side_proper j side fits;
      levelled = side_levelled j side fits;
      ends = side_ends j side fits;
    }
