-- The calls, step by step: the memory, the name, the hazard, and what is then made.
-- Assumes nothing.
use Prim.Native.Nat.{ℕ, ◌≤◌, ◌<◌}
use native.Mathlib.Omega.{arith}
use mathlib.Core.Path.{◌≡◌, refl, sym, subst, ap, ◌∙◌}
use mathlib.Core.Bool.{Bool, true, false}
use mathlib.Core.List.{List, [], ◌∷◌, append-nil}
use lib.ListN.{length, get_or, take, get_or-map}
use lib.Seq.{get_or-take}
use lib.Dec.{leb, eqb}
use borrow.Author.Tests.{eqb-true}
use Rattle.base.specs.Answer.{Answer, accepted, refused, ◌>>=◌}
use Rattle.base.specs.Stored.{accepted_or}
use Rattle.refusal.specs.Refusal.{unless_refuse, refusal}
use Rattle.refusal.specs.declared.Refusal.TheVariants as Row
use Rattle.refusal.specs.declared.Refusal.{Refusal}
use Rattle.refusal.proofs.RefuseLaws.{tested}
use Rattle.base.proofs.AnswerLaws.{bind_assoc, bind_same}
use Rattle.base.proofs.ListLaws.{get_d_member}
use Rattle.job.specs.declared.Header.{Header}
use Rattle.job.specs.declared.Hazard.{Hazard}
use Rattle.job.specs.declared.NamedHazard.{NamedHazard}
use Rattle.job.specs.declared.StoredJob.{StoredJob}
use Rattle.job.specs.Job.{Job, Fields, named, unnamed, job_of, header_size, read_header, header_of, read_job}
use Rattle.job.specs.Writing.{write_job}
use Rattle.job.specs.Reply.{unused, header_reading, header_at, job_header, read_opening}
use Rattle.job.specs.Hazards.{PlacesFit, stored_rest}
use Rattle.job.proofs.JobLaws.{job_fits}
use Rattle.job.proofs.OpeningLaws.{job_header_lem}
use Rattle.planning.specs.Envelope.{stands_near, test_hazard, test_hazards, accept_job}
use Rattle.planning.specs.declared.window.Window.{Window}
use Rattle.planning.specs.Accept.{side_within, side_of_job}
use Rattle.planning.specs.Rows.{AcceptedFits}
use Rattle.planning.proofs.AcceptedLaws.{hazards_pass, fitting_accepted}
use Rattle.open_job.specs.declared.KeptState.{KeptState}
use Rattle.open_job.specs.States.{is_used, state_of}
use Rattle.withdrawal.specs.declared.reply.Reach.{Reach}
use Rattle.withdrawal.specs.Reach.{hazard_reach}
use Rattle.open_memory.specs.Memory.{standing, laid_out, stands, hazard_under, is_full, inserted, admit, is_open_job}
use Rattle.job.specs.Fits.{hazard_in_range, HazardFits}
use Rattle.open_job.specs.Calls.{open_job, under_rules, add_to, withdraw_from, reach_under, test_state, kept_job}
use Rattle.open_memory.specs.Steps.{rank, put_at, taken_at}
use Rattle.open_job.specs.Parts.{admitted}
use Rattle.open_memory.proofs.RuleLaws.{Admitted, admit_ranged, stand_each, open_count, open_standing}
use Rattle.open_memory.proofs.PlaceLaws.{inserted_at, without_at_lem, rank_within, under_at}
use Rattle.open_memory.proofs.WalkLaws.{standing_length}

-- Opening

module _ (s : List ℕ) where
  -- A job whose header counts no hazard has none.
  pub none_read : (f : Fields) (j : Job) → read_header s ≡ accepted f → eqb (header_of f.numbers).count 0 ≡ true → read_job s ≡ accepted j → j.hazards ≡ []
  unfolding header_at
  none_read f j read none e =
      let at : header_at s ≡ accepted (header_reading f) = rw read in
      let zero = ap (λ (h : Header). h.count) (job_header_lem s at e) ∙ eqb-true _ _ none in
      empty j.hazards ((job_fits s j e).hazards.count ∙ zero)
    where
      empty : (zs : List Hazard) → length zs ≡ 0 → zs ≡ []
      empty [] q = refl
      empty (z ∷ zs) q = absurd (omega arith)

  pub opening_read : open_job s ≡ (read_opening s >>= λ h. accepted (laid_out h []))
  unfolding open_job read_opening header_at job_header accept_job test_hazards
  opening_read =
      bind_same (read_header s) _ _ (λ f read. bind_same (count f) _ _ (λ u zero. job (read_job s) (λ j e. none_read f j read (tested _ _ u zero) e))
      ∙ sym (bind_assoc (count f) _ _))
      ∙ sym (bind_assoc (header_at s) _ _ ∙ bind_assoc (read_header s) _ _)
    where
      count : (f : Fields) → Answer (Unit {0})
      count f = unless_refuse (eqb (header_of f.numbers).count 0) (Row.HeaderRange (header_size (header_of f.numbers).kind))

      job : (a : Answer Job) → ((j : Job) → a ≡ accepted j → j.hazards ≡ [])
          → ((a >>= λ j. test_hazards j.header 0 j.hazards >>= λ _. accepted j) >>= λ j. accepted (laid_out j.header []))
          ≡ ((a >>= λ j. accepted j.header) >>= λ h. accepted (laid_out h []))
      job (refused k v) none = refl
      job (accepted j) none =
          ap (λ (zs : List Hazard). (test_hazards j.header 0 zs >>= λ _. accepted j) >>= λ i. accepted (laid_out i.header [])) (none j refl)

-- A hazard that is to be added, in its ranges
module _ (h : Header) (name : ℕ) (z : Hazard) (ranged : hazard_in_range h z ≡ true) where
  pub given_near : stands_near h z ≡ true → refused 5 name ≡ admit h name z
  unfolding test_hazard
  given_near e = sym (admit_ranged h name z ranged ∙ rw e)

  pub given_clear : stands_near h z ≡ false → accepted tt ≡ admit h name z
  unfolding test_hazard
  given_clear e = sym (admit_ranged h name z ranged ∙ rw e)

-- A hazard that was admitted passed its tests, and is the one given.
admitted_is : (name : ℕ) (z : Hazard) (p : NamedHazard) (a : Answer (Unit {0})) → accepted p ≡ (a >>= λ _. accepted (named name z))
    → (a ≡ accepted tt) × (p ≡ named name z)
admitted_is name z p (accepted u) e = (refl, ap (accepted_or p) e)
admitted_is name z p (refused k v) e = cc

-- Memory that keeps the rules
module _ (m : StoredJob) (good : is_open_job m ≡ true) where
  -- As many stand as the header's count says.
  pub full_count : length m.hazards ≡ 256 → is_full (standing m) ≡ leb 256 m.header.count
  full_count size = ap (leb 256) (standing_length m size (open_count m good))

  -- A name that does not stand is put in at its place, and one that stands is taken out from there.
  module _ (name : ℕ) (z : Hazard) (fresh : stands name (standing m) ≡ false) (room : is_full (standing m) ≡ false) where
    pub add_refused : (q : Refusal) → refusal q ≡ admitted m.header name z → refusal q ≡ add_to m name z
    unfolding add_to
    add_refused q e =
        rw (fresh, room)
        (ap (λ (a : Answer NamedHazard). a >>= λ p. accepted (laid_out m.header (inserted p (standing m)))) e
        ∙ bind_assoc (admit m.header name z) _ _)

    pub add_done : (p : NamedHazard) → accepted p ≡ admitted m.header name z → (at : ℕ) → at ≡ rank name (standing m)
        → add_to m name z ≡ accepted (laid_out m.header (put_at at p (standing m)))
    unfolding add_to
    add_done p e at place =
        let passed = admitted_is name z p (admit m.header name z) e in
        rw (fresh, room, passed.0, passed.1)
        (ap (λ (ps : List NamedHazard). accepted (laid_out m.header ps))
        (inserted_at (named name z) (standing m) fresh ∙ ap (λ (k : ℕ). put_at k (named name z) (standing m)) (sym place)))

  pub withdraw_done : (name : ℕ) → stands name (standing m) ≡ true → (at : ℕ) → at ≡ rank name (standing m)
      → withdraw_from m name ≡ accepted (laid_out m.header (taken_at at (standing m)))
  unfolding withdraw_from
  withdraw_done name e at place =
      rw e
      (ap (λ (ps : List NamedHazard). accepted (laid_out m.header ps))
      (without_at_lem m.header name 0 (standing m) (open_standing m good) e ∙ ap (λ (k : ℕ). taken_at k (standing m)) (sym place)))

  -- The hazard at the place of a name that stands is the one under it, and it could be added.
  module _ (size : length m.hazards ≡ 256) (name : ℕ) (e : stands name (standing m) ≡ true) (at : ℕ) (place : at ≡ rank name (standing m)) where
    pub place_within : at < m.header.count
    place_within = omega (arith, rank_within m.header name 0 (standing m) (open_standing m good) e, standing_length m size (open_count m good))

    stored : get_or (standing m) at unused ≡ get_or m.hazards at unused
    stored = get_or-take m.header.count m.hazards at unused place_within

    under : hazard_under name (standing m) ≡ get_or m.hazards at unused
    under = under_at m.header name 0 (standing m) (open_standing m good) e ∙ ap (λ (k : ℕ). get_or (standing m) k unused) (sym place) ∙ stored

    module _ (z : Hazard) (own : z ≡ unnamed (get_or m.hazards at unused)) where
      pub place_admitted : Admitted m.header z
      place_admitted =
          let there : at < length (standing m) = omega (arith, place_within, standing_length m size (open_count m good)) in
          let may = stand_each m.header 0 (standing m) (open_standing m good) (get_d_member (standing m) at unused there) in
          subst (Admitted m.header) (ap unnamed stored ∙ sym own) may

      pub reach_done : {r : Reach} → r ≡ hazard_reach m.header z → accepted r ≡ reach_under m name
      unfolding reach_under
      reach_done q = rw e (ap accepted (q ∙ ap (hazard_reach m.header) (own ∙ ap unnamed (sym under))))

-- Schedule

-- The hazards of stored memory, walked over where they lie.
module _ (m : StoredJob) (fits : AcceptedFits (job_of m)) where
  stored_fits : (i : ℕ) → i < m.header.count → HazardFits m.header (unnamed (get_or m.hazards i unused))
  stored_fits i l =
      let zs = (job_of m).hazards in
      let same : get_or zs i (unnamed unused) ≡ unnamed (get_or m.hazards i unused) =
      get_or-map unnamed (take m.header.count m.hazards) i unused ∙ ap unnamed (get_or-take m.header.count m.hazards i unused l) in
      rw same at (fits.fits.hazards.each (get_or zs i (unnamed unused)) (get_d_member zs i (unnamed unused) (omega (arith, fits.fits.hazards.count))))

  pub places_fit : m.header.count ≤ length m.hazards → PlacesFit m.hazards m.header
  places_fit room = record { room = room; each = stored_fits }

  -- They are the job's own, and pass the test again.
  all_pass : test_hazards m.header 0 (job_of m).hazards ≡ accepted tt
  unfolding test_hazards
  all_pass = rw (← append-nil (job_of m).hazards, hazards_pass m.header 0 (job_of m).hazards [] fits.passed)

  -- So the side of the places is that of the job's writing.
  pub stored_side : (side : ℕ) (w : Window)
      → side_of_job m.header side w (stored_rest m.hazards m.header m.header.count []) ≡ side_within (write_job (job_of m)) side w
  unfolding side_within
  stored_side side w = rw (fitting_accepted (job_of m) fits, all_pass)

-- Return

-- The tests of a keep, and then what is found.
pub return_tested : (sound : Bool) (h : Header) (number : ℕ) (k : KeptState)
    → under_rules sound (kept_job h number k) ≡ (under_rules sound (test_state number) >>= λ _. unless_refuse (is_used k) Row.State >>= λ _. accepted (state_of h k))
unfolding kept_job
return_tested sound h number k = sym (bind_assoc (unless_refuse sound (Row.HeaderRange 0)) (λ _. test_state number) _)
