-- The three demands, proved of the definitions.
-- Assumes nothing.
use Prim.Native.Nat.{ℕ, ◌+◌, ◌-◌, ◌≤◌}
use native.Mathlib.Omega.{arith}
use mathlib.Core.Path.{◌≡◌, refl, sym, subst, ap, ◌∙◌, fun_ext}
use mathlib.Core.Bool.{Bool, true}
use mathlib.Core.List.{List, [], ◌∷◌, Memᴰ}
use lib.ListN.{length, take, drop}
use lib.Seq.{take-append_seam, drop-append_seam}
use lib.Dec.{leb, eqb}
use borrow.Author.Tests.{le-leb, leb-true}
use Rattle.base.specs.Answer.{Answer, accepted, refused, ◌>>=◌}
use Rattle.refusal.specs.Refusal.{unless_refuse}
use Rattle.refusal.specs.declared.Refusal.TheVariants as Row
use Rattle.job.specs.declared.Header.{Header}
use Rattle.job.specs.declared.Hazard.{Hazard}
use Rattle.job.specs.Job.{Job, counted}
use Rattle.runs.specs.declared.Stretch.{Stretch}
use Rattle.planning.specs.Envelope.{farther, reach_of, offset_of, reaches, lengthening, accept_job, reached, envelope, cut_to_road, cut_envelope, side_envelopes}
use Rattle.planning.specs.Envelope.{side_overhangs}
use Rattle.runs.specs.Level.{Covers, NoShortGap, Has, required_level}
use Rattle.runs.specs.RunList.{shown_level}
use Rattle.runs.specs.Count.{count_from}
use Rattle.runs.proofs.CountLaws.{count_add}
use Rattle.schedule.specs.Schedule.{write_schedule, read_schedule}
use Rattle.schedule.proofs.PlanLaws.{output_length}
use Rattle.demands.specs.Queries.{Finds}
use Rattle.demands.proofs.LookupLaws.{none_shown, lookup_written}
use Rattle.planning.specs.Overhang.{SideHazard}
use Rattle.planning.specs.Required.{job_level, job_runs}
use Rattle.queries.specs.Lookup.{Found, found, nowhere, asked}
use Rattle.schedule.specs.Plan.{PlannedSide, fitted, plan, output_after}
use Rattle.queries.specs.Quantity.{millimetres, quantity}
use Rattle.runs.proofs.LevelLaws.{required_more}
use Rattle.runs.proofs.GapLaws.{required_is_highest}
use Rattle.runs.proofs.LeastLaws.{required_covers, required_no_short_gap, required_least}
use Rattle.runs.proofs.RunsOfLaws.{runs_of_unique, member→run, run→member}
use Rattle.base.proofs.AnswerLaws.{bound}
use Rattle.refusal.proofs.RefuseLaws.{tested}
use Rattle.schedule.specs.Planned.{Accepted, schedule_alone, Planned, schedule_level}
use Rattle.schedule.proofs.PlannedLaws.{planned_writing, planned_only, job_read, job_shown}
use Rattle.planning.proofs.JobRunLaws.{job_runs_lem, job_run_list}
use Rattle.planning.specs.Rows.{AcceptedFits}
use Rattle.planning.proofs.EnvelopeLaws.{accepted_fits, cut_has, FromCut, from_cut, to_cut, side_lies, side_proper, side_levelled}
use Rattle.planning.proofs.RoadLaws.{level_off_road}
use Rattle.demands.specs.Demands.{CoversHazards, NoShortGapOnRoad, LeastCovering, Demand2, Demand1, ShowsLevel, Demand2Lookup, Demand3Writing}
use Rattle.demands.specs.Demands.{Demand3Planned, Demand3Equal, Demand3OffRoad, Alike, Demand3Growth, RisingStations, last_of, lots_total}
use Rattle.demands.specs.Demands.{Demand3Quantities, PlannedJob, PlanAccepted}

pub demand3_planned : Demand3Planned
demand3_planned s j side a h = planned_writing s j side a h

-- The runs of a side of an accepted job.
module _ (j : Job) (side : ℕ) (fits : AcceptedFits j) where
  covers_side : (f : ℕ → ℕ) → CoversHazards j side f → Covers (side_envelopes j side) f
  unfolding cut_envelope cut_to_road envelope
  covers_side f c e m t h =
      let w = from_cut j side e m in
      let own = w.own in
      let k : Has (cut_envelope j.header w.hazard) t = rw w.is at h in
      let road = (cut_has j.header w.hazard t).0 k in
      rw w.is (c w.hazard own.member own.on_side own.reach t road.0 road.1)

  job_covers : CoversHazards j side (job_level j side)
  unfolding job_level cut_envelope cut_to_road envelope
  job_covers z m on r t road h =
      required_covers (side_envelopes j side) j.header.continuity (side_levelled j side fits) (cut_envelope j.header z)
      (to_cut j side (record { member = m; on_side = on; reach = r })) t ((cut_has j.header z t).1 (road, h))

  job_no_short_gap : NoShortGap j.header.continuity (job_level j side)
  unfolding job_level
  job_no_short_gap = required_no_short_gap (side_envelopes j side) j.header.continuity (side_proper j side fits)

  job_least : (f : ℕ → ℕ) → CoversHazards j side f → NoShortGapOnRoad j f → (t : ℕ) → job_level j side t ≤ f t
  unfolding job_level
  job_least f c n t =
      required_least (side_envelopes j side) j.header.continuity j.header.begin j.header.end (side_proper j side fits)
      (λ e m. ((side_lies j side fits e m).begins, (side_lies j side fits e m).ends)) f (covers_side f c) n t

  job_level_shown : schedule_level (write_schedule (job_runs j side)) ≡ job_level j side
  job_level_shown = fun_ext (job_shown j side fits)

  least_covering : LeastCovering j side (write_schedule (job_runs j side))
  unfolding job_level
  least_covering = record {
    covers = subst (CoversHazards j side) (sym job_level_shown) job_covers;
    no_short_gap = subst (NoShortGap j.header.continuity) (sym job_level_shown) job_no_short_gap;
    least = λ f c n t. rw (job_shown j side fits t) (job_least f c n t);
    off_road = λ t off. job_shown j side fits t ∙ level_off_road j side fits t off;
    reads = job_read j side fits;
    level = job_shown j side fits;
    highest = λ t. required_is_highest (side_envelopes j side) j.header.continuity t (side_proper j side fits);
  }

pub demand2 : Demand2
demand2 s j side w a h p = rw (planned_only s j side w a h p) (least_covering j side (accepted_fits s j a))

pub demand3_writing : Demand3Writing
demand3_writing s j side w a h p =
    let fits = accepted_fits s j a in
    let of = job_runs_lem j side fits in
    record {
      writes = planned_only s j side w a h p;
      run_list = job_run_list j side fits;
      runs = λ r. (member→run (job_level j side) (job_runs j side) of r, run→member (job_level j side) (job_runs j side) of r);
    }

pub demand3_equal : Demand3Equal
demand3_equal s₁ s₂ j₁ j₂ side₁ side₂ w₁ w₂ a₁ a₂ h₁ h₂ p₁ p₂ = (same_level, same_bytes)
  where
    f₁ : AcceptedFits j₁
    f₁ = accepted_fits s₁ j₁ a₁

    f₂ : AcceptedFits j₂
    f₂ = accepted_fits s₂ j₂ a₂

    q₁ : w₁ ≡ write_schedule (job_runs j₁ side₁)
    q₁ = planned_only s₁ j₁ side₁ w₁ a₁ h₁ p₁

    q₂ : w₂ ≡ write_schedule (job_runs j₂ side₂)
    q₂ = planned_only s₂ j₂ side₂ w₂ a₂ h₂ p₂

    same_level : w₁ ≡ w₂ → (t : ℕ) → job_level j₁ side₁ t ≡ job_level j₂ side₂ t
    same_level e t = sym (job_shown j₁ side₁ f₁ t) ∙ ap (λ (w : List ℕ). schedule_level w t) (sym q₁ ∙ e ∙ q₂) ∙ job_shown j₂ side₂ f₂ t

    same_bytes : ((t : ℕ) → job_level j₁ side₁ t ≡ job_level j₂ side₂ t) → w₁ ≡ w₂
    same_bytes e =
        q₁ ∙ ap write_schedule (runs_of_unique (job_runs j₁ side₁) (job_runs j₂ side₂) (job_runs_lem j₁ side₁ f₁)
        (record { rising = (job_runs_lem j₂ side₂ f₂).rising; shows = λ t. (job_runs_lem j₂ side₂ f₂).shows t ∙ sym (e t) })) ∙ sym q₂

pub demand3_off_road : Demand3OffRoad
demand3_off_road s j side a t off = level_off_road j side (accepted_fits s j a) t off

-- Headers that are alike give a hazard the same envelope.
pub alike_reached : (h k : Header) → Alike h k → (z : Hazard) → reached h z ≡ reached k z
unfolding reached reaches farther
alike_reached h k a z = ap (λ (x : Header). reached x z) a

alike_envelope : (h k : Header) → Alike h k → (z : Hazard) → cut_envelope h z ≡ cut_envelope k z
unfolding cut_envelope cut_to_road envelope lengthening reaches reach_of offset_of farther
alike_envelope h k a z = ap (λ (x : Header). cut_envelope x z) a

-- So an envelope of the first job is one of the second, where that has the hazard too.
pub alike_cut :
    (j₁ j₂ : Job) → Alike j₁.header j₂.header → (side : ℕ) (e : Stretch) (w : FromCut j₁ side e) → Memᴰ w.hazard j₂.hazards
    → Memᴰ e (side_envelopes j₂ side)
alike_cut j₁ j₂ alike side e w m =
    let r : reached j₂.header w.hazard ≡ true = sym (alike_reached j₁.header j₂.header alike w.hazard) ∙ w.own.reach in
    let q : e ≡ cut_envelope j₂.header w.hazard = w.is ∙ alike_envelope j₁.header j₂.header alike w.hazard in
    subst (λ (x : Stretch). Memᴰ x (side_envelopes j₂ side)) (sym q) (to_cut j₂ side (record { member = m; on_side = w.own.on_side; reach = r }))

-- And all of them, where it has every hazard that gives the side an envelope.
pub more_envelopes :
    (j₁ j₂ : Job) → Alike j₁.header j₂.header → (side : ℕ) → ((z : Hazard) → SideHazard j₁ side z → Memᴰ z j₂.hazards)
    → (e : Stretch) → Memᴰ e (side_envelopes j₁ side) → Memᴰ e (side_envelopes j₂ side)
more_envelopes j₁ j₂ alike side more e m = let w = from_cut j₁ side e m in alike_cut j₁ j₂ alike side e w (more w.hazard w.own)

-- Headers that differ in the hazard count alone.
pub counted_alike : (h : Header) (a b : ℕ) → Alike (counted h a) (counted h b)
counted_alike h a b = refl

pub demand3_growth : Demand3Growth
unfolding job_level
demand3_growth s₁ s₂ j₁ j₂ side w₁ w₂ a₁ a₂ h p₁ p₂ alike more t = rw (shown₁, shown₂)
    (subst (λ (G : ℕ). required_level (side_envelopes j₁ side) G t ≤ required_level (side_envelopes j₂ side) j₂.header.continuity t)
    (sym (ap (λ (x : Header). x.continuity) alike)) grows)
  where
    shown₁ : schedule_level w₁ t ≡ job_level j₁ side t
    shown₁ = (demand2 s₁ j₁ side w₁ a₁ h p₁).level t

    shown₂ : schedule_level w₂ t ≡ job_level j₂ side t
    shown₂ = (demand2 s₂ j₂ side w₂ a₂ h p₂).level t

    grows : required_level (side_envelopes j₁ side) j₂.header.continuity t ≤ required_level (side_envelopes j₂ side) j₂.header.continuity t
    grows =
        required_more (side_envelopes j₁ side) (side_envelopes j₂ side) j₂.header.continuity t (more_envelopes j₁ j₂ alike side (λ z s. more z s.member))

pub millimetres_add : (f : ℕ → ℕ) (v p q r : ℕ) → p ≤ q → q ≤ r → millimetres f v p q + millimetres f v q r ≡ millimetres f v p r
unfolding millimetres
millimetres_add f v p q r a b =
    sym (ap (λ (n : ℕ). count_from g p n) (let e : r - p ≡ (q - p) + (r - q) = omega arith in e) ∙ count_add g p (q - p) (r - q)
    ∙ ap (λ (x : ℕ). count_from g p (q - p) + count_from g x (r - q)) (let e : p + (q - p) ≡ q = omega arith in e))
  where
    g : ℕ → Bool
    g t = eqb (f t) v

pub millimetres_none : (f : ℕ → ℕ) (v p : ℕ) → millimetres f v p p ≡ 0
unfolding millimetres count_from
millimetres_none f v p = rw (let e : p - p ≡ 0 = omega arith in e)

last_le : (p : ℕ) (qs : List ℕ) → RisingStations p qs → p ≤ last_of p qs
last_le p [] r = omega arith
last_le p (q ∷ qs) r = omega (arith, r.0, last_le q qs r.1)

quantity_of : (w : List ℕ) (rs : List Stretch) (f : ℕ → ℕ) (v p q : ℕ) → read_schedule w ≡ accepted rs → shown_level rs ≡ f → 1 ≤ v → v ≤ 6 → p ≤ q
    → quantity w v p q ≡ accepted (millimetres f v p q)
unfolding quantity
quantity_of w rs f v p q e g a b c = rw (le-leb 1 v a, le-leb v 6 b, le-leb p q c, e, g)

lots_total_lem : (w : List ℕ) (rs : List Stretch) (f : ℕ → ℕ) (v : ℕ) → read_schedule w ≡ accepted rs → shown_level rs ≡ f → 1 ≤ v → v ≤ 6
    → (p : ℕ) (qs : List ℕ) → RisingStations p qs → lots_total w v p qs ≡ accepted (millimetres f v p (last_of p qs))
unfolding lots_total
lots_total_lem w rs f v e g a b p [] r = ap accepted (sym (millimetres_none f v p))
lots_total_lem w rs f v e g a b p (q ∷ qs) r =
    rw (quantity_of w rs f v p q e g a b r.0, lots_total_lem w rs f v e g a b q qs r.1)
    (ap accepted (millimetres_add f v p q (last_of q qs) r.0 (last_le q qs r.1)))

pub demand3_quantities : Demand3Quantities
demand3_quantities s j side w a h pl v l u p qs r =
    let d = demand2 s j side w a h pl in
    let fits = accepted_fits s j a in
    lots_total_lem w (job_runs j side) (job_level j side) v d.reads (fun_ext (job_runs_lem j side fits).shows) l u p qs r

pub demand1 : Demand1
unfolding schedule_alone
demand1 s side out = record { planned = written (plan s side (length out)); refused = λ k v e. rw e; same_length = output_length s side out }
  where
    written : (a : Answer PlannedSide) (w : List ℕ) → (a >>= λ p. accepted p.schedule) ≡ accepted w
        → (take (length w) (output_after a out) ≡ w) × (drop (length w) (output_after a out) ≡ drop (length w) out)
    written (accepted p) w e = let same : p.schedule ≡ w = cc in rw same (take-append_seam w (drop (length w) out), drop-append_seam w (drop (length w) out))
    written (refused k v) w e = cc

pub demand2_lookup : Demand2Lookup
demand2_lookup s j side right left a h p t =
    let e = planned_only s j side (asked side right left) a h p in
    let l = lookup_written right left side t h (record { runs = rs; run_list = job_run_list j side fits; writes = e }) in
    record { answer = l.answer; replies = l.replies; shows = go l.answer l.finds }
  where
    fits : AcceptedFits j
    fits = accepted_fits s j a

    rs : List Stretch
    rs = job_runs j side

    go : (f : Found) → Finds (asked side right left) rs t f → ShowsLevel (asked side right left) rs t (job_level j side t) f
    go (found q) w =
        let l : w.run.level ≡ job_level j side t = sym w.level ∙ (job_runs_lem j side fits).shows t in
        (w, l, subst (λ (x : ℕ). 1 ≤ x) l (member→run (job_level j side) rs (job_runs_lem j side fits) w.run w.member).above)
    go nowhere n = sym ((job_runs_lem j side fits).shows t) ∙ none_shown rs t n

pub plan_accepted : PlanAccepted
unfolding plan fitted
plan_accepted s side room p e =
    let b1 = bound (unless_refuse (leb side 1) Row.Argument) _ p e in
    let b2 = bound (accept_job s) _ p b1.rest in
    let b3 = bound (unless_refuse (leb (length (write_schedule (job_runs b2.first side))) room) (Row.Room (length (write_schedule (job_runs b2.first side)))))
    _ p b2.rest in
    finish b2.first b2.taken (leb-true side 1 (tested (leb side 1) Row.Argument b1.first b1.taken)) b3.rest
  where
    finish : (j : Job) → Accepted s j → side ≤ 1
        → accepted (record { schedule = write_schedule (job_runs j side); overhangs = side_overhangs j side }) ≡ accepted p → PlannedJob s side p.schedule
    finish j a h q =
        let whole : record { schedule = write_schedule (job_runs j side); overhangs = side_overhangs j side } ≡ p = cc in
        let z : write_schedule (job_runs j side) ≡ p.schedule = ap (λ (x : PlannedSide). x.schedule) whole in
        record { job = j; job_is_accepted = a; side_ok = h; planned = subst (Planned s side) z (demand3_planned s j side a h) }
