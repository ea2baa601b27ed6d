-- Off the road, and the jobs none of whose envelopes leaves it.
-- Assumes nothing.
use Rattle.std.specs.Prelude.{if◌then◌else◌}
use Prim.Native.Nat.{ℕ, ◌+◌, ◌-◌, ◌≤◌, max, min}
use native.Mathlib.Omega.{arith}
use native.Mathlib.Decide.{dec_le}
use mathlib.Core.Path.{◌≡◌, refl}
use mathlib.Core.Bool.{Bool, true, false, ◌&&◌}
use mathlib.Core.List.{List, [], ◌∷◌, map, Memᴰ}
use lib.Dec.{eqb}
use Rattle.std.proofs.lemmas.Bool.{and_parts}
use Rattle.job.specs.declared.Header.{Header}
use Rattle.job.specs.declared.Hazard.{Hazard}
use Rattle.job.specs.Job.{Job}
use Rattle.runs.specs.declared.Stretch.{Stretch}
use Rattle.runs.specs.Level.{Has}
use Rattle.runs.specs.RunList.{IsRun}
use Rattle.runs.proofs.RunsOfLaws.{member→run}
use Rattle.runs.proofs.LevelLaws.{Joined, covered, bridged, level→joined}
use Rattle.planning.specs.Envelope.{forward, opposite, reached, lengthening, envelope, envelopes, cut_to_road, side_envelopes, overhang, no_overhang, greater}
use Rattle.planning.specs.Envelope.{overhangs, side_overhangs, OnRoad, StaysOnRoad}
use Rattle.planning.specs.Required.{job_level, job_runs}
use Rattle.planning.specs.Rows.{AcceptedFits}
use Rattle.planning.proofs.EnvelopeLaws.{side_lies}
use Rattle.planning.proofs.JobRunLaws.{job_runs_lem}

-- Off the road a job requires nothing.
pub level_off_road : (j : Job) (side : ℕ) → AcceptedFits j → (t : ℕ) → (OnRoad j.header t → ⊥) → job_level j side t ≡ 0
unfolding job_level
level_off_road j side fits t off = go (dec_le (job_level j side t) 0)
  where
    on_road : Joined (side_envelopes j side) 1 j.header.continuity t → OnRoad j.header t
    on_road (covered e m h k) = (omega (arith, (side_lies j side fits e m).begins, k.0), omega (arith, (side_lies j side fits e m).ends, k.1))
    on_road (bridged a b m n h k x y z) =
        let before = side_lies j side fits a m in
        let behind = side_lies j side fits b n in
        (omega (arith, before.begins, before.long), omega (arith, behind.ends, behind.long))

    go : Dec (job_level j side t ≤ 0) → job_level j side t ≡ 0
    go (yes l) = omega arith
    go (no l) = absurd (off (on_road (level→joined (side_envelopes j side) j.header.continuity t 1 (omega arith) (omega arith))))

-- So its runs lie on the road.
pub runs_on_road : (j : Job) (side : ℕ) → AcceptedFits j → (r : Stretch) → Memᴰ r (job_runs j side)
    → (j.header.begin ≤ r.start) × (r.end ≤ j.header.end)
runs_on_road j side fits r m =
    let first = on r.start (omega arith, run.long) (dec_le j.header.begin r.start) (dec_le j.header.end r.start) in
    let last =
    on (r.end - 1) (omega (arith, run.long), omega (arith, run.long)) (dec_le j.header.begin (r.end - 1)) (dec_le j.header.end (r.end - 1)) in
    (first.0, omega (arith, last.1))
  where
    run : IsRun (job_level j side) r
    run = member→run (job_level j side) (job_runs j side) (job_runs_lem j side fits) r m

    off : (t : ℕ) → Has r t → (OnRoad j.header t → ⊥) → ⊥
    off t h away = omega (arith, run.above, run.one_level t h, level_off_road j side fits t away)

    on : (t : ℕ) → Has r t → Dec (j.header.begin ≤ t) → Dec (j.header.end ≤ t) → OnRoad j.header t
    on t h (yes a) (no b) = (a, omega arith)
    on t h (yes a) (yes b) = absurd (off t h (λ w. omega (arith, w.1)))
    on t h (no a) c = absurd (off t h (λ w. a w.0))

-- Envelopes that stay on the road

-- The envelope of a reached hazard lies on the road.
abbrev Stays : Header → Hazard → Type 0
Stays h z = reached h z ≡ true → (h.begin + lengthening h z forward ≤ z.start) × (z.end + lengthening h z opposite ≤ h.end)

module _ (h : Header) (z : Hazard) (r : reached h z ≡ true) (stays : Stays h z) where
  uncut : cut_to_road h (envelope h z) ≡ envelope h z
  unfolding cut_to_road envelope
  uncut =
      let a : max h.begin (z.start - lengthening h z forward) ≡ z.start - lengthening h z forward = omega (arith, (stays r).0) in
      let b : min (z.end + lengthening h z opposite) h.end ≡ z.end + lengthening h z opposite = omega (arith, (stays r).1) in
      λ i. record { start = a i; end = b i; level = z.level }

  no_overhang_lem : overhang h z ≡ no_overhang
  unfolding overhang
  no_overhang_lem =
      let a : h.begin + lengthening h z forward - z.start ≡ 0 = omega (arith, (stays r).0) in
      let b : z.end + lengthening h z opposite - h.end ≡ 0 = omega (arith, (stays r).1) in
      λ i. record { before = a i; after = b i }

module _ (h : Header) (side : ℕ) where
  all_uncut : (zs : List Hazard) → ((z : Hazard) → Memᴰ z zs → Stays h z) → map (cut_to_road h) (envelopes h side zs) ≡ envelopes h side zs
  unfolding envelopes
  all_uncut [] s = refl
  all_uncut (z ∷ zs) s = go (eqb z.side side && reached h z) refl (all_uncut zs (λ x m. s x (Memᴰ.tail m)))
    where
      go : (b : Bool) → (eqb z.side side && reached h z) ≡ b → map (cut_to_road h) (envelopes h side zs) ≡ envelopes h side zs
          → map (cut_to_road h) (if b then envelope h z ∷ envelopes h side zs else envelopes h side zs)
          ≡ (if b then envelope h z ∷ envelopes h side zs else envelopes h side zs)
      go true on r =
          let own = uncut h z ((and_parts (eqb z.side side) _ on).1) (s z (Memᴰ.head refl)) in
          λ i. own i ∷ r i
      go false off r = r

  none_overhangs : (zs : List Hazard) → ((z : Hazard) → Memᴰ z zs → Stays h z) → overhangs h side zs ≡ no_overhang
  unfolding overhangs greater
  none_overhangs [] s = refl
  none_overhangs (z ∷ zs) s = go (eqb z.side side && reached h z) refl (none_overhangs zs (λ x m. s x (Memᴰ.tail m)))
    where
      go : (b : Bool) → (eqb z.side side && reached h z) ≡ b → overhangs h side zs ≡ no_overhang
          → (if b then greater (overhang h z) (overhangs h side zs) else overhangs h side zs) ≡ no_overhang
      go true on r = rw (no_overhang_lem h z ((and_parts (eqb z.side side) _ on).1) (s z (Memᴰ.head refl)), r)
      go false off r = r

-- The cut envelopes of a job none of whose envelopes leaves the road are the uncut ones, and both overhangs are 0.
pub stays_uncut : (j : Job) (side : ℕ) → StaysOnRoad j → side_envelopes j side ≡ envelopes j.header side j.hazards
stays_uncut j side s = all_uncut j.header side j.hazards s

pub stays_no_overhang : (j : Job) (side : ℕ) → StaysOnRoad j → side_overhangs j side ≡ no_overhang
stays_no_overhang j side s = none_overhangs j.header side j.hazards s
