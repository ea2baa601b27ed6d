-- Request 5: the level at a station is the one that lookup shows in the planned schedule, and is refused exactly as plan is without 9.
-- Assumes nothing.
use Prim.Native.Nat.{ℕ, ◌+◌, ◌-◌, ◌≤◌}
use native.Mathlib.Omega.{arith}
use native.Mathlib.Decide.{dec_le}
use mathlib.Core.Path.{◌≡◌, refl, sym, ap, ap₂, ◌∙◌}
use mathlib.Core.Logic.{◌≢◌, ◌↔◌}
use mathlib.Core.List.{List, [], ◌++◌, append-nil}
use lib.ListN.{length, drop}
use Rattle.base.specs.Answer.{accepted, refused}
use Rattle.base.proofs.ListLaws.{drop_after}
use Rattle.number.specs.Number.{write_number}
use Rattle.number.proofs.ReadLaws.{read_number_lem}
use Rattle.job.specs.Job.{Job}
use Rattle.runs.specs.declared.Stretch.{Stretch}
use Rattle.runs.specs.RunList.{last_end, MayFollow}
use Rattle.runs.proofs.RunLaws.{run_list_rising}
use Rattle.runs.proofs.StoredLaws.{last_level, next_after}
use Rattle.planning.specs.Envelope.{accept_job}
use Rattle.planning.specs.Required.{job_level, job_runs}
use Rattle.planning.proofs.RoadLaws.{level_off_road}
use Rattle.planning.proofs.EnvelopeLaws.{accepted_fits}
use Rattle.planning.proofs.JobRunLaws.{job_run_list}
use Rattle.schedule.specs.Schedule.{write_record}
use Rattle.schedule.specs.Plan.{plan}
use Rattle.schedule.proofs.PlanLaws.{plan_bad_side}
use Rattle.station_level.specs.Level.{level_at}
use Rattle.station_level.proofs.LevelLaws.{level_bad_side, level_by_job}
use Rattle.queries.specs.Lookup.{Found, found, nowhere, asked}
use Rattle.demands.specs.Demands.{ShowsLevel}
use Rattle.demands.specs.Level.{record_level, level_found, lookup_level, LevelLookup, LevelRefusals, LevelOffRoad}
use Rattle.demands.proofs.DemandLaws.{demand2_lookup}
use Rattle.demands.proofs.RefusalLaws.{answer_refuses}

-- The level in a run's record is the run's.
record_level_lem : (e v : ℕ) (r : Stretch) → MayFollow e v r → record_level (write_record e r) ≡ accepted r.level
unfolding record_level write_record
record_level_lem e v r n =
    rw (read_number_lem w 0 gap (write_number len ++ write_number r.level) (omega (arith, n.long, n.ends)) refl)
    (rw (read_number_lem w at2 len (write_number r.level) (omega (arith, n.ends)) q2)
    (rw (read_number_lem w at3 r.level [] (omega (arith, n.top)) (q3 ∙ sym (append-nil (write_number r.level))))))
  where
    gap : ℕ
    gap = r.start - e

    len : ℕ
    len = r.end - r.start

    w : List ℕ
    w = write_number gap ++ (write_number len ++ write_number r.level)

    at2 : ℕ
    at2 = 0 + length (write_number gap)

    q2 : drop at2 w ≡ write_number len ++ write_number r.level
    q2 = drop_after w 0 (write_number gap) (write_number len ++ write_number r.level) refl

    at3 : ℕ
    at3 = at2 + length (write_number len)

    q3 : drop at3 w ≡ write_number r.level
    q3 = drop_after w at2 (write_number len) (write_number r.level) q2

module _ (s : List ℕ) (side t : ℕ) (h : side ≤ 1) where
  job_refused : (k v : ℕ) → accept_job s ≡ refused k v → level_at s side t ≡ refused k v
  job_refused k v e = level_by_job s side t h ∙ rw e

  job_required : (j : Job) → accept_job s ≡ accepted j → level_at s side t ≡ accepted (job_level j side t)
  job_required j e = level_by_job s side t h ∙ rw e

pub level_lookup : LevelLookup
unfolding lookup_level
level_lookup s j side right left a h p t =
    let looked = demand2_lookup s j side right left a h p t in
    record { replies = job_required s side t h j a; shown = rw looked.replies (go looked.answer looked.shows) }
  where
    w : List ℕ
    w = asked side right left

    rs : List Stretch
    rs = job_runs j side

    go : (f : Found) → ShowsLevel w rs t (job_level j side t) f → level_found w f ≡ accepted (job_level j side t)
    go (found q) shows =
        let f = shows.0 in
        let next = next_after 0 0 f.before f.run f.after (rw f.split at (run_list_rising rs (job_run_list j side (accepted_fits s j a)))) in
        rw f.bytes (record_level_lem (last_end 0 f.before) (last_level 0 f.before) f.run next ∙ ap accepted shows.1)
    go nowhere none = ap accepted (sym none)

pub level_refusals : LevelRefusals
level_refusals s side t room k v = go (dec_le side 1)
  where
    go : Dec (side ≤ 1) → (level_at s side t ≡ refused k v) ↔ ((plan s side room ≡ refused k v) × (k ≢ 9))
    go (yes h) = rw (level_by_job s side t h) (answer_refuses s side room (λ j. job_level j side t) h k v)
    go (no h) =
        let level = level_bad_side s side t (omega arith) in
        let planned = plan_bad_side s side room (omega arith) in (
          λ e. (let number : 8 ≡ k = cc in let value : 0 ≡ v = cc in planned ∙ ap₂ refused number value, λ q. let number : 8 ≡ k = cc in omega arith),
          λ w. let e = w.0 in let number : 8 ≡ k = cc in let value : 0 ≡ v = cc in level ∙ ap₂ refused number value,
        )

pub level_off : LevelOffRoad
level_off s j side t a h off = job_required s side t h j a ∙ ap accepted (level_off_road j side (accepted_fits s j a) t off)
