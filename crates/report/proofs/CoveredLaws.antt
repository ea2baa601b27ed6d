-- The covered millimetres are those with a level above 0, counted one by one.
-- Assumes nothing.
use Prim.Native.Nat.{ℕ, ◌≤◌}
use native.Mathlib.Omega.{arith}
use mathlib.Core.Path.{◌≡◌, sym, ap, ◌∙◌}
use mathlib.Core.List.{List, [], ◌∷◌}
use borrow.Author.Tests.{lt-ltb, le-ltb}
use Rattle.job.specs.Job.{Job}
use Rattle.runs.specs.declared.Stretch.{Stretch}
use Rattle.runs.specs.RunList.{shown_level, last_station, last_end, Rising}
use Rattle.runs.specs.Count.{count_from}
use Rattle.runs.proofs.RunLaws.{shown_nothing}
use Rattle.runs.proofs.CountLaws.{count_same, count_none, count_run}
use Rattle.planning.specs.Required.{job_level, job_runs}
use Rattle.planning.specs.Rows.{AcceptedFits}
use Rattle.planning.proofs.JobRunLaws.{job_runs_lem}
use Rattle.report.specs.Text.{covered, above}

last_after : (e v : ℕ) (rs : List Stretch) → Rising e v rs → e ≤ last_end e rs
last_after e v [] h = omega arith
last_after e v (r ∷ rs) h = omega (arith, h.0.after, h.0.long, last_after r.end r.level rs h.1)

pub last_top : (e v : ℕ) (rs : List Stretch) → Rising e v rs → e ≤ last_station → last_end e rs ≤ last_station
last_top e v [] h l = l
last_top e v (r ∷ rs) h l = last_top r.end r.level rs h.1 h.0.ends

-- Rising runs: their lengths add up to the millimetres that show a level above 0, counted from 0 to the last end or further.
pub covered_counts : (e v : ℕ) (rs : List Stretch) → Rising e v rs → (n : ℕ) → last_end e rs ≤ n
    → count_from (λ (t : ℕ). above (shown_level rs t)) 0 n ≡ covered rs
unfolding covered
covered_counts e v [] h n l = count_none (λ (t : ℕ). above (shown_level [] t)) (λ t. ap above (shown_nothing t)) 0 n
covered_counts e v (r ∷ rs) h n l =
    count_run e v r rs h above (le-ltb 0 0 (omega arith)) 0 n
    ∙ rw (lt-ltb 0 r.level h.0.low) (omega (arith, covered_counts r.end r.level rs h.1 n l, last_after r.end r.level rs h.1))

-- Of an accepted job: the millimetres of a side whose required level is above 0.
pub covered_required : (j : Job) (side : ℕ) → AcceptedFits j → covered (job_runs j side) ≡ count_from (λ (t : ℕ). above (job_level j side t)) 0 last_station
covered_required j side fits =
    let runs = job_runs_lem j side fits in
    sym (covered_counts 0 0 (job_runs j side) runs.rising last_station (last_top 0 0 (job_runs j side) runs.rising (omega arith)))
    ∙ count_same (λ (t : ℕ). above (shown_level (job_runs j side) t)) (λ (t : ℕ). above (job_level j side t)) (λ t. ap above (runs.shows t)) 0 last_station
