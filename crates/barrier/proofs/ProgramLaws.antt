-- What the program prints goes by approach's promise: upstream of each hazard, every millimetre that is nearer to it than the approach
-- length lies in a run that is printed.
-- Assumes nothing.
use Prim.Native.Nat.{ℕ, zero, suc, ◌≤◌, ◌<◌}
use native.Mathlib.Omega.{arith}
use mathlib.Core.Path.{◌≡◌, ap, ◌∙◌}
use mathlib.Core.Bool.{true}
use mathlib.Core.List.{List, ◌∷◌, ◌++◌, append_assoc, Memᴰ, []}
use Rattle.base.specs.Answer.{accepted}
use Rattle.job.specs.declared.Hazard.{Hazard}
use Rattle.job.specs.Job.{Job}
use Rattle.job.proofs.RangeLaws.{header_bounds, hazard_bounds}
use Rattle.runs.specs.declared.Stretch.{Stretch}
use Rattle.runs.proofs.RunLaws.{ShownRun, shown_run}
use Rattle.approach.specs.Panel.{raised_length}
use Rattle.approach.proofs.ApproachLaws.{divisor_some}
use Rattle.approach.proofs.PanelLaws.{raised_length_below}
use Rattle.planning.specs.Envelope.{Traffic, runout, reaches, reach_of, offset_of, OnRoad, Upstream, BelowApproach, accept_job}
use Rattle.planning.specs.Required.{job_runs}
use Rattle.planning.proofs.EnvelopeLaws.{accepted_fits, domain_of}
use Rattle.planning.proofs.FormulaLaws.{formula_level}
use Rattle.planning.proofs.JobRunLaws.{job_runs_lem}
use Rattle.report.specs.Text.{right_word, left_word, run_line, run_lines, total_line, covered, runs_report, reported, side_word, PrintedRun}
use Rattle.report.proofs.LineLaws.{lines_append}

-- The lines of runs among which one stands.
lines_split : (word : List ℕ) (rs before : List Stretch) (r : Stretch) (after : List Stretch) → rs ≡ before ++ r ∷ after
    → run_lines word rs ≡ run_lines word before ++ (run_line word r.start r.end r.level ++ run_lines word after)
unfolding run_lines
lines_split word rs before r after e = ap (run_lines word) e ∙ lines_append word before (r ∷ after)

module _ (s : List ℕ) (j : Job) (a : accept_job s ≡ accepted j) (v t : ℕ) where
  -- A run that runs show at t is printed, where their lines stand in the text.
  line_printed : (word : List ℕ) (rs : List Stretch) (w : ShownRun rs t) → v ≤ w.run.level → (p q : List ℕ) → reported s ≡ p ++ (run_lines word rs ++ q)
      → PrintedRun s word v t
  line_printed word rs w h p q text = record {
    run = w.run;
    has = w.has;
    level = h;
    before = p ++ run_lines word w.before;
    after = run_lines word w.after ++ q;
    text = text ∙ rw (lines_split word rs w.before w.run w.after w.split) (simp append_assoc);
  }

  printed : (side : ℕ) → side ≤ 1 → (w : ShownRun (job_runs j side) t) → v ≤ w.run.level → PrintedRun s (side_word side) v t
  unfolding runs_report reported
  printed zero l w h = line_printed right_word (job_runs j 0) w h []
      (run_lines left_word (job_runs j 1) ++ total_line (covered (job_runs j 0)) (covered (job_runs j 1)))
      (rw a (append_assoc (run_lines right_word (job_runs j 0)) _ _))
  printed (suc zero) l w h = line_printed left_word (job_runs j 1) w h (run_lines right_word (job_runs j 0))
      (total_line (covered (job_runs j 0)) (covered (job_runs j 1))) (rw a (append_assoc (run_lines right_word (job_runs j 0)) _ _))
  printed (suc (suc n)) l w h = absurd (omega arith)

-- For every accepted job: upstream of a hazard, a millimetre of the road whose end towards it is nearer than the approach length in whole panels lies in a
-- printed run
-- of the hazard's level or a higher one.
pub printed_formula : (s : List ℕ) (j : Job) → accept_job s ≡ accepted j → (z : Hazard) → Memᴰ z j.hazards → (traffic : Traffic)
    → reaches j.header z traffic ≡ true
    → (d t : ℕ) → Upstream traffic z d t → BelowApproach j.header z traffic d → OnRoad j.header t → PrintedRun s (side_word z.side) z.level t
printed_formula s j a z m traffic r d t u l road =
    let fits = accepted_fits s j a in
    let own = hazard_bounds j.header z (fits.fits.hazards.each z m) in
    let shows = (job_runs_lem j z.side fits).shows t in
    let level = formula_level j fits z m traffic r d t u l road in
    let w = shown_run (job_runs j z.side) t (omega (arith, own.level_low)) in
    printed s j a z.level t z.side own.side w (omega (arith, w.level))

-- The same by the length in whole panels that crate approach promises.
pub printed_length : (s : List ℕ) (j : Job) → accept_job s ≡ accepted j → (z : Hazard) → Memᴰ z j.hazards → (traffic : Traffic)
    → reaches j.header z traffic ≡ true
    → (d t : ℕ) → Upstream traffic z d t
    → let h = j.header in d < raised_length h.panel h.along h.across h.straight (runout h traffic) (reach_of h z traffic) (offset_of h z traffic)
    → OnRoad h t → PrintedRun s (side_word z.side) z.level t
printed_length s j a z m traffic r d t u l road =
    let fits = accepted_fits s j a in
    let some = divisor_some _ _ _ _ _ _ (domain_of j fits z m traffic r) in
    printed_formula s j a z m traffic r d t u ((raised_length_below _ _ _ _ _ _ _ (header_bounds j.header fits.fits.header).panel_low some d).0 l) road
