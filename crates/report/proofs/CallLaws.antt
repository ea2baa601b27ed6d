-- The report by what planning answers for the two sides, and the reply by the room.
-- Assumes nothing.
use Rattle.std.specs.Prelude.{Some, None, Result, Ok, Err, IfErr, IsErrAnd}
use Prim.Native.Nat.{ℕ, ◌+◌, ◌≤◌, ◌<◌}
use native.Mathlib.Omega.{arith}
use mathlib.Core.Path.{◌≡◌, refl, ap, ◌∙◌}
use mathlib.Core.Bool.{true}
use mathlib.Core.List.{List}
use lib.ListN.{length, take, drop}
use lib.Seq.{take-append_seam}
use borrow.Author.Tests.{le-leb, lt-leb}
use Rattle.base.specs.Answer.{Answer, accepted, refused}
use Rattle.refusal.specs.Refusal.{number_of, value_of, refusal}
use Rattle.refusal.specs.declared.Refusal.{Refusal}
use Rattle.number.specs.Number.{placed}
use Rattle.number.proofs.PlaceLaws.{placed_fits, placed_length}
use Rattle.job.specs.Job.{Job}
use Rattle.runs.specs.declared.Stretch.{Stretch}
use Rattle.runs.specs.RunList.{is_run_list}
use Rattle.planning.specs.Envelope.{accept_job}
use Rattle.planning.specs.Required.{job_runs}
use Rattle.planning.specs.Reply.{accepted_runs}
use Rattle.planning.proofs.EnvelopeLaws.{accepted_fits}
use Rattle.planning.proofs.JobRunLaws.{job_run_list}
use Rattle.report.specs.Text.{refused_line, runs_report, report_of, reported}
use Rattle.report.specs.Writing.{Written}
use Rattle.report.specs.Printing.{most_text, printing, text_after}
use Rattle.report.proofs.ReportLaws.{report_fits}

-- The runs that were answered are those of the report.
pub record ReportedRuns (s : List ℕ) (right left : List Stretch) : Type 0 where
  pub right_list : is_run_list right ≡ true
  pub left_list : is_run_list left ≡ true
  pub text : reported s ≡ runs_report right left

module _ (s : List ℕ) where
  pub runs_reported : (right left : List Stretch) → accepted right ≡ accepted_runs s 0 → accepted left ≡ accepted_runs s 1 → ReportedRuns s right left
  unfolding reported accepted_runs
  runs_reported right left e f = go (accept_job s) refl
    where
      go : (a : Answer Job) → accept_job s ≡ a → ReportedRuns s right left
      go (accepted j) p =
          let fits = accepted_fits s j p in
          let q : accepted right ≡ accepted (job_runs j 0) = e ∙ rw p in
          let r : accepted left ≡ accepted (job_runs j 1) = f ∙ rw p in
          let first : right ≡ job_runs j 0 = cc in
          let second : left ≡ job_runs j 1 = cc in
          record { right_list = rw first (job_run_list j 0 fits); left_list = rw second (job_run_list j 1 fits); text = ap report_of p ∙ rw (first, second) }
      go (refused k v) p =
          let q : accepted right ≡ refused k v = e ∙ rw p in
          cc

  -- What one side is refused for is what is reported.
  pub refusal_reported : (side : ℕ) (x : Refusal) → refusal x ≡ accepted_runs s side → reported s ≡ refused_line (number_of x) (value_of x)
  unfolding reported accepted_runs
  refusal_reported side x e = go (accept_job s) refl
    where
      go : (a : Answer Job) → accept_job s ≡ a → report_of (accept_job s) ≡ refused_line (number_of x) (value_of x)
      go (accepted j) p =
          let q : refusal x ≡ accepted (job_runs j side) = e ∙ rw p in
          cc
      go (refused k v) p =
          let q : refusal {A = List Stretch} x ≡ refused k v = e ∙ rw p in
          let number : number_of x ≡ k = cc in
          let value : value_of x ≡ v = cc in
          ap report_of p ∙ rw (number, value)

  -- The same of what a `?` passes on.
  pub refused_for : (side : ℕ) (x : Refusal) → refusal x ≡ accepted_runs s side → {A : Type 0} (r : Result A Refusal) → IsErrAnd r (λ y. y ≡ x)
      → IfErr r (λ y. reported s ≡ refused_line (number_of y) (value_of y))
  refused_for side x e (Ok a) h = absurd h
  refused_for side x e (Err y) h = rw h (refusal_reported side x e)

-- The reply and the memory, without room and with it.
module _ (s text : List ℕ) where
  pub text_short : length text < most_text → (None ≡ printing s text) × (text ≡ text_after s text)
  unfolding printing text_after
  text_short h = rw (lt-leb most_text (length text) h) (refl, refl)

  pub text_printed : {n : ℕ} {after : List ℕ} → most_text ≤ length text → Written text 0 (reported s) n after
      → (Some n ≡ printing s text) × (after ≡ text_after s text)
  unfolding printing text_after
  text_printed {n} h w = rw (le-leb most_text (length text) h) (ap Some (let e : n ≡ length (reported s) = omega (arith, w.index) in e), w.memory)

-- With room the report stands in the first bytes, and there is always a reply.
module _ (s text : List ℕ) (room : most_text ≤ length text) where
  pub printing_room : printing s text ≡ Some (length (reported s))
  unfolding printing
  printing_room = rw (le-leb most_text (length text) room)

  text_placed : text_after s text ≡ placed text 0 (reported s)
  unfolding text_after
  text_placed = rw (le-leb most_text (length text) room)

  pub text_length : length (text_after s text) ≡ length text
  text_length = ap length text_placed ∙ placed_length text 0 (reported s)

  pub text_first : take (length (reported s)) (text_after s text) ≡ reported s
  text_first =
      let fits : 0 + length (reported s) ≤ length text = omega (arith, report_fits s) in
      rw (text_placed, placed_fits text 0 (reported s) fits) (take-append_seam (reported s) (drop (0 + length (reported s)) text))
