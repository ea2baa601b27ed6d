-- What follows the header: hazards one by one, and nothing more.
-- Assumes nothing.
use Rattle.std.specs.Prelude.{Result}
use Prim.Native.Nat.{ℕ, suc, ◌≤◌, ◌<◌}
use mathlib.Core.Path.{◌≡◌, refl, sym, ◌∙◌}
use mathlib.Core.List.{List, [], ◌∷◌, ◌++◌}
use lib.ListN.{length}
use borrow.Author.Tests.{le-leb, lt-leb}
use Rattle.base.specs.Answer.{Answer, accepted, refused, ◌>>=◌}
use Rattle.base.proofs.AnswerLaws.{bind_assoc}
use Rattle.refusal.specs.Refusal.{refusal, answer_of}
use Rattle.refusal.specs.declared.Refusal.{Refusal}
use Rattle.job.specs.declared.Header.{Header}
use Rattle.job.specs.declared.Hazard.{Hazard}
use Rattle.job.specs.Job.{Job, hazard_of, next_in_hazard, read_fields, read_header, read_hazards, read_rest, read_job, outside_hazard}
use Rattle.job.specs.declared.hazard_fields.HazardReading.{HazardReading}
use Rattle.job.specs.Hazards.{after_hazard}
use Rattle.job.specs.Reply.{header_reading, header_at, hazard_reading, read_hazard_at}

-- The job is the header and what follows it.
pub job_step : (s : List ℕ) → read_job s ≡ header_at s >>= λ x. read_rest x.header x.header.count [] s x.next
unfolding read_job header_at
job_step s = sym (bind_assoc (read_header s) (λ f. accepted (header_reading f)) (λ x. read_rest x.header x.header.count [] s x.next))

-- Of the hazards still to be read the first, and then the others.
pub hazards_step : (h : Header) (k : ℕ) (got : List Hazard) (s : List ℕ) (at : ℕ)
    → read_rest h (suc k) got s at ≡ read_hazard_at h (length got) s at >>= λ z. read_rest h k (got ++ z.hazard ∷ []) s z.next
unfolding read_rest read_hazards read_hazard_at
hazards_step h k got s at =
    let m = read_fields (next_in_hazard h) (outside_hazard (length got)) 6 [] s at in
    bind_assoc m (λ f. read_hazards h k (got ++ hazard_of f.numbers ∷ []) s f.next) _ ∙ sym
    (bind_assoc m (λ f. accepted (hazard_reading f)) (λ z. read_rest h k (got ++ z.hazard ∷ []) s z.next))

-- All hazards were read.
pub rest_over : (h : Header) (got : List Hazard) (s : List ℕ) (at : ℕ) → at < length s → read_rest h 0 got s at ≡ refused 7 at
unfolding read_rest read_hazards
rest_over h got s at l = rw (lt-leb (length s) at l)

pub rest_done : (h : Header) (got : List Hazard) (s : List ℕ) (at : ℕ) → length s ≤ at
    → read_rest h 0 got s at ≡ accepted (record { header = h; hazards = got })
unfolding read_rest read_hazards
rest_done h got s at l = rw (le-leb (length s) at l)

-- By what reading the next hazard answers.
module _ (h : Header) (k : ℕ) (got : List Hazard) (s : List ℕ) (at index : ℕ) (number : length got ≡ index) where
  pub step_read : (x : HazardReading) → read_hazard_at h index s at ≡ accepted x → read_rest h (suc k) got s at ≡ read_rest h k (got ++ x.hazard ∷ []) s x.next
  step_read x e = hazards_step h k got s at ∙ rw (number, e) refl

  pub step_refused : (q : Refusal) → read_hazard_at h index s at ≡ refusal q → (r : Result Hazard Refusal) (left : List Hazard → Answer Job)
      → answer_of r ≡ refusal q → read_rest h (suc k) got s at ≡ after_hazard got r left
  step_refused q e r left p = hazards_step h k got s at ∙ rw (number, e, p) refl
