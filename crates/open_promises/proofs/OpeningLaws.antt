-- What opening answers to any bytes: as plan without 9 where they carry no hazard, else 3.
-- Assumes nothing.
use Prim.Native.Nat.{ℕ}
use native.Mathlib.Omega.{arith}
use mathlib.Core.Path.{◌≡◌, refl, sym, ap, ◌∙◌}
use mathlib.Core.List.{List, [], ◌∷◌}
use lib.ListN.{length}
use borrow.Author.Tests.{eq-eqb, ne_eqb}
use Rattle.base.specs.Answer.{Answer, accepted, refused, ◌>>=◌}
use Rattle.base.proofs.AnswerLaws.{bound, bind_assoc}
use Rattle.job.specs.declared.Header.{Header}
use Rattle.job.specs.declared.Hazard.{Hazard}
use Rattle.job.specs.Job.{Job, Fields, header_size, read_header, header_of, read_job}
use Rattle.job.specs.Reply.{header_reading, header_at}
use Rattle.job.proofs.OpeningLaws.{job_header_lem}
use Rattle.planning.specs.Envelope.{accept_job}
use Rattle.planning.proofs.EnvelopeLaws.{accepted_fits}
use Rattle.planning.proofs.AcceptedLaws.{accepted_read}
use Rattle.demands.proofs.RefusalLaws.{answer_refuses}
use Rattle.open_job.specs.Calls.{open_job, open_states}
use Rattle.open_job.specs.declared.OpenStates.{OpenStates}
use Rattle.open_promises.specs.Opening.{CarriesNoHazard, OpeningRefusals, OpeningWithHazards, empty_states, opened_from, OpeningAccepted}

-- Without hazards, opening answers for each accepted job.
abbrev for_each_job : (s : List ℕ) → Answer OpenStates
for_each_job s = accept_job s >>= λ j. accepted (empty_states j.header)

module _ (s : List ℕ) where
  unread : (k v : ℕ) → read_header s ≡ refused k v → open_states s ≡ for_each_job s
  unfolding open_states open_job accept_job read_job
  unread k v e = rw e

  counted_none : (f : Fields) → read_header s ≡ accepted f → (header_of f.numbers).count ≡ 0 → open_states s ≡ for_each_job s
  unfolding open_states open_job
  counted_none f e none = rw (e, eq-eqb (header_of f.numbers).count 0 none) (bind_assoc (accept_job s) _ _)

  no_hazard : CarriesNoHazard s → open_states s ≡ for_each_job s
  no_hazard none = go (read_header s) refl
    where
      go : (a : Answer Fields) → read_header s ≡ a → open_states s ≡ for_each_job s
      go (refused k v) e = unread k v e
      go (accepted f) e = counted_none f e (none f e)

pub opening_refusals : OpeningRefusals
opening_refusals s side room k v h none = rw (no_hazard s none) (answer_refuses s side room (λ j. empty_states j.header) h k v)

pub opening_with_hazards : OpeningWithHazards
unfolding open_states open_job
opening_with_hazards s f e some = rw (e, ne_eqb (header_of f.numbers).count 0 (λ q. omega arith))

-- The header of an accepted job is the one that is read first.
module _ (s : List ℕ) (j : Job) (e : accept_job s ≡ accepted j) where
  header_read : (f : Fields) × (read_header s ≡ accepted f)
  unfolding read_job
  header_read = let b = bound (read_header s) _ j (accepted_read s j e) in (b.first, b.taken)

  header_is : (f : Fields) → read_header s ≡ accepted f → header_of f.numbers ≡ j.header
  unfolding header_at
  header_is f read =
      let at : header_at s ≡ accepted (header_reading f) = rw read in
      sym (job_header_lem s at (accepted_read s j e))

  count_is : (f : Fields) → read_header s ≡ accepted f → (header_of f.numbers).count ≡ length j.hazards
  count_is f read = ap (λ (h : Header). h.count) (header_is f read) ∙ sym (accepted_fits s j e).fits.hazards.count

pub opening_accepted : OpeningAccepted
opening_accepted s j e = go j.hazards refl
  where
    go : (zs : List Hazard) → j.hazards ≡ zs → open_states s ≡ opened_from j.header zs
    go [] none = no_hazard s (λ f read. count_is s j e f read ∙ ap length none) ∙ rw e
    go (z ∷ zs) some =
        let (f, read) = header_read s j e in
        opening_with_hazards s f read (omega (arith, count_is s j e f read ∙ ap length some))
        ∙ ap (λ (h : Header). refused 3 (header_size h.kind)) (header_is s j e f read)
