-- What opening reads, by how the header and the job are read.
-- Assumes nothing.
use Prim.Native.Nat.{ℕ, ◌≤◌, ◌<◌}
use native.Mathlib.Omega.{arith}
use mathlib.Core.Path.{◌≡◌, sym, ap, ◌∙◌}
use mathlib.Core.List.{List, []}
use lib.ListN.{length}
use lib.Dec.{leb}
use borrow.Author.Tests.{eq-eqb, ne_eqb, le-leb, lt-leb}
use Rattle.base.specs.Answer.{Answer, accepted, refused, ◌>>=◌}
use Rattle.refusal.specs.Refusal.{unless_refuse, refusal}
use Rattle.refusal.specs.declared.Refusal.TheVariants as Row
use Rattle.refusal.specs.declared.Refusal.{Refusal}
use Rattle.base.proofs.AnswerLaws.{bound}
use Rattle.job.specs.declared.Header.{Header}
use Rattle.job.specs.declared.Hazard.{Hazard}
use Rattle.job.specs.Job.{Job, header_size, read_hazards, read_rest, read_job}
use Rattle.job.specs.declared.header_fields.HeaderReading.{HeaderReading}
use Rattle.job.specs.Reply.{header_at, job_header, read_opening}
use Rattle.job.proofs.RestLaws.{job_step}

-- The header of a job that could be read is the one at its beginning.
rest_header : (h : Header) (k : ℕ) (got : List Hazard) (s : List ℕ) (at : ℕ) (j : Job) → read_rest h k got s at ≡ accepted j → j.header ≡ h
unfolding read_rest
rest_header h k got s at j e =
    let b1 = bound (read_hazards h k got s at) _ j e in
    let b2 = bound (unless_refuse (leb (length s) b1.first.next) (Row.LeftOver b1.first.next)) _ j b1.rest in
    let same : record { header = h; hazards = b1.first.list } ≡ j = let z = b2.rest in cc in
    sym (ap (λ (i : Job). i.header) same)

module _ (s : List ℕ) where
  pub job_header_lem : {x : HeaderReading} {j : Job} → header_at s ≡ accepted x → read_job s ≡ accepted j → j.header ≡ x.header
  job_header_lem {x} {j} read e =
      let rest : read_rest x.header x.header.count [] s x.next ≡ accepted j =
      sym (ap (λ (a : Answer HeaderReading). a >>= λ y. read_rest y.header y.header.count [] s y.next) read) ∙ sym (job_step s) ∙ e in
      rest_header x.header x.header.count [] s x.next j rest

  pub opening_unread : (x : Refusal) → header_at s ≡ refusal x → read_opening s ≡ refusal x
  unfolding read_opening
  opening_unread x e = rw e

  pub opening_counted : {x : HeaderReading} → header_at s ≡ accepted x → 0 < x.header.count → read_opening s ≡ refused 3 (header_size x.header.kind)
  unfolding read_opening
  opening_counted {x} e l = rw (e, ne_eqb x.header.count 0 (λ q. omega arith))

  module _ {x : HeaderReading} (read : header_at s ≡ accepted x) (none : x.header.count ≡ 0) where
    opening_empty : read_opening s ≡ (read_rest x.header 0 [] s x.next >>= λ j. accepted j.header)
    unfolding read_opening job_header
    opening_empty = rw (read, eq-eqb x.header.count 0 none, job_step s, read, none)

    pub opening_over : x.next < length s → read_opening s ≡ refused 7 x.next
    unfolding read_rest read_hazards
    opening_over l = opening_empty ∙ rw (lt-leb (length s) x.next l)

    pub opening_done : length s ≤ x.next → read_opening s ≡ accepted x.header
    unfolding read_rest read_hazards
    opening_done l = opening_empty ∙ rw (le-leb (length s) x.next l)
