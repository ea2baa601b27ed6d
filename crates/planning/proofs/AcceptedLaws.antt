-- The accepted jobs, exactly: the writings of the jobs that fit and whose hazards pass 5. Nothing else is accepted, and none of these is refused.
-- Assumes nothing.
use Prim.Native.Nat.{ℕ, ◌+◌}
use native.Mathlib.Omega.{arith}
use mathlib.Core.Path.{◌≡◌, refl, ap, ◌∙◌}
use mathlib.Core.Logic.{◌↔◌}
use mathlib.Core.Bool.{true, ◌&&◌, not}
use mathlib.Core.List.{List, [], ◌∷◌, ◌++◌, append-nil, Memᴰ}
use lib.ListN.{length}
use lib.Dec.{ltb}
use borrow.Author.Tests.{le-ltb}
use Rattle.base.specs.Answer.{accepted}
use Rattle.base.proofs.AnswerLaws.{bound}
use Rattle.job.specs.declared.Header.{Header}
use Rattle.job.specs.declared.Hazard.{Hazard}
use Rattle.job.specs.Job.{Job, read_job}
use Rattle.job.specs.Writing.{write_job}
use Rattle.job.proofs.WritingLaws.{job_written, job_is_written}
use Rattle.number.specs.Form.{Bytes}
use Rattle.planning.specs.Envelope.{reached, stands_near, test_hazard, test_hazards, accept_job}
use Rattle.planning.specs.Rows.{Passed, AcceptedFits}
use Rattle.planning.proofs.EnvelopeLaws.{accepted_fits}
use Rattle.base.proofs.TestLaws.{not_and_intro}

pub hazard_passes : (h : Header) (i : ℕ) (z : Hazard) → Passed h z → test_hazard h i z ≡ accepted tt
unfolding test_hazard stands_near
hazard_passes h i z p =
    let five : not (reached h z && ltb z.near (h.offset + h.deflection)) ≡ true = not_and_intro (reached h z) _ (λ r. le-ltb _ _ (p.clear r)) in
    rw five

-- The tests go on behind hazards that pass.
pub hazards_pass : (h : Header) (i : ℕ) (zs rest : List Hazard) → ((z : Hazard) → Memᴰ z zs → Passed h z)
    → test_hazards h i (zs ++ rest) ≡ test_hazards h (i + length zs) rest
unfolding test_hazards
hazards_pass h i [] rest p = ap (λ (k : ℕ). test_hazards h k rest) (omega arith)
hazards_pass h i (z ∷ zs) rest p =
    rw (hazard_passes h i z (p z (Memᴰ.head refl)))
    (hazards_pass h (i + 1) zs rest (λ y m. p y (Memᴰ.tail m)) ∙ ap (λ (k : ℕ). test_hazards h k rest) (omega arith))

-- A job that fits, its hazards passing 5, is accepted from its writing.
pub fitting_accepted : (j : Job) → AcceptedFits j → accept_job (write_job j) ≡ accepted j
unfolding accept_job test_hazards
fitting_accepted j f = rw (job_written j f.fits, ← append-nil j.hazards, hazards_pass j.header 0 j.hazards [] f.passed)

-- What was accepted was read, and is the writing of its job.
pub accepted_read : (s : List ℕ) (j : Job) → accept_job s ≡ accepted j → read_job s ≡ accepted j
unfolding accept_job
accepted_read s j e =
    let b1 = bound (read_job s) _ j e in
    let b2 = bound (test_hazards b1.first.header 0 b1.first.hazards) _ j b1.rest in
    let same : b1.first ≡ j = let z = b2.rest in cc in
    b1.taken ∙ ap accepted same

pub accepted_is_written : (s : List ℕ) (j : Job) → Bytes s → accept_job s ≡ accepted j → s ≡ write_job j
accepted_is_written s j b e = job_is_written s j b (accepted_read s j e)

-- "An accepted job is one to which none of 1 to 7 applies": it is the writing of a job that fits and whose hazards pass 5, and each such writing is accepted.
pub accepted_exactly : (s : List ℕ) (j : Job) → Bytes s → (accept_job s ≡ accepted j) ↔ ((s ≡ write_job j) × AcceptedFits j)
accepted_exactly s j b =
    ((λ e. (accepted_is_written s j b e, accepted_fits s j e)), (λ p. ap accept_job p.0 ∙ fitting_accepted j p.1))
