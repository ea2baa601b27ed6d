-- Memory that is laid out: it is an open job, what stands in it, and what the calls answer on it.
-- Assumes nothing.
use Prim.Native.Nat.{ℕ, zero, suc, ◌-◌, ◌≤◌}
use native.Mathlib.Omega.{arith}
use mathlib.Core.Path.{◌≡◌, refl, sym, ap, ap₂, ◌∙◌}
use mathlib.Core.Logic.{◌↔◌}
use mathlib.Core.Bool.{true}
use mathlib.Core.List.{List, [], ◌∷◌, ◌++◌, map}
use lib.ListN.{length, drop, replicate, length-map, length-take, take-append-drop}
use lib.Seq.{take-append_seam, drop-append_seam, length-take-le}
use Rattle.base.specs.Choice.{all_of}
use Rattle.base.specs.Answer.{accepted, ◌>>=◌}
use Rattle.refusal.specs.Refusal.{unless_refuse}
use Rattle.refusal.specs.declared.Refusal.TheVariants as Row
use Rattle.job.specs.declared.Header.{Header}
use Rattle.job.specs.declared.Hazard.{Hazard}
use Rattle.job.specs.declared.NamedHazard.{NamedHazard}
use Rattle.job.specs.declared.StoredJob.{StoredJob}
use Rattle.job.specs.Job.{named, unnamed, job_of, counted, made_from}
use Rattle.job.specs.Writing.{write_job}
use Rattle.job.specs.Reply.{unused}
use Rattle.job.specs.Fits.{HeaderFits}
use Rattle.job.proofs.RangeLaws.{header_bounds}
use Rattle.schedule.specs.Plan.{plan}
use Rattle.open_memory.specs.Memory.{most_standing, standing, laid_out, stands, inserted, without, admissible, is_unused, is_open_job}
use Rattle.open_job.specs.Calls.{test_add, add_to, withdraw_from}
use Rattle.open_memory.proofs.RangeLaws.{counted_fits}
use Rattle.open_memory.proofs.RuleLaws.{Stand, admit_counted, stand_names, stand_admissible, open_header, open_standing, open_clear, open_count}

admissible_counted : (h : Header) (n : ℕ) (ps : List NamedHazard) → all_of (admissible (counted h n)) ps ≡ all_of (admissible h) ps
unfolding all_of
admissible_counted h n [] = refl
admissible_counted h n (p ∷ ps) = rw (admit_counted h p.name (unnamed p) n, admissible_counted h n ps)

pub unused_all : (n : ℕ) → all_of is_unused (replicate n unused) ≡ true
unfolding all_of is_unused
unused_all zero = refl
unused_all (suc n) = unused_all n

module _ (h : Header) (ps : List NamedHazard) where
  pub laid_standing : standing (laid_out h ps) ≡ ps
  laid_standing = take-append_seam ps (replicate (most_standing - length ps) unused)

  -- The calls on it.
  pub add_laid : (name : ℕ) (z : Hazard) → add_to (laid_out h ps) name z ≡ (test_add h ps name z >>= λ _. accepted (laid_out h (inserted (named name z) ps)))
  unfolding add_to
  add_laid name z = rw (laid_standing, admit_counted h name z (length ps))

  pub withdraw_laid : (name : ℕ)
      → withdraw_from (laid_out h ps) name ≡ (unless_refuse (stands name ps) (Row.Name name) >>= λ _. accepted (laid_out h (without name ps)))
  unfolding withdraw_from
  withdraw_laid name = rw laid_standing

  pub schedule_laid : (side room : ℕ) → plan (write_job (job_of (laid_out h ps))) side room ≡ plan (write_job (made_from h (map unnamed ps))) side room
  schedule_laid side room =
      rw laid_standing
      (ap (λ (n : ℕ). plan (write_job (record { header = counted h n; hazards = map unnamed ps })) side room) (sym (length-map ps unnamed)))

  pub laid_open : HeaderFits h → Stand h 0 ps → length ps ≤ most_standing → is_open_job (laid_out h ps) ≡ true
  unfolding is_open_job
  laid_open fits rules few =
      let n = length ps in
      let header = counted_fits h n fits few in
      let rest : all_of is_unused (drop n (ps ++ replicate (most_standing - n) unused)) ≡ true =
      rw (drop-append_seam ps (replicate (most_standing - n) unused)) (unused_all (most_standing - n)) in
      rw (laid_standing, header, stand_names h 0 ps rules, admissible_counted h n ps, stand_admissible h 0 ps rules) rest

-- What the test of the memory means: exactly the memory that is laid out by the rules passes it.
pub record KeepsRules (m : StoredJob) : Type 0 where
  pub header : HeaderFits m.header
  pub hazards : Stand m.header 0 (standing m)
  pub layout : m ≡ laid_out m.header (standing m)

pub open_exactly : (m : StoredJob) → length m.hazards ≡ 256 → (is_open_job m ≡ true) ↔ KeepsRules m
open_exactly m size = (
  means,
  λ k. ap is_open_job k.layout ∙ laid_open m.header (standing m) k.header k.hazards
      (omega (arith, (header_bounds m.header k.header).count, length-take m.header.count m.hazards)),
)
  where
    means : is_open_job m ≡ true → KeepsRules m
    means e =
        let count = m.header.count in
        let number : length (standing m) ≡ count = length-take-le count m.hazards (omega (arith, open_count m e)) in
        let all : m.hazards ≡ standing m ++ replicate (most_standing - count) unused =
        sym (take-append-drop count m.hazards) ∙ ap (λ (l : List NamedHazard). standing m ++ l) (open_clear m e size).behind in
        record {
          header = open_header m e;
          hazards = open_standing m e;
          layout = ap₂ (λ (n : ℕ) (ps : List NamedHazard). record { header = counted m.header n; hazards = ps }) (sym number)
              (all ∙ ap (λ (n : ℕ). standing m ++ replicate (most_standing - n) unused) (sym number));
        }
