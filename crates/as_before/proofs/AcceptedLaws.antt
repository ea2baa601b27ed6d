-- A job that was accepted before document 02's request 11 is accepted.
-- Assumes nothing.
use Prim.Native.Nat.{ℕ, zero, suc, ◌≤◌}
use native.Mathlib.Omega.{arith}
use mathlib.Core.Path.{◌≡◌, refl, sym, ap, ◌∙◌}
use mathlib.Core.Bool.{true}
use mathlib.Core.List.Memᴰ
use mathlib.Core.List.{List, [], ◌∷◌, ◌++◌}
use lib.ListN.{length, get_or}
use borrow.Author.Tests.{le-leb}
use Rattle.base.specs.Answer.{accepted}
use Rattle.std.proofs.lemmas.Bool.{and_from}
use Rattle.base.proofs.ListLaws.{cons_each}
use Rattle.job.specs.declared.Header.{Header}
use Rattle.job.specs.declared.Hazard.{Hazard}
use Rattle.job.specs.declared.Bounds.{Bounds}
use Rattle.job.specs.Job.{Job, ◌to◌, shared_ranges, header_ranges, hazard_ranges, next_in_header}
use Rattle.job.specs.Writing.{header_numbers, hazards_numbers, numbers_of, printed_job}
use Rattle.job.specs.Fits.{in_ranges, header_in_range, hazard_in_range, HeaderFits, HazardFits}
use Rattle.job.proofs.RangeLaws.{within_low, within_high, ranges_cons, ranges_high}
use Rattle.planning.specs.Envelope.{accept_job}
use Rattle.planning.specs.Rows.{Passed, AcceptedFits}
use Rattle.planning.proofs.AcceptedLaws.{fitting_accepted}
use Rattle.as_before.specs.AcceptedBefore.{written_before, rows_before, next_before, HeaderBefore, JobBefore, paper_job, limit_job}
use Rattle.as_before.proofs.FiveByteLaws.{job_five}

-- A range that has whatever another has.
abbrev Contains : Bounds → Bounds → Type 0
Contains r q = (q.low ≤ r.low) × (r.high ≤ q.high)

-- Only A and B have wider ranges.
row_contains : (kind A k : ℕ) → Contains (get_or (rows_before kind A) k (0 to 0)) (get_or (header_ranges kind A) k (0 to 0))
unfolding header_ranges shared_ranges
row_contains kind A zero = (omega arith, omega arith)
row_contains kind A (suc zero) = (omega arith, omega arith)
row_contains kind A (suc (suc zero)) = (omega arith, omega arith)
row_contains kind A (suc (suc (suc k))) = (omega arith, omega arith)

header_contains : (got : List ℕ) → Contains (next_before got) (next_in_header got)
header_contains got = row_contains (get_or got 0 0) (get_or got 1 0) (length got)

ranges_wider : (a b : List ℕ → Bounds) → ((got : List ℕ) → Contains (a got) (b got)) → (got xs : List ℕ) → in_ranges a got xs ≡ true → in_ranges b got xs ≡ true
unfolding in_ranges
ranges_wider a b wider got [] e = refl
ranges_wider a b wider got (x ∷ xs) e =
    let here = ranges_cons a got x xs e in
    let c = wider got in
    and_from _ _ (and_from _ _ (le-leb (b got).low x (omega (arith, within_low (a got) x here.0, c.0)))
    (le-leb x (b got).high (omega (arith, within_high (a got) x here.0, c.1))))
    (ranges_wider a b wider (got ++ x ∷ []) xs here.1)

header_fits : (h : Header) → HeaderBefore h → HeaderFits h
unfolding header_in_range
header_fits h b = and_from _ _ (ranges_wider next_before next_in_header header_contains [] (header_numbers h) b.numbers) b.panel

-- The road ended by 2,000,000,000.
pub road_before : (h : Header) → HeaderBefore h → h.end ≤ 2000000000
road_before h b = ranges_high next_before (header_numbers h) b.numbers 2 (omega arith)

module _ (s : List ℕ) (j : Job) (b : JobBefore s j) where
  pub before_fits : AcceptedFits j
  before_fits = record { fits = record { header = header_fits j.header b.header; hazards = b.hazards }; passed = b.passed }

  pub before_accepted : accept_job s ≡ accepted j
  before_accepted =
      ap accept_job (b.bytes ∙ sym (job_five j b.header (road_before j.header b.header) b.hazards.each))
      ∙ fitting_accepted j before_fits

-- Two that were accepted.
pub printed_before : JobBefore (written_before printed_job) paper_job
unfolding printed_job numbers_of hazards_numbers header_ranges shared_ranges in_ranges hazard_in_range hazard_ranges
printed_before = record {
  bytes = refl;
  header = record { numbers = refl; panel = refl };
  hazards = record { count = refl; each = cons_each (λ (z : Hazard). HazardFits paper_job.header z) refl (λ z m. absurd (Memᴰ.not-nil m)) };
  passed = cons_each (Passed paper_job.header) (record { clear = λ r. omega arith }) (λ z m. absurd (Memᴰ.not-nil m));
}

pub limit_before : JobBefore (written_before (numbers_of limit_job)) limit_job
unfolding header_ranges shared_ranges in_ranges hazard_in_range hazard_ranges
limit_before = record {
  bytes = refl;
  header = record { numbers = refl; panel = refl };
  hazards = record { count = refl; each = cons_each (λ (z : Hazard). HazardFits limit_job.header z) refl (λ z m. absurd (Memᴰ.not-nil m)) };
  passed = cons_each (Passed limit_job.header) (record { clear = λ r. omega arith }) (λ z m. absurd (Memᴰ.not-nil m));
}
