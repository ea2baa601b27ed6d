-- `job::hazard_fields::read_hazard` meets its contract: the six numbers lie in their ranges, so each fits the bits that it is stored in.
-- Assumes nothing.
use Rattle.std.proofs.Common.{ℕ, List, Result, Bor, arith, ap, ◌∙◌}
use Rattle.refusal.specs.declared.Refusal.{Refusal}
use Rattle.refusal.specs.declared.Refusal.TheVariants.{HazardRange}
use Rattle.job.specs.Reply.{field_at, moved}
use Rattle.refusal.proofs.RefuseLaws.{passed_on}
use Rattle.job.proofs.HazardLaws.{hazard_number, hazard_refused, hazard_read, numbers_bounds}
use Rattle.job.proofs.hazard_fields.read_hazard.Goals as goal

pub returns-in_err-numbers : goal.returns-in_err-numbers
returns-in_err-numbers c =
    let i = c.loop-k.invariant in
    let read = c.field.ensures.value ∙ ap (λ (b : List ℕ). field_at c.hazard_range-range.result (HazardRange c.args.index) b c.loop-k.reader.at) i.0 in
    passed_on c.from_residual.result c.in_err-numbers.field-0.0 c.from_residual.ensures.1
    ∙ hazard_refused _ i.1 c.loop-k-test.true _ c.hazard_range-range.ensures read (ap (λ (r : Result ℕ Refusal). moved r c.field.new.self.at) c.in_err-numbers.was)

pub loop-k-preserved : goal.loop-k-preserved
loop-k-preserved c =
    let i = c.loop-k.invariant in
    let read = c.field.ensures.value ∙ ap (λ (b : List ℕ). field_at c.hazard_range-range.result (HazardRange c.args.index) b c.loop-k.reader.at) i.0 in (
      ap (λ (b : Bor (List ℕ)). b.now) c.field.ensures.same ∙ i.0,
      hazard_number c.args.header i.1 c.loop-k-test.true _ c.hazard_range-range.ensures read (ap (λ (r : Result ℕ Refusal). moved r c.field.new.self.at) c.in_ok-numbers.was),
    )

pub overflow_cast-result : goal.overflow_cast-result
overflow_cast-result c = omega (arith, (numbers_bounds c.args.header c.loop-k.invariant.1 c.loop-k-test.false).side)

pub overflow_cast-result-2 : goal.overflow_cast-result-2
overflow_cast-result-2 c =
    let bounds = numbers_bounds c.args.header c.loop-k.invariant.1 c.loop-k-test.false in
    omega (arith, bounds.offsets, bounds.far_top)

pub overflow_cast-result-3 : goal.overflow_cast-result-3
overflow_cast-result-3 c = omega (arith, (numbers_bounds c.args.header c.loop-k.invariant.1 c.loop-k-test.false).far_top)

pub overflow_cast-result-4 : goal.overflow_cast-result-4
overflow_cast-result-4 c = omega (arith, (numbers_bounds c.args.header c.loop-k.invariant.1 c.loop-k-test.false).level_top)

pub returns : goal.returns
returns c = hazard_read _ c.loop-k.invariant.1 c.loop-k-test.false
