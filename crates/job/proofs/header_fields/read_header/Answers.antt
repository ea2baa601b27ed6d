-- `job::header_fields::read_header` meets its contract. Assumes nothing.
use Rattle.std.proofs.Common.{ℕ, ◌+◌, List, Result, Bor, refl, ap, ◌∙◌}
use Rattle.refusal.specs.declared.Refusal.{Refusal}
use Rattle.refusal.specs.declared.Refusal.TheVariants.{HeaderRange}
use Rattle.job.specs.Reply.{field_at, moved}
use Rattle.refusal.proofs.RefuseLaws.{passed_on}
use Rattle.job.specs.Job.{shared_ranges, header_ranges}
use Rattle.job.proofs.HeaderLaws.{header_number, header_refused, header_plain, header_counted}
use Rattle.job.proofs.header_fields.read_header.Goals as goal

pub header_range-range-requires-clause-range_of_k : goal.header_range-range-requires-clause-range_of_k
unfolding header_ranges shared_ranges
header_range-range-requires-clause-range_of_k c = refl

pub returns-in_err-numbers : goal.returns-in_err-numbers
returns-in_err-numbers c =
    let i = c.loop-k.invariant in
    let read = c.field.ensures.value ∙ ap (λ (b : List ℕ). field_at c.header_range-range.result (HeaderRange (c.loop-k.k + 1)) b c.loop-k.reader.at) i.0 in
    passed_on c.from_residual.result c.in_err-numbers.field-0.0 c.from_residual.ensures.1
    ∙ header_refused i.1 c.loop-k-test.true _ c.header_range-range.ensures read (ap (λ (r : Result ℕ Refusal). moved r c.field.new.self.at) c.in_err-numbers.was)

pub loop-k-preserved : goal.loop-k-preserved
loop-k-preserved c =
    let i = c.loop-k.invariant in
    let read = c.field.ensures.value ∙ ap (λ (b : List ℕ). field_at c.header_range-range.result (HeaderRange (c.loop-k.k + 1)) b c.loop-k.reader.at) i.0 in (
      ap (λ (b : Bor (List ℕ)). b.now) c.field.ensures.same ∙ i.0,
      header_number i.1 c.loop-k-test.true _ c.header_range-range.ensures read (ap (λ (r : Result ℕ Refusal). moved r c.field.new.self.at) c.in_ok-numbers.was),
    )

pub returns-then-numbers-eq2 : goal.returns-then-numbers-eq2
returns-then-numbers-eq2 c = c.read_count.ensures ∙ header_counted c.loop-k.invariant.1 c.loop-k-test.false c.if-numbers-eq2.true

pub returns : goal.returns
returns c = rw c.header_with.ensures (header_plain c.loop-k.invariant.1 c.loop-k-test.false c.if-numbers-eq2.false)
