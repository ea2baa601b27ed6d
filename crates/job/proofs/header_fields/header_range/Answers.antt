-- `job::header_fields::header_range` meets its contract: two ranges go by the road's begin and by the kind, the others are as listed.
-- Assumes nothing.
use Rattle.std.proofs.Common.{ℕ, ◌+◌, arith, ap, ◌∙◌}
use borrow.Author.Tests.{ne_eqb}
use Rattle.job.specs.Job.{◌to◌, shared_ranges, header_ranges}
use Rattle.job.proofs.HeaderLaws.{range_plain}
use Rattle.job.proofs.header_fields.header_range.Goals as goal

pub returns-then-k-eq2 : goal.returns-then-k-eq2
unfolding header_ranges shared_ranges
returns-then-k-eq2 c = rw c.if-k-eq2.true (ap (λ (top : ℕ). (c.args.begin + 1) to top) c.road_top.ensures)

-- The fourteenth number goes by the kind.
pub returns-then-kind-eq2 : goal.returns-then-kind-eq2
unfolding header_ranges shared_ranges
returns-then-kind-eq2 c = c.requires.range_of_k ∙ rw (c.if-k-eq13.true, c.if-kind-eq2.true)

pub returns-then-k-eq13 : goal.returns-then-k-eq13
unfolding header_ranges shared_ranges
returns-then-k-eq13 c = rw (c.if-k-eq13.true, ne_eqb _ 2 c.if-kind-eq2.false)

pub returns : goal.returns
unfolding header_ranges shared_ranges
returns c =
    c.requires.range_of_k
    ∙ range_plain c.args.kind c.args.begin c.args.k (omega (arith, c.requires.k_bound, c.if-k-eq13.false)) c.if-k-eq2.false
