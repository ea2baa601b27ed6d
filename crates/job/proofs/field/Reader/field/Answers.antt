-- `job::field::Reader::field` meets its contract: what reading the number found, with the tests that led there, is the definition's.
-- Assumes nothing.
use Rattle.std.proofs.Common.{sym, ◌∙◌}
use borrow.Author.Tests.{le-leb, lt-leb}
use Rattle.job.proofs.FieldLaws.{moved_on}
use Rattle.job.specs.Reply.{field_at}
use Rattle.job.proofs.field.Reader.field.Goals as goal

pub returns-in_err-reading-clause-value : goal.returns-in_err-reading-clause-value
unfolding field_at
returns-in_err-reading-clause-value c = moved_on c.from_residual.result c.args.self.now.at c.in_err-reading.field-0.0 c.from_residual.ensures.1 ∙ simp (sym c.in_err-reading.ensures.reading)

pub returns-then-reading-range-clause-value : goal.returns-then-reading-range-clause-value
unfolding field_at
returns-then-reading-range-clause-value c = simp (sym c.in_ok-reading.ensures.reading, lt-leb _ _ c.if-reading-range.true)

pub returns-then-range-reading-clause-value : goal.returns-then-range-reading-clause-value
unfolding field_at
returns-then-range-reading-clause-value c =
    simp (sym c.in_ok-reading.ensures.reading, le-leb _ _ c.if-reading-range.false, lt-leb _ _ c.if-range-reading.true)

pub returns-clause-value : goal.returns-clause-value
unfolding field_at
returns-clause-value c = simp (sym c.in_ok-reading.ensures.reading, le-leb _ _ c.if-reading-range.false, le-leb _ _ c.if-range-reading.false)
