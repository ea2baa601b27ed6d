-- `job::header_fields::read_count` meets its contract: the hazard count behind the fourteen numbers of a kind 2 header.
-- Assumes nothing.
use Rattle.std.proofs.Common.{ℕ, Result, ap, ◌∙◌}
use Rattle.refusal.specs.declared.Refusal.{Refusal}
use Rattle.refusal.proofs.RefuseLaws.{passed_on}
use Rattle.job.specs.Reply.{moved}
use Rattle.job.proofs.HeaderLaws.{count_read, count_refused}
use Rattle.job.proofs.header_fields.read_count.Goals as goal

pub returns : goal.returns
returns c =
    rw c.header_with.ensures
    (count_read c.args.s.now _ c.args.at _ c.requires.numbers_len c.requires.kind_2 c.field.ensures.value
    (ap (λ (r : Result ℕ Refusal). moved r c.field.new.self.at) c.in_ok-count.was))

pub returns-in_err-count : goal.returns-in_err-count
returns-in_err-count c =
    passed_on c.from_residual.result c.in_err-count.field-0.0 c.from_residual.ensures.1
    ∙ count_refused c.args.s.now _ c.args.at _ c.requires.numbers_len c.requires.kind_2 c.field.ensures.value
    (ap (λ (r : Result ℕ Refusal). moved r c.field.new.self.at) c.in_err-count.was)
