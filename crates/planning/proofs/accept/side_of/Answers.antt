-- `planning::accept::side_of` meets its contract: the header, then the side of the job behind it. Assumes nothing.
use Rattle.std.proofs.Common.{sym, ap, ◌∙◌}
use Rattle.refusal.specs.Refusal.{answer_of}
use Rattle.job.proofs.JobLaws.{header_at_fits}
use Rattle.planning.proofs.WalkLaws.{the_err}
use Rattle.planning.proofs.AcceptLaws.{side_from, accept_unread, side_unread}
use Rattle.planning.proofs.accept.side_of.Goals as goal

pub returns-in_err-read-clause-answer : goal.returns-in_err-read-clause-answer
returns-in_err-read-clause-answer c =
    let a = c.args in
    rw (the_err c.from_residual.result c.in_err-read.field-0.0 c.from_residual.ensures.1)
    (sym (side_unread a.s.now a.side a.window c.in_err-read.field-0.0
    (accept_unread a.s.now c.in_err-read.field-0.0 (sym c.read_header.ensures ∙ ap answer_of c.in_err-read.was))))

pub side_behind-requires-clause-header_fits : goal.side_behind-requires-clause-header_fits
side_behind-requires-clause-header_fits c = header_at_fits _ _ (sym c.read_header.ensures ∙ ap answer_of c.in_ok-read.was)

pub returns-clause-answer : goal.returns-clause-answer
returns-clause-answer c =
    let a = c.args in
    c.side_behind.ensures.answer ∙ side_from a.s.now (sym c.read_header.ensures ∙ ap answer_of c.in_ok-read.was) a.side a.window
