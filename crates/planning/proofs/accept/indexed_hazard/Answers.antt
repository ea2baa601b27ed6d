-- `planning::accept::indexed_hazard` meets its contract: the header, the walk behind it, and the hazard that it found. Assumes nothing.
use Rattle.std.proofs.Common.{ℕ, sym, ap, ◌∙◌, subst}
use Rattle.base.specs.Answer.{accepted}
use Rattle.refusal.specs.Refusal.{answer_of}
use Rattle.refusal.proofs.RefuseLaws.{passed_on}
use Rattle.job.specs.declared.Header.{Header}
use Rattle.job.proofs.JobLaws.{header_at_fits}
use Rattle.planning.specs.declared.accept.Indexed.{Indexed}
use Rattle.planning.specs.Taker.{asked_took}
use Rattle.planning.proofs.AcceptLaws.{walk_accepts, walk_refuses, accept_unread, indexed_refused, indexed_none, indexed_found}
use Rattle.planning.proofs.accept.indexed_hazard.Goals as goal

pub returns-in_err-read : goal.returns-in_err-read
returns-in_err-read c =
    let a = c.args in
    passed_on c.from_residual.result c.in_err-read.field-0.0 c.from_residual.ensures.1
    ∙ sym (indexed_refused a.s.now a.index c.in_err-read.field-0.0
    (accept_unread a.s.now c.in_err-read.field-0.0 (sym c.read_header.ensures ∙ ap answer_of c.in_err-read.was)))

pub walk-requires-clause-header_fits : goal.walk-requires-clause-header_fits
walk-requires-clause-header_fits c = header_at_fits _ _ (sym c.read_header.ensures ∙ ap answer_of c.in_ok-read.was)

pub returns-in_err-walk : goal.returns-in_err-walk
returns-in_err-walk c =
    let a = c.args in
    let read = sym c.read_header.ensures ∙ ap answer_of c.in_ok-read.was in
    passed_on c.from_residual-in_err-walk.result c.in_err-walk.field-0.0 c.from_residual-in_err-walk.ensures.1
    ∙ sym (indexed_refused a.s.now a.index c.in_err-walk.field-0.0
    (walk_refuses a.s.now read c.walk.result c.walk.ensures.answer c.in_err-walk.field-0.0 c.in_err-walk.was))

pub returns-in-Some : goal.returns-in-Some
returns-in-Some c =
    let a = c.args in
    let read = sym c.read_header.ensures ∙ ap answer_of c.in_ok-read.was in
    let d = walk_accepts a.s.now read c.walk.result c.walk.ensures.answer c.in_ok-walk.was in
    let took = subst (λ (i : ℕ). asked_took i c.walk.new.taker.found d.job.hazards) (sym c.walk.ensures.same) (c.in_ok-walk.ensures.took d.job d.read_on) in
    sym (indexed_found a.s.now a.index d.job_is_accepted took c.in-Some.hazard c.in-Some.is
    ∙ ap (λ (h : Header). let x : Indexed = record { header = h; hazard = c.in-Some.hazard } in accepted x) d.its_header)

pub returns-in-None : goal.returns-in-None
returns-in-None c =
    let a = c.args in
    let read = sym c.read_header.ensures ∙ ap answer_of c.in_ok-read.was in
    let d = walk_accepts a.s.now read c.walk.result c.walk.ensures.answer c.in_ok-walk.was in
    let took = subst (λ (i : ℕ). asked_took i c.walk.new.taker.found d.job.hazards) (sym c.walk.ensures.same) (c.in_ok-walk.ensures.took d.job d.read_on) in
    sym (indexed_none a.s.now a.index d.job_is_accepted took c.in-None.is)
