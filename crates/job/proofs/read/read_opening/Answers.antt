-- `job::read::read_opening` meets its contract: the header, then its count, then the job as it is read. Assumes nothing.
use Rattle.std.proofs.Common.{ℕ, arith, sym, ap, ◌∙◌}
use Rattle.std.proofs.lemmas.Bool.{ltb-true, ltb-false}
use Rattle.base.specs.Answer.{refused}
use Rattle.refusal.specs.Refusal.{answer_of}
use Rattle.refusal.proofs.RefuseLaws.{passed_on}
use Rattle.job.proofs.OpeningLaws.{opening_unread, opening_counted, opening_over, opening_done}
use Rattle.job.proofs.read.read_opening.Goals as goal

pub returns-then-carries_hazards : goal.returns-then-carries_hazards
returns-then-carries_hazards c =
    let read = sym c.read_header.ensures ∙ ap answer_of c.in_ok-reading.was in
    ap (λ (n : ℕ). refused 3 n) c.header_size.ensures ∙ sym (opening_counted _ read (ltb-true 0 _ (sym c.carries_hazards.ensures ∙ c.if-carries_hazards.true)))

pub returns-then-reading-s : goal.returns-then-reading-s
returns-then-reading-s c =
    let read = sym c.read_header.ensures ∙ ap answer_of c.in_ok-reading.was in
    sym (opening_over _ read (omega (arith, ltb-false 0 _ (sym c.carries_hazards.ensures ∙ c.if-carries_hazards.false))) c.if-reading-s.true)

pub returns : goal.returns
returns c =
    let read = sym c.read_header.ensures ∙ ap answer_of c.in_ok-reading.was in
    sym (opening_done _ read (omega (arith, ltb-false 0 _ (sym c.carries_hazards.ensures ∙ c.if-carries_hazards.false))) c.if-reading-s.false)

pub returns-in_err-reading : goal.returns-in_err-reading
returns-in_err-reading c =
    passed_on c.from_residual.result c.in_err-reading.field-0.0 c.from_residual.ensures.1
    ∙ sym (opening_unread _ _ (sym c.read_header.ensures ∙ ap answer_of c.in_err-reading.was))
