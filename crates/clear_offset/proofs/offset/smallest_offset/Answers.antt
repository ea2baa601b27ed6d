-- 14, or the search of the hazard asked for.
-- Assumes nothing.
use native.Mathlib.Omega.{arith}
use mathlib.Core.Path.{sym, ap, ◌∙◌}
use Rattle.base.specs.Answer.{Answer, accepted, ◌>>=◌}
use Rattle.refusal.specs.Refusal.{answer_of}
use Rattle.refusal.proofs.RefuseLaws.{passed_on}
use Rattle.planning.proofs.ApproachedLaws.{indexed_reached}
use Rattle.clear_offset.specs.Offset.{given}
use Rattle.clear_offset.proofs.OffsetLaws.{approached_clear, offset_refused, offset_unreached, offset_reached}
use Rattle.clear_offset.proofs.offset.smallest_offset.Goals as goal

pub returns-in_err-asked : goal.returns-in_err-asked
returns-in_err-asked c =
    ap (λ (a : Answer _). a >>= λ o. accepted (given o)) (passed_on c.from_residual.result c.in_err-asked.field-0.0 c.from_residual.ensures.1)
    ∙ sym (offset_refused c.args.job.now c.args.hazard c.args.longest (sym c.indexed_hazard.ensures ∙ ap answer_of c.in_err-asked.was))

pub returns-then-asked : goal.returns-then-asked
returns-then-asked c =
    let a = c.args in
    let found = sym c.indexed_hazard.ensures ∙ ap answer_of c.in_ok-asked.was in
    sym (offset_unreached a.job.now a.hazard a.longest _ _ found (omega (arith, c.if-asked.true)))

pub smallest_of-requires : goal.smallest_of-requires
smallest_of-requires c =
    let a = c.args in
    let found = sym c.indexed_hazard.ensures ∙ ap answer_of c.in_ok-asked.was in
    approached_clear (indexed_reached a.job.now a.hazard _ _ found (omega (arith, c.if-asked.false)))

pub returns : goal.returns
returns c =
    let a = c.args in
    let found = sym c.indexed_hazard.ensures ∙ ap answer_of c.in_ok-asked.was in
    ap accepted c.smallest_of.ensures ∙ sym (offset_reached a.job.now a.hazard a.longest _ _ found (omega (arith, c.if-asked.false)))
