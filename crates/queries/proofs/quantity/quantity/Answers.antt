-- `queries::quantity::quantity`: 8 comes first, and then the sum of the overlaps is the count of millimetres. Assumes nothing.
use mathlib.Core.Path.{sym, ◌∙◌}
use mathlib.Core.Bool.{false≢true}
use Rattle.refusal.proofs.RefuseLaws.{passed_on}
use Rattle.queries.specs.Quantity.{Ranged}
use Rattle.queries.proofs.QuantityLaws.{ranged, quantity_argument}
use Rattle.queries.proofs.SingleLaws.{summing_start, quantity_refused, quantity_given}
use Rattle.queries.proofs.quantity.quantity.Goals as goal

pub returns-then-not-ranged : goal.returns-then-not-ranged
returns-then-not-ranged c =
    sym (quantity_argument _ _ _ _ (λ (h : Ranged _ _ _). false≢true (sym c.if-not-ranged.true ∙ c.ranged.ensures ∙ (ranged _ _ _).1 h)))

pub walk-requires : goal.walk-requires
walk-requires c = λ n b e. summing_start _ _ _ _ n e

pub returns-in_err-walk : goal.returns-in_err-walk
returns-in_err-walk c =
    passed_on c.from_residual.result c.in_err-walk.field-0.0 c.from_residual.ensures.1
    ∙ quantity_refused _ _ _ _ ((ranged _ _ _).0 (sym c.ranged.ensures ∙ c.if-not-ranged.false)) _ _ c.in_err-walk.ensures.count

pub returns : goal.returns
returns c =
    let w = c.in_ok-walk.ensures.found in
    quantity_given _ _ _ _ ((ranged _ _ _).0 (sym c.ranged.ensures ∙ c.if-not-ranged.false)) w.last _ w.known w.none w.over
