-- `queries::quantities::quantities`: 8, then 11, then the differences are the quantities, or 10. Assumes nothing.
use mathlib.Core.Path.{sym, ap, ◌∙◌}
use mathlib.Core.Bool.{false≢true}
use native.Mathlib.Omega.{arith}
use Rattle.refusal.proofs.RefuseLaws.{passed_on}
use Rattle.queries.specs.Ranges.{replies, AllRanged}
use Rattle.queries.proofs.RangeLaws.{ranges_count}
use Rattle.queries.proofs.NotedLaws.{noted_none}
use Rattle.queries.proofs.QuantitiesLaws.{all_ranged, quantities_argument, quantities_many}
use Rattle.queries.proofs.SumLaws.{tallying_start, quantities_refused, quantities_over}
use Rattle.queries.proofs.quantities.quantities.Goals as goal

pub returns-then-not-well_asked : goal.returns-then-not-well_asked
returns-then-not-well_asked c =
    ap replies (sym (quantities_argument _ _ _ (λ (h : AllRanged _ _). false≢true (sym c.if-not-well_asked.true ∙ c.well_asked.ensures ∙ (all_ranged _ _).1 h))))

pub returns-then-ranges-gt-MOST_NUMBERS : goal.returns-then-ranges-gt-MOST_NUMBERS
returns-then-ranges-gt-MOST_NUMBERS c =
    let good = (all_ranged c.args.level c.args.ranges.now).0 (sym c.well_asked.ensures ∙ c.if-not-well_asked.false) in
    ap replies (sym (quantities_many _ _ _ good (omega (arith, good.2.pairs))))

pub walk-requires : goal.walk-requires
walk-requires c = λ n b e. tallying_start _ _ _ _ n e noted_none

pub returns-in_err-records : goal.returns-in_err-records
returns-in_err-records c =
    passed_on c.from_residual.result c.in_err-records.field-0.0 c.from_residual.ensures.1
    ∙ quantities_refused _ _ _ ((all_ranged c.args.level c.args.ranges.now).0 (sym c.well_asked.ensures ∙ c.if-not-well_asked.false)) (omega (arith, ranges_count c.args.ranges.now)) _ _
    c.in_err-records.ensures.count

pub differences-requires-clause-whole_ranges : goal.differences-requires-clause-whole_ranges
differences-requires-clause-whole_ranges c = ((all_ranged c.args.level c.args.ranges.now).0 (sym c.well_asked.ensures ∙ c.if-not-well_asked.false)).2

pub returns : goal.returns
returns c =
    let w = c.in_ok-records.ensures.found in
    quantities_over _ _ _ ((all_ranged c.args.level c.args.ranges.now).0 (sym c.well_asked.ensures ∙ c.if-not-well_asked.false)) (omega (arith, ranges_count c.args.ranges.now))
    _ _ _ _ w.last w.known w.none w.over c.in_ok-records.ensures.count _ c.differences.ensures
