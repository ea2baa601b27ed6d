-- `panels::layout::layout` meets its contract: its tests are those of 16 and 17, in the same order. Assumes nothing.
use Rattle.std.proofs.Common.{arith, sym, ap, ◌∙◌}
use Rattle.panels.specs.Reply.{layout_replied}
use Rattle.panels.proofs.RefusedLaws.{yard}
use Rattle.panels.proofs.ReplyLaws.{none_given, over_four, one_out, no_tries, too_many}
use Rattle.panels.proofs.layout.layout.Goals.{then-number-eq0-via-then-number-eq0, then-number-eq0-via-else-number-eq0+then-number-gt4}
use Rattle.panels.proofs.layout.layout.Goals.{then-number-eq0-via-else-number-eq0+else-number-gt4+then-out_of_range}
use Rattle.panels.proofs.layout.layout.Goals.{then-limit-eq0-via-then-limit-eq0, then-limit-eq0-via-else-limit-eq0+then-limit-gt65536}
use Rattle.panels.proofs.layout.layout.Goals as goal

pub returns-then-number-eq0 : goal.returns-then-number-eq0
unfolding layout_replied
returns-then-number-eq0 c =
    ap layout_replied (sym (elim c.then-number-eq0.branch [
      | then-number-eq0-via-then-number-eq0 w ↦ none_given _ _ _ w.if-number-eq0.true
      | then-number-eq0-via-else-number-eq0+then-number-gt4 w ↦ over_four _ _ _ w.if-number-gt4.true
      | then-number-eq0-via-else-number-eq0+else-number-gt4+then-out_of_range w ↦ one_out _ _ _ (sym w.out_of_range.ensures ∙ w.if-out_of_range.true)
    ]))

pub returns-then-limit-eq0 : goal.returns-then-limit-eq0
unfolding layout_replied
returns-then-limit-eq0 c =
    let pass = yard _ (omega arith) c.if-number-gt4.false (sym c.out_of_range.ensures ∙ c.if-out_of_range.false) in
    ap layout_replied (sym (elim c.then-limit-eq0.branch [
      | then-limit-eq0-via-then-limit-eq0 w ↦ no_tries _ _ _ pass w.if-limit-eq0.true
      | then-limit-eq0-via-else-limit-eq0+then-limit-gt65536 w ↦ too_many _ _ _ pass w.if-limit-gt65536.true
    ]))

pub best_layout-requires-clause-stock_lengths : goal.best_layout-requires-clause-stock_lengths
best_layout-requires-clause-stock_lengths c =
    yard _ (omega arith) c.if-number-gt4.false (sym c.out_of_range.ensures ∙ c.if-out_of_range.false)
