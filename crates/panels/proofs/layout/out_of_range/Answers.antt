-- `panels::layout::out_of_range` meets its contract. Assumes nothing.
use Rattle.std.proofs.Common.{sym, ap, ◌∙◌}
use lib.ListN.{drop_of_length-le}
use Rattle.base.specs.Choice.{some_of}
use Rattle.panels.specs.Panels.{out_of_range}
use Rattle.panels.proofs.RangeLaws.{found_here, passed_here, too_low, too_high, in_range}
use Rattle.panels.proofs.layout.out_of_range.Goals.{then-length-lt1-via-then-length-lt1, then-length-lt1-via-else-length-lt1+then-length-gt20000}
use Rattle.panels.proofs.layout.out_of_range.Goals as goal

pub returns-then-length-lt1 : goal.returns-then-length-lt1
returns-then-length-lt1 c =
    sym (c.loop-length.invariant ∙ found_here out_of_range _ _ c.loop-length-test.true
    (elim c.then-length-lt1.branch [
      | then-length-lt1-via-then-length-lt1 w ↦ too_low _ w.if-length-lt1.true
      | then-length-lt1-via-else-length-lt1+then-length-gt20000 w ↦ too_high _ w.if-length-gt20000.true
    ]))

pub loop-length-preserved : goal.loop-length-preserved
loop-length-preserved c =
    c.loop-length.invariant ∙ passed_here out_of_range _ _ c.loop-length-test.true (in_range _ c.if-length-lt1.false c.if-length-gt20000.false)

pub returns : goal.returns
unfolding some_of
returns c = sym (c.loop-length.invariant ∙ ap (some_of out_of_range) (drop_of_length-le _ c.loop-length-test.false))
