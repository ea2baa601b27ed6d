-- `panels::search::try_layouts` meets its contract. Assumes nothing.
use Rattle.std.proofs.Common.{arith}
use Rattle.panels.proofs.OdometerLaws.{four_fit}
use Rattle.panels.proofs.SearchLaws.{tried_none, tried_next}
use Rattle.panels.proofs.search.try_layouts.Goals as goal

pub loop-init : goal.loop-init
loop-init c = tried_none _ _ _ c.four_lengths-panels.ensures

pub advance-at-requires-clause-lengths_fit : goal.advance-at-requires-clause-lengths_fit
advance-at-requires-clause-lengths_fit c = rw c.four_lengths-panels.ensures (four_fit _ c.requires.stock_lengths)

pub loop-preserved : goal.loop-preserved
loop-preserved c =
    tried_next _ _ c.requires.stock_lengths (omega arith) c.loop.invariant c.judge.ensures.covers c.judge.ensures.judged c.advance-at.ensures
