-- `panels::search::try_layouts`: the odometer shows the layout to be tried next, and the best of those tried is kept. Assumes nothing.
use Rattle.panels.proofs.SearchLaws.{TriedSo}
use Rattle.panels.proofs.search.try_layouts.Given as goal

abbrev pub invariant-loop : goal.invariant-loop
invariant-loop l = TriedSo l.lengths l.run l.panels l.at l.best l.counter
