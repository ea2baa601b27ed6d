-- `panels::layout::out_of_range`: what is out of range stands from the index on. Assumes nothing.
use Rattle.std.proofs.Common.{drop, ◌≡◌}
use Rattle.base.specs.Choice.{some_of}
use Rattle.panels.specs.Panels.{out_of_range}
use Rattle.panels.proofs.layout.out_of_range.Given as goal

abbrev pub invariant-loop-length : goal.invariant-loop-length
invariant-loop-length l = some_of out_of_range l.lengths ≡ some_of out_of_range (drop l.length-index l.lengths)
