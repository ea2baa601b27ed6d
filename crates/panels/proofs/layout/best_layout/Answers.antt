-- `panels::layout::best_layout` meets its contract: the layout kept, the loop's own count of tries, and the floor. Assumes nothing.
use Rattle.std.proofs.Common.{ap, ◌∙◌, min}
use Rattle.panels.proofs.ReplyLaws.{from_tries}
use Rattle.panels.proofs.layout.best_layout.Goals as goal

pub overflow_sub-best : goal.overflow_sub-best
overflow_sub-best c = rw c.in-Some.is at c.try_layouts-tried.ensures.covers

pub returns-in-Some : goal.returns-in-Some
returns-in-Some c =
    rw c.counts_of.ensures
    (rw c.in-Some.is at
    (from_tries _ _ _ c.requires.stock_lengths c.requires.limit c.try_layouts-tried.result _ c.floor_of-floor.result c.try_layouts-tried.ensures
    (c.min.ensures ∙ ap (min c.args.limit) c.layout_number.ensures) c.floor_of-floor.ensures))

pub returns-in-None : goal.returns-in-None
returns-in-None c =
    rw c.in-None.is at
    (from_tries _ _ _ c.requires.stock_lengths c.requires.limit c.try_layouts-tried.result _ c.floor_of-floor.result c.try_layouts-tried.ensures
    (c.min.ensures ∙ ap (min c.args.limit) c.layout_number.ensures) c.floor_of-floor.ensures)
