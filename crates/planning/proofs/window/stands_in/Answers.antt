-- `planning::window::stands_in` meets its contract: by the window. Assumes nothing.
use Rattle.std.proofs.Common.{refl}
use Rattle.planning.specs.Window.{stands_in}
use Rattle.planning.proofs.window.stands_in.Goals as goal

pub returns-in-All : goal.returns-in-All
unfolding stands_in
returns-in-All c = rw c.in-All.is refl

pub returns-in-Between : goal.returns-in-Between
unfolding stands_in
returns-in-Between c = rw c.in-Between.is refl
