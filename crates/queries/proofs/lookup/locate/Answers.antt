-- `queries::lookup::locate`, side by side. Assumes nothing.
use mathlib.Core.Path.{sym, ◌∙◌}
use native.Mathlib.Omega.{arith}
use Rattle.queries.proofs.PlaceLaws.{lookup_side, lookup_argument}
use Rattle.queries.proofs.lookup.locate.Goals as goal

pub returns-in-0 : goal.returns-in-0
returns-in-0 c = let a = c.args in c.place_in.ensures ∙ sym (lookup_side a.right.now a.left.now a.side a.station (omega arith) a.right.now (rw c.in-0.is))

pub returns-in-1 : goal.returns-in-1
returns-in-1 c =
    let a = c.args in c.place_in-in-1.ensures ∙ sym (lookup_side a.right.now a.left.now a.side a.station (omega arith) a.left.now (rw c.in-1.is))

pub returns-in_default : goal.returns-in_default
returns-in_default c = sym (lookup_argument _ _ _ _ (omega arith))
