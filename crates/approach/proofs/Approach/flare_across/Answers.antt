-- No product leaves 64 bits in the domain, and the test is the rule's.
-- Assumes nothing.
use Prim.Native.Nat.{◌-◌, ◌*◌}
use native.Mathlib.Omega.{arith}
use borrow.Author.Tests.{le-leb, lt-leb}
use Rattle.approach.specs.Steps.{flare_across}
use Rattle.approach.proofs.Approach.flare_across.Goals as goal

pub returns-then-self : goal.returns-then-self
unfolding flare_across
returns-then-self c =
    let a = c.args.self in rw (le-leb (a.runout * (a.reach - a.offset)) (a.straight * a.reach) (omega (arith, c.if-self.true)))

pub returns-else-self : goal.returns-else-self
unfolding flare_across
returns-else-self c =
    let a = c.args.self in rw (lt-leb (a.runout * (a.reach - a.offset)) (a.straight * a.reach) (omega (arith, c.if-self.false)))
