-- Its steps are the definition's, no step leaves 64 bits, and panel length 1 raises nothing.
-- Assumes nothing.
use native.Mathlib.Omega.{arith}
use native.Mathlib.Nat.{div-mul-le_self}
use Prim.Native.Nat.{◌+◌, ◌-◌}
use mathlib.Core.Path.{◌≡◌, refl, sym}
use Rattle.base.specs.Least.{next_multiple}
use Rattle.approach.proofs.PanelLaws.{raised_one}
use Rattle.approach.proofs.raised_to.Goals as goal

pub returns-then-panel-le1 : goal.returns-then-panel-le1
returns-then-panel-le1 c = let one : c.args.panel ≡ 1 = omega arith in rw one (sym (raised_one c.args.length))

-- Whole panels up to a length are no longer than it.
pub overflow_mul-result : goal.overflow_mul-result
overflow_mul-result c = omega (arith, div-mul-le_self (c.args.length + (c.args.panel - 1)) c.args.panel)

pub returns : goal.returns
unfolding next_multiple
returns c = refl
