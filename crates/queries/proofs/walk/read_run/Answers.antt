-- `queries::walk::read_run`: the level's byte, and the run that it makes. Assumes nothing.
use mathlib.Core.Path.{sym, ap, ◌∙◌}
use native.Mathlib.Omega.{arith}
use Rattle.number.proofs.ByteLaws.{index_bytes}
use Rattle.queries.specs.Walk.{as_record}
use Rattle.queries.proofs.WalkLaws.{level_ended, level_byte}
use Rattle.queries.proofs.walk.read_run.Goals as goal

pub returns-then-s-at : goal.returns-then-s-at
returns-then-s-at c = ap as_record (sym (level_ended _ _ _ _ _ _ c.if-s-at.true))

pub returns : goal.returns
returns c = c.following_run.ensures ∙ ap as_record (sym (level_byte _ _ _ _ _ _ (index_bytes _ (λ i. omega (arith, c.type_inv.s i))) c.if-s-at.false))
