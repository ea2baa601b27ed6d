-- Assumes nothing.
use Rattle.std.proofs.Common.{◌∙◌, arith}
use Rattle.runs.proofs.PlaceLaws.{set_same, set_push}
use Rattle.runs.proofs.sweep.set_from.Goals as goal

pub returns-then-level_before-level : goal.returns-then-level_before-level
returns-then-level_before-level c =
    let a = c.args in
    let k = c.kept-k in
    let before = c.level_before.ensures a.starts.now in
    (omega arith, set_same a.starts.now a.levels.now a.t a.v.number k.result a.count (k.ensures.1 a.levels.now) (omega (arith, before)))

pub returns : goal.returns
returns c =
    let a = c.args in
    let k = c.kept-k in
    let before = c.level_before.ensures a.starts.now in (
      omega arith,
      set_push a.starts.now a.levels.now a.t a.v.number k.result a.count (k.ensures.1 a.levels.now)
          (λ e. c.if-level_before-level.false (before ∙ e)) (omega arith) (omega arith),
    )
