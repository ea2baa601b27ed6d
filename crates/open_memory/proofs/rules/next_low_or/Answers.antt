-- crates/open_memory/proofs/rules/next_low_or/Answers.antt
-- Every name of 16 bits is one.
-- Assumes nothing.
use Rattle.std.proofs.Common.{Bool, ◌&&◌, sym, ap, ◌∙◌, arith}
use lib.Dec.{leb}
use Rattle.open_memory.proofs.LimitLaws.{low_next, low_broken}
use Rattle.open_memory.proofs.rules.next_low_or.Goals as goal

pub returns-then-low-name : goal.returns-then-low-name
returns-then-low-name c =
    let a = c.args in
    low_next a.limits a.low a.p (omega arith) (ap (λ (i : Bool). leb a.low a.p.name && i) (sym c.in_limits.ensures) ∙ c.if-low-name.true)

pub returns-else-low-name : goal.returns-else-low-name
returns-else-low-name c =
    let a = c.args in
    c.requires ∙ low_broken a.limits a.low a.p (omega arith) (ap (λ (i : Bool). leb a.low a.p.name && i) (sym c.in_limits.ensures) ∙ c.if-low-name.false)
