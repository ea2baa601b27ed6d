-- Assumes nothing.
use Rattle.std.proofs.Common.{◌≡◌, ◌+◌, ◌-◌, sym, ◌∙◌, arith}
use Rattle.runs.proofs.PlaceLaws.{cut_more, cut_done, cut_none}
use Rattle.runs.proofs.sweep.kept.Goals as goal

pub returns-then-starts-k : goal.returns-then-starts-k
returns-then-starts-k c =
    let l = c.loop-k in
    let a = c.args in
    let back : l.k - 1 + 1 ≡ l.k = omega arith in
    (omega arith, λ levels. rw back (sym (cut_done a.starts.now levels a.t l.k (omega arith) (omega arith)) ∙ l.invariant levels))

pub loop-k-preserved : goal.loop-k-preserved
loop-k-preserved c =
    let l = c.loop-k in
    let a = c.args in
    λ levels. sym (cut_more a.starts.now levels a.t l.k (omega arith) (omega arith)) ∙ l.invariant levels

pub returns : goal.returns
returns c =
    let l = c.loop-k in
    let a = c.args in
    let none : l.k ≡ 0 = omega arith in
    (omega arith, λ levels. sym (cut_none a.starts.now levels a.t 0 (omega arith)) ∙ (rw none at (l.invariant levels)))
