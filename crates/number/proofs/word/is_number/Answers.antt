-- `number::word::is_number` meets its contract: byte by byte. Assumes nothing.
use Rattle.std.proofs.Common.{◌≡◌, ℕ, ◌+◌, ◌-◌, ◌/◌, ◌%◌, ◌&&◌, arith, sym, ap, ◌∙◌}
use Prim.Native.Nat.{suc}
use mathlib.Core.Bool.{and_assoc}
use lib.Dec.{eqb}
use Rattle.number.specs.Word.{is_number}
use Rattle.number.proofs.word.is_number.Goals as goal

pub loop-k-preserved : goal.loop-k-preserved
loop-k-preserved g c =
    let l = c.loop-k in
    let left = g.row.MORE - (l.k + 1) in
    let more : g.row.MORE - l.k ≡ suc left = omega arith in
    l.invariant ∙ ap (λ (m : ℕ). l.tops && is_number m l.rest) more ∙ sym (and_assoc l.tops (eqb (l.rest / 128 % 2) 1) (is_number left (l.rest / 256)))

pub returns : goal.returns
returns g c =
    let l = c.loop-k in
    let none : g.row.MORE - l.k ≡ 0 = omega arith in
    sym (l.invariant ∙ ap (λ (m : ℕ). l.tops && is_number m l.rest) none)
