-- `number::find_number` meets its contract: group by group. Assumes nothing.
use mathlib.Core.Path.{ap₂}
use Rattle.std.proofs.Common.{◌≡◌, ℕ, ◌+◌, ◌-◌, ◌*◌, ◌^◌, List, get_or, refl, sym, ap, ◌∙◌, arith}
use native.Mathlib.Nat.{mul-le-mul_left, pow-suc}
use native.Mathlib.Numerals.{add-one}
use Rattle.std.specs.Result.{result_ok}
use Rattle.number.specs.Number.{number}
use Rattle.number.specs.Groups.{read_after_groups}
use Rattle.number.proofs.GroupWalk.{read_none, read_one, read_first, read_cut_short, read_more, read_needless, read_whole, read_overlong, group_less, most_weight}
use Rattle.number.proofs.find_number.Goals as goal

pub returns-then-s-at : goal.returns-then-s-at
returns-then-s-at c =
    let e = sym (read_none c.args.s.now c.args.at c.if-s-at.true) in
    ap result_ok e

pub returns-then-first-lt128 : goal.returns-then-first-lt128
returns-then-first-lt128 c =
    let e = sym (read_one c.args.s.now c.args.at c.if-s-at.false c.if-first-lt128.true) in
    ap result_ok e

-- The byte that is read, by its index and by its group.
byte : (s : List ℕ) (next at passed : ℕ) → next ≡ at + passed → get_or s next 0 ≡ get_or s (at + passed) 0
byte s next at passed e = ap (λ (i : ℕ). get_or s i 0) e

pub loop-passed-init : goal.loop-passed-init
loop-passed-init c =
    (refl, omega (arith, c.type_inv.s c.args.at), read_first c.args.s.now c.args.at c.if-s-at.false c.if-first-lt128.false, refl)

pub returns-then-s-next : goal.returns-then-s-next
returns-then-s-next c =
    let l = c.loop-passed in
    let e = sym (l.invariant.2 ∙ read_cut_short l.low l.weight l.passed c.args.s.now c.args.at (omega arith) (omega (arith, l.invariant.3, c.if-s-next.true))) in
    ap result_ok e

pub overflow_mul-value : goal.overflow_mul-value
overflow_mul-value c =
    let l = c.loop-passed in
    let b = get_or c.args.s.now l.next 0 in
    let room = mul-le-mul_left {m = b} {n = 255} l.weight (omega (arith, c.type_inv.s l.next)) in
    omega (arith, most_weight l.weight l.passed (omega arith) l.invariant.0)

pub overflow_add-value : goal.overflow_add-value
overflow_add-value c =
    let l = c.loop-passed in
    let b = get_or c.args.s.now l.next 0 in
    let room = mul-le-mul_left {m = b} {n = 255} l.weight (omega (arith, c.type_inv.s l.next)) in
    omega (arith, most_weight l.weight l.passed (omega arith) l.invariant.0)

pub returns-then-b-eq0 : goal.returns-then-b-eq0
returns-then-b-eq0 c =
    let l = c.loop-passed in
    let same = byte c.args.s.now l.next c.args.at l.passed l.invariant.3 in
    let e =
    sym (l.invariant.2 ∙ read_needless l.low l.weight l.passed c.args.s.now c.args.at (omega arith) (omega (arith, l.invariant.3)) (omega arith) l.invariant.0
    l.invariant.1 (omega (arith, same, c.if-b-eq0.true))) in
    ap result_ok e

pub returns-then-b-lt128 : goal.returns-then-b-lt128
returns-then-b-lt128 c =
    let l = c.loop-passed in
    let same = byte c.args.s.now l.next c.args.at l.passed l.invariant.3 in
    let b = get_or c.args.s.now (c.args.at + l.passed) 0 in
    let room = mul-le-mul_left {m = b} {n = 127} l.weight (omega (arith, same)) in
    let next : l.next + 1 ≡ c.args.at + (l.passed + 1) = omega (arith, l.invariant.3) in
    let e =
    ap₂ number (ap (λ (x : ℕ). l.low + l.weight * x) same) next
    ∙ sym (l.invariant.2 ∙ read_whole l.low l.weight l.passed c.args.s.now c.args.at (omega arith) (omega (arith, l.invariant.3)) (omega arith) l.invariant.0
    l.invariant.1 (omega (arith, same)) (omega (arith, same, c.if-b-lt128.true)) (omega (arith, most_weight l.weight l.passed (omega arith) l.invariant.0))) in
    ap result_ok e

pub overflow_mul-weight : goal.overflow_mul-weight
overflow_mul-weight c = omega (arith, most_weight c.loop-passed.weight c.loop-passed.passed (omega arith) c.loop-passed.invariant.0)

pub loop-passed-preserved : goal.loop-passed-preserved
loop-passed-preserved c =
    let l = c.loop-passed in
    let s = c.args.s.now in
    let at = c.args.at in
    let b = get_or s l.next 0 in
    let same = byte s l.next at l.passed l.invariant.3 in
    let room = mul-le-mul_left {m = b - 128} {n = 127} l.weight (omega (arith, c.type_inv.s l.next)) in
    let less = group_less l.low l.weight b c.if-b-lt128.false in (
      rw l.invariant.0 (sym (pow-suc 128 l.passed) ∙ ap (λ (k : ℕ). 128 ^ k) (sym (add-one l.passed))),
      omega arith,
      l.invariant.2
          ∙ read_more l.low l.weight l.passed s at (omega arith) (omega (arith, l.invariant.3)) (omega (arith, same, c.if-b-lt128.false))
          ∙ ap (λ (x : ℕ). read_after_groups (l.low + l.weight * (x - 128)) (l.weight * 128) (l.passed + 1) s at) (sym same)
          ∙ ap (λ (m : ℕ). read_after_groups m (l.weight * 128) (l.passed + 1) s at) (sym less),
      omega (arith, l.invariant.3),
    )

pub returns : goal.returns
returns c =
    let l = c.loop-passed in
    let six : l.passed ≡ 6 = omega arith in
    let e =
    sym (l.invariant.2 ∙ ap (λ (k : ℕ). read_after_groups l.low l.weight k c.args.s.now c.args.at) six
    ∙ read_overlong l.low l.weight c.args.s.now c.args.at) in
    ap result_ok e
