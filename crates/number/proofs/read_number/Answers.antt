-- `number::read_number` meets its contract: group by group. Assumes nothing.
use Rattle.std.proofs.Common.{◌≡◌, ℕ, ◌+◌, ◌-◌, ◌*◌, ◌^◌, List, Result, get_or, refl, sym, ap, ◌∙◌, arith}
use native.Mathlib.Nat.{mul-le-mul_left, pow-suc}
use native.Mathlib.Numerals.{add-one}
use Rattle.refusal.specs.Refusal.{answer_of}
use Rattle.refusal.specs.declared.Refusal.{Refusal}
use Rattle.number.specs.declared.Reading.{Reading}
use Rattle.number.specs.Number.{number, read_number, number_at}
use Rattle.number.specs.Groups.{read_after_groups}
use Rattle.number.proofs.GroupWalk.{read_none, read_one, read_first, read_cut_short, read_more, read_needless, read_whole, read_overlong, group_less, most_weight}
use Rattle.number.proofs.read_number.Goals as goal

-- By the paper's numbers too.
reading : (s : List ℕ) (at : ℕ) (r : Result Reading Refusal) → r ≡ read_number s at → answer_of r ≡ number_at s at
unfolding number_at
reading s at r e = ap answer_of e

pub returns-then-s-at : goal.returns-then-s-at
returns-then-s-at c =
    let e = sym (read_none c.args.s.now c.args.at c.if-s-at.true) in
    record { value = e; reading = reading c.args.s.now c.args.at _ e }

pub returns-then-first-lt128 : goal.returns-then-first-lt128
returns-then-first-lt128 c =
    let e = sym (read_one c.args.s.now c.args.at c.if-s-at.false c.if-first-lt128.true) in
    record { value = e; reading = reading c.args.s.now c.args.at _ e }

pub loop-passed-init : goal.loop-passed-init
loop-passed-init c =
    (refl, omega (arith, c.type_inv.s c.args.at), read_first c.args.s.now c.args.at c.if-s-at.false c.if-first-lt128.false)

pub returns-then-s-here : goal.returns-then-s-here
returns-then-s-here c =
    let l = c.loop-passed in
    let e = sym (l.invariant.2 ∙ read_cut_short l.low l.weight l.passed c.args.s.now c.args.at (omega arith) c.if-s-here.true) in
    record { value = e; reading = reading c.args.s.now c.args.at _ e }

pub overflow_mul-value : goal.overflow_mul-value
overflow_mul-value c =
    let l = c.loop-passed in
    let b = get_or c.args.s.now (c.args.at + l.passed) 0 in
    let room = mul-le-mul_left {m = b} {n = 255} l.weight (omega (arith, c.type_inv.s (c.args.at + l.passed))) in
    omega (arith, most_weight l.weight l.passed (omega arith) l.invariant.0)

pub overflow_add-value : goal.overflow_add-value
overflow_add-value c =
    let l = c.loop-passed in
    let b = get_or c.args.s.now (c.args.at + l.passed) 0 in
    let room = mul-le-mul_left {m = b} {n = 255} l.weight (omega (arith, c.type_inv.s (c.args.at + l.passed))) in
    omega (arith, most_weight l.weight l.passed (omega arith) l.invariant.0)

pub returns-then-b-eq0 : goal.returns-then-b-eq0
returns-then-b-eq0 c =
    let l = c.loop-passed in
    let e =
    sym (l.invariant.2 ∙ read_needless l.low l.weight l.passed c.args.s.now c.args.at (omega arith) (omega arith) (omega arith) l.invariant.0 l.invariant.1
    c.if-b-eq0.true) in
    record { value = e; reading = reading c.args.s.now c.args.at _ e }

pub returns-then-b-lt128 : goal.returns-then-b-lt128
returns-then-b-lt128 c =
    let l = c.loop-passed in
    let b = get_or c.args.s.now (c.args.at + l.passed) 0 in
    let room = mul-le-mul_left {m = b} {n = 127} l.weight (omega arith) in
    let next : c.args.at + l.passed + 1 ≡ c.args.at + (l.passed + 1) = omega arith in
    let e =
    ap (number (l.low + l.weight * b)) next
    ∙ sym (l.invariant.2 ∙ read_whole l.low l.weight l.passed c.args.s.now c.args.at (omega arith) (omega arith) (omega arith) l.invariant.0 l.invariant.1
    (omega arith) c.if-b-lt128.true (omega (arith, most_weight l.weight l.passed (omega arith) l.invariant.0))) in
    record { value = e; reading = reading c.args.s.now c.args.at _ e }

pub overflow_mul-weight : goal.overflow_mul-weight
overflow_mul-weight c = omega (arith, most_weight c.loop-passed.weight c.loop-passed.passed (omega arith) c.loop-passed.invariant.0)

pub loop-passed-preserved : goal.loop-passed-preserved
loop-passed-preserved c =
    let l = c.loop-passed in
    let s = c.args.s.now in
    let at = c.args.at in
    let b = get_or s (at + l.passed) 0 in
    let room = mul-le-mul_left {m = b - 128} {n = 127} l.weight (omega (arith, c.type_inv.s (at + l.passed))) in
    let less = group_less l.low l.weight b c.if-b-lt128.false in (
      rw l.invariant.0 (sym (pow-suc 128 l.passed) ∙ ap (λ (k : ℕ). 128 ^ k) (sym (add-one l.passed))),
      omega arith,
      l.invariant.2
          ∙ read_more l.low l.weight l.passed s at (omega arith) (omega arith) c.if-b-lt128.false
          ∙ ap (λ (m : ℕ). read_after_groups m (l.weight * 128) (l.passed + 1) s at) (sym less),
    )

pub returns : goal.returns
returns c =
    let l = c.loop-passed in
    let six : l.passed ≡ 6 = omega arith in
    let e =
    sym (l.invariant.2 ∙ ap (λ (k : ℕ). read_after_groups l.low l.weight k c.args.s.now c.args.at) six
    ∙ read_overlong l.low l.weight c.args.s.now c.args.at) in
    record { value = e; reading = reading c.args.s.now c.args.at _ e }
