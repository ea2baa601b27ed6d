-- `queries::walk::walk`: the head, a record, and the end. Assumes nothing.
use mathlib.Core.Path.{◌≡◌, refl, sym, ap, ◌∙◌}
use Prim.Native.Nat.{◌+◌, ◌-◌}
use native.Mathlib.Omega.{arith}
use Rattle.base.specs.Answer.{accepted}
use Rattle.refusal.proofs.RefuseLaws.{passed_on}
use Rattle.number.proofs.ByteLaws.{index_bytes}
use Rattle.queries.specs.Walk.{run_count}
use Rattle.queries.proofs.StepLaws.{given_refused, head_is, record_is, count_head, walk_start, record_follows, walk_passed, walk_refused, walk_over, walk_left_over}
use Rattle.queries.proofs.walk.walk.Goals as goal

pub returns-in_err-head-clause-count : goal.returns-in_err-head-clause-count
returns-in_err-head-clause-count g c =
    passed_on c.from_residual.result c.in_err-head.field-0.0 c.from_residual.ensures.1
    ∙ count_head _ _ _ c.in_err-head.ensures

pub loop-passed-init : goal.loop-passed-init
loop-passed-init g c =
    let h = c.in_ok-head.head in
    let all : h.count - 0 ≡ h.count = omega arith in
    let found = head_is _ h c.in_ok-head.ensures in
    record {
      known = rw all (c.requires _ (index_bytes _ (λ i. omega (arith, c.type_inv.s i))) found);
      ends = omega arith;
      counts = rw all (walk_start _ _ found _ _ (λ rs e. omega arith));
    }

pub returns-in_err-read-clause-count : goal.returns-in_err-read-clause-count
unfolding run_count
returns-in_err-read-clause-count g c =
    passed_on c.from_residual-in_err-read.result c.in_err-read.field-0.0 c.from_residual-in_err-read.ensures.1
    ∙ walk_refused c.loop-passed.invariant.counts _ _ (omega arith) (given_refused _ _ _ _ (sym c.in_err-read.ensures))

pub visit-requires : goal.visit-requires
visit-requires g c =
    let reads = record_is _ _ c.in_ok-read.ensures in
    (c.args.s.now, _, record { bytes = index_bytes _ (λ i. omega (arith, c.type_inv.s i)); some = omega arith; here = refl; reads = reads }, c.loop-passed.invariant.known)

pub loop-passed-preserved : goal.loop-passed-preserved
loop-passed-preserved g c =
    let l = c.loop-passed in
    let h = c.in_ok-head.head in
    let one_less : h.count - (l.passed + 1) ≡ h.count - l.passed - 1 = omega arith in
    let reads = record_is _ _ c.in_ok-read.ensures in
    record {
      known = rw one_less (c.visit.ensures _ _ (record { bytes = index_bytes _ (λ i. omega (arith, c.type_inv.s i)); some = omega arith; here = refl; reads = reads })
          l.invariant.known);
      ends = (record_follows _ _ _ _ _ reads).ends;
      counts = rw one_less (walk_passed l.invariant.counts _ _ (omega arith) reads (λ rs. omega arith));
    }

pub returns-then-at-s-clause-count : goal.returns-then-at-s-clause-count
unfolding run_count
returns-then-at-s-clause-count g c = walk_left_over c.loop-passed.invariant.counts (omega arith) (λ e. absurd (omega arith))

pub returns-clause-count : goal.returns-clause-count
unfolding run_count
returns-clause-count g c =
    ap accepted (let all : c.in_ok-head.head.count ≡ c.loop-passed.passed + 0 = omega arith in all)
    ∙ walk_over c.loop-passed.invariant.counts (omega arith) (omega arith)
