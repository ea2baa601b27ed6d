-- `queries::walk::following_run`: each test is a rule of run lists. Assumes nothing.
use mathlib.Core.Path.{◌≡◌, sym, ap}
use Prim.Native.Nat.{ℕ}
use native.Mathlib.Omega.{arith}
use Rattle.base.specs.Answer.{accepted, refused}
use Rattle.runs.specs.RunList.{MayFollow}
use Rattle.schedule.proofs.ScheduleLaws.{run_after}
use Rattle.queries.specs.Walk.{following_run, as_record}
use Rattle.queries.proofs.WalkLaws.{run_follows, run_refused}
use Rattle.queries.proofs.walk.following_run.Goals as goal

-- Where the run may not follow, the record is refused.
refuse : (e v gap len lev next : ℕ) → (MayFollow e v (run_after e gap len lev) → ⊥) → refused 10 0 ≡ as_record (following_run e v gap len lev next)
refuse e v gap len lev next n = ap as_record (sym (run_refused e v gap len lev next n))

-- Where it may, whether it touches the one before or not.
follow : (e v gap len lev next : ℕ) → MayFollow e v (run_after e gap len lev)
    → accepted (record { next = next; run = run_after e gap len lev }) ≡ as_record (following_run e v gap len lev next)
follow e v gap len lev next n = ap as_record (sym (run_follows e v gap len lev next n))

pub returns-then-length-eq0 : goal.returns-then-length-eq0
returns-then-length-eq0 c = refuse _ _ _ _ _ _ (λ n. omega (arith, n.long))

pub returns-then-end-gt-LAST_STATION : goal.returns-then-end-gt-LAST_STATION
returns-then-end-gt-LAST_STATION c = refuse _ _ _ _ _ _ (λ n. omega (arith, n.ends))

pub returns-then-level-eq0 : goal.returns-then-level-eq0
returns-then-level-eq0 c = refuse _ _ _ _ _ _ (λ n. omega (arith, n.low))

pub returns-then-level-gt6 : goal.returns-then-level-gt6
returns-then-level-gt6 c = refuse _ _ _ _ _ _ (λ n. omega (arith, n.top))

pub returns-then-before-level : goal.returns-then-before-level
returns-then-before-level c = refuse _ _ _ _ _ _ (λ n. n.differs (omega (arith, c.if-gap-eq0.true)) c.if-before-level.true)

pub returns-else-before-level : goal.returns-else-before-level
returns-else-before-level c =
    follow _ _ _ _ _ _
    (record { after = omega arith; long = omega arith; ends = omega arith; low = omega arith; top = omega arith; differs = λ touch same. c.if-before-level.false same })

pub returns-else-gap-eq0 : goal.returns-else-gap-eq0
returns-else-gap-eq0 c =
    follow _ _ _ _ _ _
    (record {
      after = omega arith;
      long = omega arith;
      ends = omega arith;
      low = omega arith;
      top = omega arith;
      differs = λ touch same. c.if-gap-eq0.false (omega arith);
    })
