-- Assumes nothing.
use Rattle.std.proofs.Common.{◌<◌, length, get_or, sym, ap, subst, arith, rules}
use Rattle.runs.specs.Sweep.{distinct_to}
use Rattle.runs.proofs.TopLaws.{distinct_some, count_falls, count_distinct}
use Rattle.runs.proofs.PlaceLaws.{breaks_push}
use Rattle.runs.proofs.StandLaws.{Standing, standing_fall, standing_end}
use Rattle.runs.proofs.sweep.drain.Goals as goal

pub returns-then-s-t : goal.returns-then-s-t
returns-then-s-t c =
    let i = c.loop-level.invariant in
    record { within = i.2; stands = λ es G u h st. standing_end (i.3 es G u h st) (λ _. c.if-s-t.true) }

-- While the level is not 0 there is a place left.
pub bounds-starts-count : goal.bounds-starts-count
bounds-starts-count c =
    let l = c.loop-level in
    omega (arith, distinct_some c.args.tops.now.ends l.level.number c.loop-level-test.true, l.invariant, c.requires.within)

pub bounds-levels-count : goal.bounds-levels-count
bounds-levels-count c =
    let l = c.loop-level in
    omega (arith, distinct_some c.args.tops.now.ends l.level.number c.loop-level-test.true, l.invariant, c.requires.within)

pub loop-level-smaller : goal.loop-level-smaller
loop-level-smaller c =
    omega (arith, count_falls c.args.tops.now.ends c.args.tops.now.falling c.loop-level.level.number c.loop-level-test.true, c.above-level.ensures)

pub loop-level-preserved : goal.loop-level-preserved
loop-level-preserved c =
    let l = c.loop-level in
    let a = c.args in
    let d = c.above-level.result.number in
    let fewer = count_distinct a.tops.now.ends a.tops.now.falling l.level.number c.loop-level-test.true (l.level.small) in
    let place : l.count < length l.starts =
    omega (arith, distinct_some a.tops.now.ends l.level.number c.loop-level-test.true, l.invariant, c.requires.within) in
    let pushed = breaks_push l.starts l.levels l.count (get_or a.tops.now.ends l.level.number 0) d (omega (arith, place)) (omega (arith, place)) in (
      search rules,
      search rules,
      omega (arith, fewer, ap (distinct_to a.tops.now.ends) c.above-level.ensures, l.invariant.2),
      λ es G u h st. subst (Standing es G a.s a.tops.now.ends d) (sym pushed)
          (standing_fall (l.invariant.3 es G u h st) d c.above-level.ensures c.loop-level-test.true c.if-s-t.false),
    )

pub returns : goal.returns
returns c =
    let i = c.loop-level.invariant in
    record { within = i.2; stands = λ es G u h st. standing_end (i.3 es G u h st) (λ p. absurd (omega arith)) }
