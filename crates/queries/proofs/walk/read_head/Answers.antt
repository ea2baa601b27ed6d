-- `queries::walk::read_head`: a number, and its test. Assumes nothing.
use mathlib.Core.Path.{sym, ap}
use borrow.Author.Tests.{le-leb, lt-leb}
use Rattle.number.specs.Number.{number_at, read_number}
use Rattle.runs.specs.RunList.{most_runs}
use Rattle.schedule.specs.Schedule.{read_head}
use Rattle.queries.specs.Walk.{as_head}
use Rattle.queries.proofs.WalkLaws.{none_found, some_found, no_number}
use Rattle.queries.proofs.walk.read_head.Goals as goal

pub returns-in_default : goal.returns-in_default
unfolding read_head number_at
returns-in_default c =
    let r = read_number c.args.s.now 0 in ap as_head (sym (no_number 0 _ r (none_found r _ c.find_number.ensures c.in_default.not-Some)))

pub returns-then-count-gt511 : goal.returns-then-count-gt511
unfolding read_head number_at
returns-then-count-gt511 c = rw (some_found _ _ c.find_number.ensures _ c.in-Some.is, lt-leb _ most_runs c.if-count-gt511.true)

pub returns : goal.returns
unfolding read_head number_at
returns c = rw (some_found _ _ c.find_number.ensures _ c.in-Some.is, le-leb _ most_runs c.if-count-gt511.false)
