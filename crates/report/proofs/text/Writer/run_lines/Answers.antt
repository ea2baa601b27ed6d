-- `report::text::Writer::run_lines` meets its contract: line by line. Assumes nothing.
use Rattle.std.proofs.Common.{arith}
use Rattle.runs.proofs.StoredLaws.{run, runs_none, count_top}
use Rattle.report.proofs.TextLaws.{wrote_none, wrote_more, wrote_room}
use Rattle.report.proofs.LineLaws.{line_of, lines_nothing, lines_more, lines_within}
use Rattle.report.proofs.text.Writer.run_lines.Goals as goal

pub loop-i-init : goal.loop-i-init
loop-i-init c =
    let l = c.args.runs.list.now in (
      count_top l.starts l.ends l.levels l.count c.args.runs.run_list,
      rw (runs_none l.starts l.ends l.levels, lines_nothing c.args.word.now) (wrote_none c.args.self.now),
    )

-- in a turn there is room for one line more
pub run_line-requires : goal.run_line-requires
run_line-requires c =
    let l = c.args.runs.list.now in
    let at = c.loop-i in
    wrote_room at.invariant.1 (line_of c.args.word.now (run l.starts l.ends l.levels at.i))
    (omega (arith, c.requires, lines_within l.starts l.ends l.levels c.args.word.now at.i l.count (omega arith)))

pub loop-i-preserved : goal.loop-i-preserved
loop-i-preserved c =
    let l = c.args.runs.list.now in
    let at = c.loop-i in (
      at.invariant.0,
      rw (lines_more l.starts l.ends l.levels c.args.word.now at.i)
          (wrote_more at.invariant.1 (line_of c.args.word.now (run l.starts l.ends l.levels at.i))
          (omega (arith, c.requires, lines_within l.starts l.ends l.levels c.args.word.now at.i l.count (omega arith))) c.run_line.ensures),
    )
