-- `report::report` meets its contract: the report is written where the memory has room for every report. Assumes nothing.
use Rattle.std.proofs.Common.{rules, ◌∙◌}
use Rattle.report.proofs.CallLaws.{text_short, text_printed}
use Rattle.report.proofs.report.Goals as goal

pub returns-then-text-lt32768-clause-value : goal.returns-then-text-lt32768-clause-value
returns-then-text-lt32768-clause-value c = (text_short c.args.job.now c.args.text.now c.if-text-lt32768.true).0

pub returns-then-text-lt32768-clause-text_after : goal.returns-then-text-lt32768-clause-text_after
returns-then-text-lt32768-clause-text_after c = (text_short c.args.job.now c.args.text.now c.if-text-lt32768.true).1

pub returns-clause-value : goal.returns-clause-value
returns-clause-value c = (text_printed c.args.job.now c.args.text.now c.if-text-lt32768.false c.put_report.ensures.written).0

pub returns-clause-text_after : goal.returns-clause-text_after
returns-clause-text_after c =
    (search rules) ∙ (text_printed c.args.job.now c.args.text.now c.if-text-lt32768.false c.put_report.ensures.written).1
