-- The first numbers of `report::text::Writer::fields` are written. Assumes nothing.
use Rattle.std.proofs.Common.{take}
use Rattle.report.specs.Text.{fields}
use Rattle.report.specs.Writing.{Wrote}
use Rattle.report.proofs.text.Writer.fields.Given as goal

abbrev pub invariant-loop-number : goal.invariant-loop-number
invariant-loop-number l = Wrote l.initial.self (fields (take l.number-index l.numbers)) l.self
