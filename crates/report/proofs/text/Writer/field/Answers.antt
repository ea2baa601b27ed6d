-- `report::text::Writer::field` meets its contract: a space, and the digits behind it. Assumes nothing.
use Rattle.report.specs.Text.{decimal}
use Rattle.report.proofs.TextLaws.{wrote_more, wrote_room}
use Rattle.report.proofs.text.Writer.field.Goals as goal

pub decimal-requires : goal.decimal-requires
decimal-requires c = wrote_room c.byte.ensures (decimal c.args.x) c.requires

pub returns : goal.returns
returns c = wrote_more c.byte.ensures (decimal c.args.x) c.requires c.decimal.ensures
