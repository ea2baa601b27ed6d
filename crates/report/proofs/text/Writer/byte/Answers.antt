-- `report::text::Writer::byte` meets its contract: one store. Assumes nothing.
use Rattle.std.proofs.Common.{refl}
use Rattle.report.proofs.TextLaws.{written_byte}
use Rattle.report.proofs.text.Writer.byte.Goals as goal

pub returns : goal.returns
returns c =
    let w = c.args.self.now in
    record { same_memory = refl; written = written_byte w.text.now w.at c.args.byte c.requires }
