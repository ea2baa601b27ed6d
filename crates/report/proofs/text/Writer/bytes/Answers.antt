-- `report::text::Writer::bytes` meets its contract: the bytes are placed behind what is written. Assumes nothing.
use Rattle.std.proofs.Common.{refl}
use Rattle.report.proofs.TextLaws.{copied}
use Rattle.report.proofs.text.Writer.bytes.Goals as goal

pub returns : goal.returns
returns c =
    let w = c.args.self.now in
    record { same_memory = refl; written = record { index = refl; memory = rw c.copy_from_slice.ensures.after (copied w.text.now w.at c.args.bytes.now c.requires) } }
