-- `report::text::Writer::line` meets its contract: word, numbers and end, one behind the other. Assumes nothing.
use Rattle.std.proofs.Common.{[], ◌∷◌, ◌++◌, length}
use Rattle.report.specs.Text.{fields, line}
use Rattle.report.proofs.TextLaws.{wrote_more, wrote_room, first_fits}
use Rattle.report.proofs.text.Writer.line.Goals as goal

pub bytes-requires : goal.bytes-requires
unfolding line
bytes-requires c =
    let w = c.args.self.now in
    let front = first_fits w.at (c.args.word.now ++ fields c.args.numbers.now) (0x0A ∷ []) (length w.text.now) c.requires in
    first_fits w.at c.args.word.now (fields c.args.numbers.now) (length w.text.now) front

pub fields-requires : goal.fields-requires
unfolding line
fields-requires c =
    let w = c.args.self.now in
    let front = first_fits w.at (c.args.word.now ++ fields c.args.numbers.now) (0x0A ∷ []) (length w.text.now) c.requires in
    wrote_room c.bytes.ensures (fields c.args.numbers.now) front

pub byte-requires : goal.byte-requires
unfolding line
byte-requires c =
    let w = c.args.self.now in
    let front = first_fits w.at (c.args.word.now ++ fields c.args.numbers.now) (0x0A ∷ []) (length w.text.now) c.requires in
    wrote_room (wrote_more c.bytes.ensures (fields c.args.numbers.now) front c.fields.ensures) (0x0A ∷ []) c.requires

pub returns : goal.returns
unfolding line
returns c =
    let w = c.args.self.now in
    let front = first_fits w.at (c.args.word.now ++ fields c.args.numbers.now) (0x0A ∷ []) (length w.text.now) c.requires in
    wrote_more (wrote_more c.bytes.ensures (fields c.args.numbers.now) front c.fields.ensures) (0x0A ∷ []) c.requires c.byte.ensures
