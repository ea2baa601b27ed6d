-- `report::text::Writer::fields` meets its contract: number by number. Assumes nothing.
use Rattle.std.proofs.Common.{arith, get_or}
use Rattle.report.specs.Text.{field, fields}
use Rattle.report.proofs.TextLaws.{wrote_none, wrote_more, wrote_room, fields_more, fields_within}
use Rattle.report.proofs.text.Writer.fields.Goals as goal

pub loop-number-init : goal.loop-number-init
unfolding fields
loop-number-init c = wrote_none c.args.self.now

-- in a turn there is room for one number more
pub field-requires : goal.field-requires
field-requires c =
    let l = c.loop-number in
    let numbers = c.args.numbers.now in
    wrote_room l.invariant (field (get_or numbers l.number-index 0)) (omega (arith, c.requires, fields_within numbers l.number-index (omega arith)))

pub loop-number-preserved : goal.loop-number-preserved
loop-number-preserved c =
    let l = c.loop-number in
    let numbers = c.args.numbers.now in
    rw (fields_more numbers l.number-index (omega arith))
    (wrote_more l.invariant (field (get_or numbers l.number-index 0)) (omega (arith, c.requires, fields_within numbers l.number-index (omega arith)))
    c.field.ensures)
