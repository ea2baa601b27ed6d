-- `report::text::Writer::decimal`, which calls itself, meets its contract: the digits of a number are those of its tenth part and the last one.
-- Assumes nothing.
use Rattle.std.proofs.Common.{arith, ◌≡◌, ap, [], ◌∷◌, ◌++◌, ◌/◌, length, length-append}
use Rattle.report.specs.Text.{digit, decimal}
use Rattle.report.proofs.TextLaws.{wrote_more, wrote_room}
use Rattle.report.proofs.DigitLaws.{decimal_one, decimal_more}
use Rattle.report.proofs.text.Writer.+decimal.Goals as goal
use Rattle.report.proofs.text.Writer.+decimal.Goals.{then-x-ge10, else-x-ge10}

-- a number with several digits, and the room for them
pub decimal-requires : goal.decimal-requires
decimal-requires t c =
    let x = c.args.x in
    let more : decimal x ≡ decimal (x / 10) ++ digit x ∷ [] = decimal_more x c.if-x-ge10.true (omega arith) in
    (omega (arith, c.decreases), omega (arith, c.requires, ap length more, length-append (decimal (x / 10)) (digit x ∷ [])))

pub byte-requires : goal.byte-requires
byte-requires t c =
    let x = c.args.x in
    elim c.if-x-ge10.branch [
      | then-x-ge10 w ↦ rw w.self-is
          (wrote_room w.decimal.ensures (digit x ∷ []) (rw (decimal_more x w.if-x-ge10.true (omega arith)) at c.requires))
      | else-x-ge10 w ↦ rw w.self-is (omega (arith, c.requires, ap length (decimal_one x w.if-x-ge10.false)))
    ]

pub returns : goal.returns
returns t c =
    let x = c.args.x in
    elim c.if-x-ge10.branch [
      | then-x-ge10 w ↦
          let more : decimal x ≡ decimal (x / 10) ++ digit x ∷ [] = decimal_more x w.if-x-ge10.true (omega arith) in
          rw more (wrote_more w.decimal.ensures (digit x ∷ []) (rw more at c.requires) (rw (w.self-is, c.digit.ensures) at c.byte.ensures))
      | else-x-ge10 w ↦ rw (decimal_one x w.if-x-ge10.false) (rw (w.self-is, c.digit.ensures) at c.byte.ensures)
    ]
