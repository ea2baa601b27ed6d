-- The measure of `report::text::Writer::decimal` is the number.
use Rattle.report.proofs.text.Writer.+decimal.Given as goal

abbrev pub decreases-decimal : goal.decreases-decimal
decreases-decimal l = l.x
