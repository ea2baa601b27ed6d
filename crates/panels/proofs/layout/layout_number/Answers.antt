-- `panels::layout::layout_number`: the number has 64 bits. Assumes nothing.
use Rattle.std.proofs.Common.{arith}
use Rattle.std.proofs.Math.Nat.{pow-le-pow_right}
use Rattle.panels.proofs.layout.layout_number.Goals as goal

pub pow-requires : goal.pow-requires
pow-requires c = omega (arith, pow-le-pow_right {n = 16} (omega arith) {i = c.args.number} {j = 4} (omega arith))
