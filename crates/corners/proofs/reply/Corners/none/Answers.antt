-- 0.0 has the bits of a positive zero.
-- Assumes nothing.
use lib.Ieee.{of_bits, of_int, neg}
use mathlib.Core.Path.{refl}
use Rattle.corners.proofs.reply.Corners.none.Goals as goal

pub returns : goal.returns
unfolding of_bits of_int neg
returns c = refl
