-- With 5,624 bytes it has room.
-- Assumes nothing.
use native.Mathlib.Omega.{arith}
use Rattle.schedule.proofs.plan.bytes_needed.Goals as goal

pub returns-then-room-ge5624 : goal.returns-then-room-ge5624
returns-then-room-ge5624 c = (λ h. omega (arith, c.requires), λ h. absurd (omega arith))
