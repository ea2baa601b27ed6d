-- The writing of `rest`, stored from `i` on, gives what the writing of `x`, stored from `at` on, gives. The measure is `rest`.
use Rattle.std.specs.Prelude.{◌≡◌, ◌+◌, ◌≤◌, length}
use lib.Seq.{sets}
use Rattle.number.specs.Number.{write_number, greatest_number}
use Rattle.number.proofs.put_number.Given as goal

abbrev pub invariant-loop-rest : goal.invariant-loop-rest
invariant-loop-rest l =
    (l.rest ≤ greatest_number) × (l.i + length (write_number l.rest) ≡ l.at + length (write_number l.x)) × (length l.out ≡ length l.initial.out)
    × (sets l.out l.i (write_number l.rest) ≡ sets l.initial.out l.at (write_number l.x))

abbrev pub decreases-loop-rest : goal.decreases-loop-rest
decreases-loop-rest l = l.rest
