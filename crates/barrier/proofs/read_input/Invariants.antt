-- `barrier::read_input` stays within the memory: what is read so far is in it, and its length does not change. Assumes nothing.
use Rattle.std.proofs.Common.{length, take, ◌-◌, ◌≡◌, ◌≤◌}
use Rattle.std.specs.Io.KnownBytes.{Consumes}
use Rattle.barrier.proofs.read_input.Given as goal

-- What was read stands in the memory, whose length is its own: it is what the input has given.
abbrev pub invariant-loop-read : goal.invariant-loop-read
invariant-loop-read g l =
    (l.read ≤ length l.job) × (length l.job ≡ length l.initial.job)
    × Consumes (g.R.Read.remaining l.initial.input) (g.R.Read.remaining l.input) (take l.read l.job)

abbrev pub decreases-loop-read : goal.decreases-loop-read
decreases-loop-read g l = length l.initial.job - l.read
