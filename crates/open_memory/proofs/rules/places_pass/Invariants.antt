-- What has been made of the places that were passed: the least name that may stand behind those that stand, then the bits behind them.
use Rattle.std.proofs.Common.{◌≡◌, take}
use Rattle.open_memory.specs.Steps.{low_after, bits_after}
use Rattle.open_memory.proofs.rules.places_pass.Given as goal

abbrev pub invariant-loop-place : goal.invariant-loop-place
invariant-loop-place l = l.low ≡ low_after l.limits 0 (take l.place-index l.place-items)

abbrev pub invariant-loop-place-2 : goal.invariant-loop-place-2
invariant-loop-place-2 l = l.bits ≡ bits_after 0 (take l.place-index l.place-items)
