-- The states that were passed are sound.
use Rattle.std.proofs.Common.{◌≡◌, true, take}
use Rattle.base.specs.Choice.{all_of}
use Rattle.open_job.specs.Parts.{passes}
use Rattle.open_job.proofs.memory.each_is_sound.Given as goal

abbrev pub invariant-loop-kept : goal.invariant-loop-kept
invariant-loop-kept l = all_of (passes l.limits) (take l.kept-index l.states) ≡ true
