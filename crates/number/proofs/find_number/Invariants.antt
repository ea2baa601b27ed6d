-- `number::find_number`: what is to be read is what is read behind the `passed` groups, which make `low`.
-- Assumes nothing.
use Rattle.std.proofs.Common.{◌≡◌, ◌+◌, ◌^◌, ◌<◌}
use Rattle.number.specs.Number.{read_number}
use Rattle.number.specs.Groups.{read_after_groups}
use Rattle.number.proofs.find_number.Given as goal

abbrev pub invariant-loop-passed : goal.invariant-loop-passed
invariant-loop-passed l = (l.weight ≡ 128 ^ l.passed) × (l.low < l.weight) × (read_number l.s l.at ≡ read_after_groups l.low l.weight l.passed l.s l.at)
    × (l.next ≡ l.at + l.passed)
