use Rattle.std.proofs.Common.{◌≡◌, ◌*◌, drop}
use Rattle.queries.specs.Ranges.{are_ranges}
use Rattle.queries.proofs.quantities.are_ranges.Given as goal

-- The numbers are ranges where those from the range `i` on are.
abbrev pub invariant-loop-i : goal.invariant-loop-i
invariant-loop-i l = are_ranges l.numbers ≡ are_ranges (drop (2 * l.i) l.numbers)
