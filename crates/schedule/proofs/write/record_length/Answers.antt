-- A record is as long as its three numbers.
-- Assumes nothing.
use Prim.Native.Nat.{ℕ, ◌-◌, ◌≤◌}
use native.Mathlib.Omega.{arith}
use Rattle.number.specs.Number.{greatest_number, group_count}
use Rattle.number.proofs.WriteLaws.{number_length, group_count_lem}
use Rattle.schedule.proofs.WriteLaws.{record_groups}
use Rattle.schedule.proofs.write.record_length.Goals as goal

-- A group count is at most 6.
short : (n : ℕ) → n ≤ greatest_number → group_count n ≤ 6
short n h = omega (arith, group_count_lem n h, number_length n)

pub overflow_add-result : goal.overflow_add-result
overflow_add-result c =
    let r = c.args.run in
    let f = c.requires in
    omega (
      arith,
      c.group_count.ensures,
      c.group_count-2.ensures,
      short (r.start - c.args.end) (omega (arith, f.long, f.ends)),
      short (r.end - r.start) (omega (arith, f.ends)),
    )

pub overflow_add-result-2 : goal.overflow_add-result-2
overflow_add-result-2 c =
    let r = c.args.run in
    let f = c.requires in
    omega (
      arith,
      c.group_count.ensures,
      c.group_count-2.ensures,
      c.group_count-3.ensures,
      short (r.start - c.args.end) (omega (arith, f.long, f.ends)),
      short (r.end - r.start) (omega (arith, f.ends)),
      short r.level (omega (arith, f.top)),
    )

pub returns : goal.returns
returns c =
    omega (arith, c.group_count.ensures, c.group_count-2.ensures, c.group_count-3.ensures, record_groups c.args.end c.args.run c.requires)
