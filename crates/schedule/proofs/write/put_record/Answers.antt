-- Two numbers one behind the other, and the level as a byte.
-- Assumes nothing.
use Prim.Native.Nat.{◌-◌}
use native.Mathlib.Omega.{arith}
use mathlib.Core.Path.{ap, ◌∙◌}
use lib.ListN.{length}
use Rattle.number.specs.Number.{write_number}
use Rattle.number.proofs.WriteLaws.{small_length}
use Rattle.number.proofs.PlaceLaws.{placed_length}
use Rattle.schedule.proofs.WriteLaws.{record_sum, record_placed, level_placed}
use Rattle.schedule.proofs.write.put_record.Goals as goal

pub put_number-second-requires-clause-number_fits : goal.put_number-second-requires-clause-number_fits
put_number-second-requires-clause-number_fits c = omega (arith, record_sum c.args.end c.args.run, c.requires.room_for_record)

pub put_number-third-requires-clause-number_fits : goal.put_number-third-requires-clause-number_fits
put_number-third-requires-clause-number_fits c =
    let a = c.args in
    let first = c.put_number-second in
    omega (
      arith,
      record_sum a.end a.run,
      c.requires.room_for_record,
      first.ensures.value,
      ap length first.ensures.out_after,
      placed_length a.out.now a.at (write_number (a.run.start - a.end)),
    )

pub bounds-out-third : goal.bounds-out-third
bounds-out-third c =
    let a = c.args in
    let first = c.put_number-second in
    let second = c.put_number-third in
    omega (
      arith,
      record_sum a.end a.run,
      small_length a.run.level (omega (arith, c.requires.record_fits.top)),
      c.requires.room_for_record,
      first.ensures.value,
      second.ensures.value,
      ap length first.ensures.out_after,
      placed_length a.out.now a.at (write_number (a.run.start - a.end)),
      ap length second.ensures.out_after,
      placed_length first.new.out first.result (write_number (a.run.end - a.run.start)),
    )

pub overflow_add-result : goal.overflow_add-result
overflow_add-result c = omega (arith, bounds-out-third c)

pub returns-clause-value : goal.returns-clause-value
returns-clause-value c =
    omega (
      arith,
      record_sum c.args.end c.args.run,
      small_length c.args.run.level (omega (arith, c.requires.record_fits.top)),
      c.put_number-second.ensures.value,
      c.put_number-third.ensures.value,
    )

pub returns-clause-out_after : goal.returns-clause-out_after
returns-clause-out_after c =
    let a = c.args in
    let first = c.put_number-second in
    let second = c.put_number-third in
    level_placed second.new.out second.result a.run.level (omega (arith, c.requires.record_fits.top)) (bounds-out-third c)
    ∙ rw (second.ensures.out_after, second.ensures.value, first.ensures.out_after, first.ensures.value)
    (record_placed a.out.now a.at a.end a.run c.requires.room_for_record)
