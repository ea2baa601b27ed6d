-- The records are counted one by one.
-- Assumes nothing.
use native.Mathlib.Omega.{arith}
use mathlib.Core.Path.{◌≡◌, sym, ap}
use lib.ListN.{length, length-append}
use Rattle.number.proofs.WriteLaws.{number_length, group_count_lem}
use Rattle.runs.proofs.StoredLaws.{run, runs_length, count_top}
use Rattle.schedule.specs.Schedule.{write_schedule}
use Rattle.schedule.proofs.WriteLaws.{run_fits, record_short, records_more, last_more, records_none, last_none}
use Rattle.schedule.proofs.write.schedule_length.Goals as goal

pub loop-i-init : goal.loop-i-init
loop-i-init c =
    let l = c.args.runs.list.now in
    let top = count_top l.starts l.ends l.levels l.count c.args.runs.run_list in
    let g = group_count_lem l.count (omega (arith, top)) in
    record {
      few = top;
      size = omega (arith, c.group_count-bytes.ensures, g, number_length l.count);
      written = omega (arith, c.group_count-bytes.ensures, g, ap length (records_none l.starts l.ends l.levels));
      ended = sym (last_none l.starts l.ends l.levels);
    }

pub record_length-bytes-requires : goal.record_length-bytes-requires
record_length-bytes-requires c =
    let l = c.args.runs.list.now in
    rw (c.run_at-run.ensures, c.loop-i.invariant.ended) (run_fits l.starts l.ends l.levels l.count c.loop-i.i c.args.runs.run_list c.loop-i-test.true)

pub overflow_add-bytes : goal.overflow_add-bytes
overflow_add-bytes c =
    let l = c.args.runs.list.now in
    omega (
      arith,
      c.loop-i-test.true,
      c.loop-i.invariant.few,
      c.loop-i.invariant.size,
      rw c.run_at-run.ensures at c.record_length-bytes.ensures,
      record_short c.loop-i.end (run l.starts l.ends l.levels c.loop-i.i),
    )

pub loop-i-preserved : goal.loop-i-preserved
loop-i-preserved c =
    let l = c.args.runs.list.now in
    let at = c.loop-i in
    let counted = rw c.run_at-run.ensures at c.record_length-bytes.ensures in
    record {
      few = at.invariant.few;
      size = omega (arith, at.invariant.size, counted, record_short at.end (run l.starts l.ends l.levels at.i));
      written = rw (records_more l.starts l.ends l.levels at.i, ← at.invariant.ended, length-append) (omega (arith, at.invariant.written, counted));
      ended = rw c.run_at-run.ensures (sym (last_more l.starts l.ends l.levels at.i));
    }

pub returns : goal.returns
unfolding write_schedule
returns c =
    let l = c.args.runs.list.now in
    let done : c.loop-i.i ≡ l.count = omega (arith, c.loop-i-test.false, c.loop-i.auto.i-end) in
    rw (length-append, runs_length l.starts l.ends l.levels l.count) (rw (done) at c.loop-i.invariant.written)
