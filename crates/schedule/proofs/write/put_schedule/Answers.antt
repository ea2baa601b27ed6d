-- The records are put one behind the other.
-- Assumes nothing.
use native.Mathlib.Omega.{arith}
use mathlib.Core.Path.{◌≡◌, subst}
use Prim.Native.Nat.{ℕ}
use Rattle.runs.proofs.StoredLaws.{count_top}
use Rattle.schedule.proofs.WriteLaws.{run_fits}
use Rattle.schedule.proofs.RecordLaws.{Put, whole_length, put_none, put_room, put_more, put_all}
use Rattle.schedule.proofs.write.put_schedule.Goals as goal

pub put_number-at-requires-clause-x_le_greatest_number : goal.put_number-at-requires-clause-x_le_greatest_number
put_number-at-requires-clause-x_le_greatest_number c =
    let l = c.args.runs.list.now in omega (arith, count_top l.starts l.ends l.levels l.count c.args.runs.run_list)

pub put_number-at-requires-clause-number_fits : goal.put_number-at-requires-clause-number_fits
put_number-at-requires-clause-number_fits c = omega (arith, whole_length c.args.runs.list.now, c.requires)

pub loop-i-init : goal.loop-i-init
loop-i-init c =
    let l = c.args.runs.list.now in
    record {
      few = count_top l.starts l.ends l.levels l.count c.args.runs.run_list;
      put = put_none l c.put_number-at.new.out c.put_number-at.ensures.value;
    }

pub put_record-at-requires-clause-record_fits : goal.put_record-at-requires-clause-record_fits
put_record-at-requires-clause-record_fits c =
    let l = c.args.runs.list.now in
    rw (c.run_at-run.ensures, c.loop-i.invariant.put.ended) (run_fits l.starts l.ends l.levels l.count c.loop-i.i c.args.runs.run_list c.loop-i-test.true)

pub put_record-at-requires-clause-room_for_record : goal.put_record-at-requires-clause-room_for_record
put_record-at-requires-clause-room_for_record c =
    rw c.run_at-run.ensures
    (put_room c.args.runs.list.now _ c.args.out.now c.put_number-at.ensures.out_after c.requires c.loop-i.invariant.put c.loop-i-test.true)

pub loop-i-preserved : goal.loop-i-preserved
loop-i-preserved c =
    let written = rw c.run_at-run.ensures at c.put_record-at.ensures in
    record {
      few = c.loop-i.invariant.few;
      put = rw c.run_at-run.ensures
          (put_more c.args.runs.list.now _ c.args.out.now c.put_number-at.ensures.out_after c.requires c.loop-i.invariant.put
          c.loop-i-test.true written.value written.out_after);
    }

pub returns : goal.returns
returns c =
    let l = c.args.runs.list.now in
    let done : c.loop-i.i ≡ l.count = omega (arith, c.loop-i-test.false, c.loop-i.auto.i-end) in
    let all = put_all l _ c.args.out.now c.put_number-at.ensures.out_after c.requires
    (subst (λ (i : ℕ). Put l c.put_number-at.new.out c.loop-i.out c.loop-i.at c.loop-i.end i) done c.loop-i.invariant.put) in
    record { value = all.0; out_after = all.1 }
