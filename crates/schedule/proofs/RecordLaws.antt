-- A schedule that is put record by record.
-- Assumes nothing.
use Prim.Native.Nat.{ℕ, ◌+◌, ◌≤◌, ◌<◌}
use native.Mathlib.Omega.{arith}
use native.Mathlib.Nat.{zero-add}
use mathlib.Core.Path.{◌≡◌, sym, ap, ◌∙◌}
use mathlib.Core.List.{List, ◌++◌}
use lib.ListN.{length, length-append}
use Rattle.number.specs.Number.{write_number, placed}
use Rattle.number.proofs.PlaceLaws.{placed_append, placed_length, placed_none}
use Rattle.runs.specs.declared.RunList.{RunList}
use Rattle.runs.specs.RunList.{runs_of, last_end}
use Rattle.runs.proofs.StoredLaws.{first_runs, runs_length}
use Rattle.schedule.specs.Schedule.{write_record, write_records, write_schedule}
use Rattle.schedule.specs.Writing.{run_at}
use Rattle.schedule.proofs.WriteLaws.{records_more, records_within, last_more, records_none, last_none}

module _ (l : RunList) where
  -- The run count's length, the first i records, where they end, and record i.
  abbrev head : ℕ
  head = length (write_number l.count)

  abbrev records : ℕ → List ℕ
  records i = write_records 0 (first_runs l.starts l.ends l.levels i)

  abbrev pub end_at : ℕ → ℕ
  end_at i = last_end 0 (first_runs l.starts l.ends l.levels i)

  abbrev record_at : ℕ → List ℕ
  record_at i = write_record (end_at i) (run_at l i)

  whole : write_schedule (runs_of l) ≡ write_number l.count ++ records l.count
  unfolding write_schedule
  whole = rw (runs_length l.starts l.ends l.levels l.count)

  pub whole_length : length (write_schedule (runs_of l)) ≡ head + length (records l.count)
  whole_length = ap length whole ∙ length-append (write_number l.count) (records l.count)

  -- Behind the run count, which is put first, the first i records are put.
  pub record Put (first out : List ℕ) (at end i : ℕ) : Type 0 where
    pub index : at ≡ head + length (records i)
    pub ended : end ≡ end_at i
    pub bytes : out ≡ placed first head (records i)

  module _ (first : List ℕ) where
    pub put_none : {at : ℕ} → at ≡ 0 + head → Put first first at 0 0
    put_none e =
        let none = records_none l.starts l.ends l.levels in
        record {
          index = omega (arith, e, ap length none);
          ended = sym (last_none l.starts l.ends l.levels);
          bytes = rw none (sym (placed_none first head));
        }

    module _ (s : List ℕ) (is : first ≡ placed s 0 (write_number l.count)) (fits : length (write_schedule (runs_of l)) ≤ length s) {out : List ℕ}
        {at end i : ℕ} (p : Put first out at end i) where
      same_length : length out ≡ length s
      same_length = ap length p.bytes ∙ placed_length first head (records i) ∙ ap length is ∙ placed_length s 0 (write_number l.count)

      within : i < l.count → head + length (records i) + length (record_at i) ≤ length s
      within h = omega (arith, whole_length, fits, records_within l.starts l.ends l.levels i l.count h)

      pub put_room : i < l.count → at + length (write_record end (run_at l i)) ≤ length out
      put_room h = rw p.ended (omega (arith, same_length, p.index, within h))

      -- One record more.
      pub put_more : i < l.count → {next : ℕ} {new : List ℕ} → next ≡ at + length (write_record end (run_at l i))
          → new ≡ placed out at (write_record end (run_at l i)) → Put first new next (run_at l i).end (i + 1)
      put_more h n w =
          let more = records_more l.starts l.ends l.levels i in
          let room : head + length (records i) + length (record_at i) ≤ length first =
          omega (arith, within h, ap length is, placed_length s 0 (write_number l.count)) in
          record {
            index = n ∙ rw (p.index, p.ended, more, length-append (records i) (record_at i)) (omega arith);
            ended = sym (last_more l.starts l.ends l.levels i);
            bytes = w ∙ rw (p.index, p.ended, p.bytes, more) (placed_append first head (records i) (record_at i) room);
          }

    -- All of them are the schedule.
    pub put_all : (s : List ℕ) → first ≡ placed s 0 (write_number l.count) → length (write_schedule (runs_of l)) ≤ length s
        → {out : List ℕ} {at end : ℕ} → Put first out at end l.count
        → (at ≡ length (write_schedule (runs_of l))) × (out ≡ placed s 0 (write_schedule (runs_of l)))
    put_all s is room p =
        let fits : 0 + head + length (records l.count) ≤ length s = omega (arith, whole_length, room) in (
          p.index ∙ sym whole_length,
          p.bytes ∙ rw (is, whole) (rw (zero-add head) at (placed_append s 0 (write_number l.count) (records l.count) fits)),
        )
