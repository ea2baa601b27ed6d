-- The schedule of one side in bytes: writing a run list, and reading it back.
-- Assumes nothing.
use Rattle.std.specs.Prelude.{ℕ, zero, suc, ◌+◌, ◌-◌, true, ◌≡◌, List, [], ◌∷◌, ◌++◌, length, leb, eqb}
use Rattle.base.specs.Answer.{Answer, accepted, refused, ◌>>=◌}
use Rattle.refusal.specs.Refusal.{unless_refuse, refusal}
use Rattle.refusal.specs.declared.Refusal.TheVariants as Row
use Rattle.number.specs.declared.Reading.{Reading}
use Rattle.number.specs.Number.{number_at, write_number}
use Rattle.runs.specs.declared.Stretch.{Stretch}
use Rattle.runs.specs.RunList.{most_runs, may_follow, is_run_list}

-- "Its start less the previous run's end (less 0 for the first), its length, its level. These three numbers are the run's record."
unfoldable pub write_record : ℕ → Stretch → List ℕ
write_record e r = write_number (r.start - e) ++ (write_number (r.end - r.start) ++ write_number r.level)

unfoldable pub write_records : ℕ → List Stretch → List ℕ
write_records e [] = []
write_records e (r ∷ rs) = write_record e r ++ write_records r.end rs

-- "The schedule is the run count, then for each run, rising," its record.
unfoldable pub write_schedule : List Stretch → List ℕ
write_schedule rs = write_number (length rs) ++ write_records 0 rs

-- In the paper's words: w is the writing of a run list.
pub record IsSchedule (w : List ℕ) : Type 0 where
  pub runs : List Stretch
  pub run_list : is_run_list runs ≡ true
  pub writes : w ≡ write_schedule runs

-- Reading: one walk, in which each part is tested as it is read.

-- "The run count": "there are up to 511 runs".
unfoldable pub read_head : List ℕ → Answer Reading
read_head s = number_at s 0 >>= λ n. unless_refuse (leb n.value most_runs) Row.Schedule >>= λ _. accepted n

-- A run, and the byte index behind its record.
pub record ReadRun : Type 0 where
  pub run : Stretch
  pub next : ℕ

-- The record at a byte index, "its start less the previous run's end (less 0 for the first), its length, its level": its run must be one that
-- may follow a run which ended at e with level v.
unfoldable pub read_record : (e v : ℕ) → List ℕ → (at : ℕ) → Answer ReadRun
read_record e v s at =
    number_at s at >>= λ gap.
    number_at s gap.next >>= λ len.
    number_at s len.next >>= λ lev.
    let r : Stretch = record { start = e + gap.value; end = e + gap.value + len.value; level = lev.value } in
    unless_refuse (may_follow e v r) Row.Schedule >>= λ _. accepted (record { run = r; next = lev.next })

-- k more records from a byte index on, "rising", and nothing behind them.
unfoldable pub read_records : (k e v : ℕ) → List ℕ → (at : ℕ) → Answer (List Stretch)
read_records zero e v s at = unless_refuse (eqb at (length s)) Row.Schedule >>= λ _. accepted []
read_records (suc k) e v s at =
    read_record e v s at >>= λ p.
    read_records k p.run.end p.run.level s p.next >>= λ rs. accepted (p.run ∷ rs)

-- Whatever is wrong, the bytes are "a schedule that isn't the writing of a run list": 10.
abbrev pub or_ten : {A : Type 0} → Answer A → Answer A
or_ten (accepted a) = accepted a
or_ten (refused k v) = refusal Row.Schedule

-- The run list whose writing the bytes are (laws read_schedule_lem, schedule_read), else 10.
unfoldable pub read_schedule : List ℕ → Answer (List Stretch)
read_schedule s = or_ten (read_head s >>= λ n. read_records n.value 0 0 s n.next)
