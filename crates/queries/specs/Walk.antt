-- The steps of the code that walks a schedule's records: what each part of it answers, and the sums that a walk makes.
-- Assumes nothing.
use Rattle.std.specs.Prelude.{ℕ, ◌+◌, ◌-◌, ◌≤◌, ◌<◌, min, max, ◌≡◌, List, [], ◌∷◌, length, eqb, if◌then◌else◌}
use Rattle.base.specs.Answer.{Answer, accepted, ◌>>=◌}
use Rattle.refusal.specs.Refusal.{unless_refuse}
use Rattle.refusal.specs.declared.Refusal.TheVariants as Row
use Rattle.number.specs.Number.{number_at}
use Rattle.number.specs.declared.Reading.{Reading}
use Rattle.number.specs.Form.{Bytes}
use Rattle.runs.specs.declared.Stretch.{Stretch}
use Rattle.runs.specs.RunList.{last_station, may_follow}
use Rattle.schedule.specs.Schedule.{or_ten, read_head, ReadRun, read_record, read_schedule}
use Rattle.queries.specs.declared.walk.Head.{Head}
use Rattle.queries.specs.declared.walk.Record.{Record}

-- The parts of reading that a function reads for itself: each refused with 10 at once.

abbrev pub head_at : List ℕ → Answer Reading
head_at s = or_ten (read_head s)

abbrev pub record_at : (e v : ℕ) → List ℕ → (at : ℕ) → Answer ReadRun
record_at e v s at = or_ten (read_record e v s at)

-- A record's run from its three numbers; and from two of them, where the level is still to be read.
unfoldable pub following_run : (e v gap len lev next : ℕ) → Answer ReadRun
following_run e v gap len lev next =
    let r : Stretch = record { start = e + gap; end = e + gap + len; level = lev } in
    unless_refuse (may_follow e v r) Row.Schedule >>= λ _. accepted (record { run = r; next = next })

unfoldable pub run_with_level_at : (e v gap len : ℕ) → List ℕ → (at : ℕ) → Answer ReadRun
run_with_level_at e v gap len s at = or_ten (number_at s at >>= λ lev. following_run e v gap len lev.value lev.next)

-- The same as the code's structs.

abbrev pub as_head : Answer Reading → Answer Head
as_head a = a >>= λ n. accepted (record { next = n.next; count = n.value })

abbrev pub as_record : Answer ReadRun → Answer Record
as_record a = a >>= λ p. accepted (record { next = p.next; run = p.run })

-- The walk

-- How many runs a schedule has.
unfoldable pub run_count : List ℕ → Answer ℕ
run_count s = read_schedule s >>= λ rs. accepted (length rs)

-- Between two records: how many are left, the end and the level of the run before (0 for the first), and the index of the next.
pub record Between : Type 0 where
  pub left : ℕ
  pub end : ℕ
  pub level : ℕ
  pub at : ℕ

-- Before the first record, and after one.
abbrev pub at_first : Reading → Between
at_first n = record { left = n.value; end = 0; level = 0; at = n.next }

abbrev pub after : Between → Record → Between
after b r = record { left = b.left - 1; end = r.run.end; level = r.run.level; at = r.next }

-- The next record of the bytes s is r, at an index.
pub record Next (s : List ℕ) (b : Between) (at : ℕ) (r : Record) : Type 0 where
  pub bytes : Bytes s
  pub some : 0 < b.left
  pub here : b.at ≡ at
  pub reads : record_at b.end b.level s b.at ≡ accepted (record { run = r.run; next = r.next })

-- A walk came to the end of the schedule s, and this is known there.
pub record Walked (s : List ℕ) (Knows : Between → Type 0) : Type 0 where
  pub last : Between
  pub none : last.left ≡ 0
  pub over : last.at ≡ length s
  pub ends : last.end ≤ last_station
  pub known : Knows last

-- Sums

-- How many millimetres of [p, q) a run has.
unfoldable pub overlap : Stretch → (p q : ℕ) → ℕ
overlap r p q = min q r.end - max p r.start

-- The same where the run has level v; else none.
abbrev pub overlap_at : Stretch → (v p q : ℕ) → ℕ
overlap_at r v p q = if eqb r.level v then overlap r p q else 0

-- The overlaps of the runs of level v.
unfoldable pub overlaps : List Stretch → (v p q : ℕ) → ℕ
overlaps [] v p q = 0
overlaps (r ∷ rs) v p q = overlap_at r v p q + overlaps rs v p q

-- The overlaps of the runs whose writing a schedule is.
unfoldable pub overlap_sum : List ℕ → (v p q : ℕ) → Answer ℕ
overlap_sum s v p q = read_schedule s >>= λ rs. accepted (overlaps rs v p q)
