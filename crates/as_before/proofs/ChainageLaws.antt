-- Jobs and schedules that were accepted before document 02's request 11: what each call replies to them.
-- Assumes nothing.
use Rattle.std.specs.Prelude.{if◌then◌else◌}
use Prim.Native.Nat.{ℕ, ◌+◌, ◌≤◌, ◌<◌}
use native.Mathlib.Omega.{arith}
use mathlib.Core.Path.{◌≡◌, refl, sym, subst, ap, ap₂, ◌∙◌}
use mathlib.Core.Logic.{◌⊎◌, inl, inr}
use mathlib.Core.Bool.{Bool, true, false, ◌&&◌}
use mathlib.Core.List.Memᴰ
use mathlib.Core.List.{List, [], ◌∷◌, ◌++◌, Memᴰ}
use lib.ListN.{length, length-append}
use lib.Dec.{leb, ltb}
use borrow.Author.Tests.{le-leb, lt-leb, leb-true, lt-ltb, le-ltb, ltb-true}
use Rattle.base.specs.Answer.{accepted}
use Rattle.std.proofs.lemmas.Bool.{and_from}
use Rattle.number.specs.Number.{write_in, write_number}
use Rattle.number.proofs.WriteLaws.{write_five}
use Rattle.job.specs.Job.{Job, made_from}
use Rattle.job.specs.Writing.{write_job}
use Rattle.runs.specs.declared.Stretch.{Stretch}
use Rattle.runs.specs.Level.{Has}
use Rattle.runs.specs.RunList.{last_end, Rising}
use Rattle.runs.proofs.RunLaws.{run_list_short, run_list_rising}
use Rattle.planning.specs.Envelope.{accept_job}
use Rattle.planning.specs.Required.{job_runs}
use Rattle.planning.proofs.EnvelopeLaws.{accepted_fits}
use Rattle.planning.proofs.JobRunLaws.{job_run_list}
use Rattle.planning.proofs.RoadLaws.{runs_on_road}
use Rattle.schedule.specs.Schedule.{write_record, write_records, write_schedule, read_schedule}
use Rattle.schedule.specs.Plan.{plan}
use Rattle.schedule.proofs.ScheduleLaws.{read_schedule_lem}
use Rattle.station_level.specs.Level.{level_at}
use Rattle.corners.specs.Corners.{sheet_top, on_sheet, corners_of}
use Rattle.clear_offset.specs.Offset.{smallest_offset}
use Rattle.queries.specs.Quantity.{quantity}
use Rattle.queries.specs.Ranges.{quantities}
use Rattle.queries.specs.Lookup.{Found, found, nowhere, find_record, place_in, lookup}
use Rattle.open_promises.proofs.OpeningLaws.{opening_accepted}
use Rattle.open_promises.proofs.ListLaws.{schedule_promise}
use Rattle.report.specs.Text.{reported}
use Rattle.as_before.specs.AcceptedBefore.{written_before, RunsBefore, record_numbers, all_record_numbers, schedule_before}
use Rattle.as_before.specs.Chainage.{planned_before, LookedUp, JobsBefore11, SchedulesBefore11}
use Rattle.as_before.proofs.FiveByteLaws.{record_five, records_five, schedule_five}
use Rattle.as_before.proofs.AcceptedLaws.{road_before, before_accepted}

-- Jobs

written : (rs : List Stretch) → RunsBefore rs → write_schedule rs ≡ schedule_before rs
written rs b = schedule_five rs (run_list_short rs b.run_list) (run_list_rising rs b.run_list) b.ends

-- An accepted job whose road ended by 2,000,000,000.
module _ (s : List ℕ) (j : Job) (is : accept_job s ≡ accepted j) (road : j.header.end ≤ 2000000000) where
  job_runs_before : (side : ℕ) → RunsBefore (job_runs j side)
  job_runs_before side =
      let fits = accepted_fits s j is in
      record { run_list = job_run_list j side fits; ends = λ r m. omega (arith, (runs_on_road j side fits r m).1, road) }

  job_planned : (side room : ℕ) → plan s side room ≡ planned_before j side room
  unfolding plan
  job_planned side room = rw (is, written (job_runs j side) (job_runs_before side))

off : (x y : ℕ) → (1000000000000 < x) ⊎ (1000000000000 < y) → on_sheet x y ≡ false
off x y (inl h) = rw (lt-leb x sheet_top h)
off x y (inr h) = and_false (leb x sheet_top) (lt-leb y sheet_top h)
  where
    and_false : (a : Bool) {b : Bool} → b ≡ false → a && b ≡ false
    and_false true e = e
    and_false false e = refl

pub jobs_before_11 : JobsBefore11
unfolding level_at corners_of smallest_offset reported
jobs_before_11 s j b =
    let is = before_accepted s j b in
    let road = road_before j.header b.header in
    record {
      accepts = is;
      replies = record {
        plans = job_planned s j is road;
        levels = λ side t. rw is;
        corners = λ index x y h k. rw (and_from _ _ (le-leb x sheet_top (omega arith)) (le-leb y sheet_top (omega arith)), is);
        off_sheet = λ index x y h. rw (off x y h);
        offsets = λ index longest. rw is;
        opens = opening_accepted s j is;
        schedules = λ calls m from zs few stand side room.
            let answers = schedule_promise s j calls m from zs few stand in
            answers.planned side room ∙ job_planned (write_job (made_from j.header zs)) (made_from j.header zs) answers.job_is_accepted road side room;
        prints = rw is;
      };
      runs = job_runs_before s j is road;
    }

-- Schedules

-- A run among rising ones, after those before it.
record Among (e : ℕ) (before : List Stretch) (r : Stretch) : Type 0 where
  after : e ≤ r.start
  long : r.start < r.end
  top : r.level ≤ 6

among : (e v : ℕ) (before : List Stretch) (r : Stretch) (rest : List Stretch) → Rising e v (before ++ r ∷ rest) → Among e before r
among e v [] r rest up = record { after = up.0.after; long = up.0.long; top = up.0.top }
among e v (q ∷ qs) r rest up =
    let a = among q.end q.level qs r rest up.1 in
    record { after = omega (arith, up.0.after, up.0.long, a.after); long = a.long; top = a.top }

rising_part : (e v : ℕ) (before rest : List Stretch) → Rising e v (before ++ rest) → Rising e v before
rising_part e v [] rest up = tt
rising_part e v (q ∷ qs) rest up = (up.0, rising_part q.end q.level qs rest up.1)

-- Where its record is found.
find_run : (e v i : ℕ) (before : List Stretch) (r : Stretch) (rest : List Stretch) (t : ℕ) → Rising e v (before ++ r ∷ rest) → Has r t
    → find_record e i (before ++ r ∷ rest) t ≡ found (record { at = i + length (write_records e before); len = length (write_record (last_end e before) r) })
unfolding find_record write_records
find_run e v i [] r rest t up h =
    rw (le-leb r.start t h.0, lt-ltb t r.end h.1) (ap (λ (at : ℕ). found (record { at = at; len = length (write_record e r) })) (omega arith))
find_run e v i (q ∷ qs) r rest t up h =
    let a = among q.end q.level qs r rest up.1 in
    let place : i + length (write_record e q) + length (write_records q.end qs) ≡ i + length (write_record e q ++ write_records q.end qs) =
    rw (length-append (write_record e q) (write_records q.end qs)) (omega arith) in
    rw (le-leb q.start t (omega (arith, up.0.long, a.after, h.0)), le-ltb t q.end (omega (arith, a.after, h.0)), ← place)
    (find_run q.end q.level (i + length (write_record e q)) qs r rest t up.1 h)

find_nothing : (e i : ℕ) (rs : List Stretch) (t : ℕ) → ((r : Stretch) → Memᴰ r rs → Has r t → ⊥) → find_record e i rs t ≡ nowhere
unfolding find_record
find_nothing e i [] t none = refl
find_nothing e i (r ∷ rs) t none =
    go (leb r.start t) refl (ltb t r.end) refl (find_nothing r.end (i + length (write_record e r)) rs t (λ q m. none q (Memᴰ.tail m)))
  where
    go : (a : Bool) → leb r.start t ≡ a → (b : Bool) → ltb t r.end ≡ b → find_record r.end (i + length (write_record e r)) rs t ≡ nowhere
        → (if a && b then found (record { at = i; len = length (write_record e r) }) else find_record r.end (i + length (write_record e r)) rs t) ≡ nowhere
    go true x true y later = absurd (none r (Memᴰ.head refl) (leb-true r.start t x, ltb-true t r.end y))
    go true x false y later = later
    go false x b y later = later

module _ (rs : List Stretch) (b : RunsBefore rs) where
  abbrev w : List ℕ
  w = schedule_before rs

  is : read_schedule w ≡ accepted rs
  is = ap read_schedule (sym (written rs b)) ∙ read_schedule_lem rs b.run_list

  count_five : write_number (length rs) ≡ write_in 5 (length rs)
  count_five = write_five (length rs) (omega (arith, run_list_short rs b.run_list))

  looked : (t : ℕ) (f : Found) → find_record 0 (length (write_in 5 (length rs))) rs t ≡ f → LookedUp w t f
  unfolding lookup place_in
  looked t f e right left side same = rw (same, is, count_five, e)

  module _ (before : List Stretch) (r : Stretch) (rest : List Stretch) (t : ℕ) (split : rs ≡ before ++ r ∷ rest) (h : Has r t) where
    up : Rising 0 0 (before ++ r ∷ rest)
    up = subst (Rising 0 0) split (run_list_rising rs b.run_list)

    ends : (q : Stretch) → Memᴰ q (before ++ r ∷ rest) → q.end ≤ 2000000000
    ends = subst (λ (l : List Stretch). (q : Stretch) → Memᴰ q l → q.end ≤ 2000000000) split b.ends

    place : length (write_in 5 (length rs)) + length (write_records 0 before) ≡ length (written_before (length rs ∷ all_record_numbers 0 before))
    unfolding written_before
    place =
        ap (λ (l : List ℕ). length (write_in 5 (length rs)) + length l)
        (records_five 0 0 before (rising_part 0 0 before (r ∷ rest) up) (λ q m. ends q (Memᴰ.append_left (r ∷ rest) m)))
        ∙ sym (length-append (write_in 5 (length rs)) (written_before (all_record_numbers 0 before)))

    size : write_record (last_end 0 before) r ≡ written_before (record_numbers (last_end 0 before) r)
    size =
        let a = among 0 0 before r rest up in
        record_five (last_end 0 before) r (ends r (Memᴰ.append_right before (Memᴰ.head refl))) (omega (arith, a.long)) a.top

    found_run : find_record 0 (length (write_in 5 (length rs))) rs t
        ≡ found (record {
          at = length (written_before (length rs ∷ all_record_numbers 0 before));
          len = length (written_before (record_numbers (last_end 0 before) r));
        })
    found_run =
        ap (λ (l : List Stretch). find_record 0 (length (write_in 5 (length rs))) l t) split
        ∙ find_run 0 0 (length (write_in 5 (length rs))) before r rest t up h
        ∙ ap₂ (λ (at len : ℕ). found (record { at = at; len = len })) place (ap length size)

pub schedules_before_11 : SchedulesBefore11
unfolding quantity quantities
schedules_before_11 rs b = record {
  single = λ level p q. rw (is rs b);
  lots = λ level numbers. rw (is rs b);
  looks = λ before r rest t split h. looked rs b t _ (found_run rs b before r rest t split h);
  looks_none = λ t none. looked rs b t nowhere (find_nothing 0 (length (write_in 5 (length rs))) rs t none);
}
