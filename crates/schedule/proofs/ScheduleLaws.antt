-- Schedules: reading gives back the run list that was written, and what can be read is the writing of a run list.
-- Assumes nothing.
use Prim.Native.Nat.{ℕ, zero, suc, ◌+◌, ◌-◌}
use native.Mathlib.Omega.{arith}
use mathlib.Core.Path.{◌≡◌, refl, subst, ap, ◌∙◌}
use mathlib.Core.Bool.{true}
use mathlib.Core.List.{List, [], ◌∷◌, ◌++◌, append_assoc}
use lib.ListN.{length, drop, length-append}
use lib.Seq.{drop-length}
use lib.Dec.{leb, eqb}
use borrow.Author.Tests.{le-leb, eqb-true, eq-eqb}
use Rattle.base.specs.Answer.{Answer, accepted, refused, ◌>>=◌}
use Rattle.refusal.specs.declared.Refusal.TheVariants as Row
use Rattle.base.proofs.AnswerLaws.{bound}
use Rattle.base.proofs.ListLaws.{drop_after}
use Rattle.refusal.proofs.RefuseLaws.{passed}
use Rattle.std.proofs.lemmas.Bool.{and_from, and_parts}
use Rattle.number.specs.declared.Reading.{Reading}
use Rattle.number.specs.Number.{write_number, number_at}
use Rattle.number.proofs.ReadLaws.{read_number_lem, number_read}
use Rattle.number.specs.Form.{Bytes}
use Rattle.runs.specs.declared.Stretch.{Stretch}
use Rattle.runs.specs.RunList.{most_runs, may_follow, rising_runs, is_run_list, MayFollow, Rising}
use Rattle.runs.proofs.RunLaws.{rising_test, run_list_rising, run_list_short}
use Rattle.schedule.specs.Schedule.{write_record, write_records, write_schedule, IsSchedule, or_ten, read_head, ReadRun, read_record, read_records, read_schedule}

-- Which run may follow another.
pub may_follow_lem : (e v : ℕ) (r : Stretch) → MayFollow e v r → may_follow e v r ≡ true
unfolding rising_runs
may_follow_lem e v r n = (and_parts (may_follow e v r) true (rising_test e v (r ∷ []) (n, tt))).0

-- What is written is read

record_written : (s : List ℕ) (e v at : ℕ) (r : Stretch) (rest : List ℕ) → MayFollow e v r → drop at s ≡ write_record e r ++ rest
    → read_record e v s at ≡ accepted (record { run = r; next = at + length (write_record e r) })
unfolding read_record write_record
record_written s e v at r rest n q =
    rw (read_number_lem s at gap (write_number len ++ behind) (omega (arith, n.long, n.ends)) first)
    (rw (read_number_lem s (at + length (write_number gap)) len behind (omega (arith, n.ends)) second)
    (rw (read_number_lem s (at + length (write_number gap) + length (write_number len)) r.level rest (omega (arith, n.top)) third)
    (rw (starts, ends)
    (rw (may_follow_lem e v r n) (ap (λ (i : ℕ). accepted (record { run = r; next = i })) (simp length-append (omega arith)))))))
  where
    starts : e + (r.start - e) ≡ r.start
    starts = omega (arith, n.after)

    ends : r.start + (r.end - r.start) ≡ r.end
    ends = omega (arith, n.long)

    gap : ℕ
    gap = r.start - e

    len : ℕ
    len = r.end - r.start

    behind : List ℕ
    behind = write_number r.level ++ rest

    first : drop at s ≡ write_number gap ++ (write_number len ++ behind)
    first = q ∙ simp append_assoc

    second : drop (at + length (write_number gap)) s ≡ write_number len ++ behind
    second = drop_after s at (write_number gap) (write_number len ++ behind) first

    third : drop (at + length (write_number gap) + length (write_number len)) s ≡ write_number r.level ++ rest
    third = drop_after s (at + length (write_number gap)) (write_number len) behind second

records_written : (s : List ℕ) (e v at : ℕ) (rs : List Stretch) → Rising e v rs → drop at s ≡ write_records e rs → at + length (write_records e rs) ≡ length s
    → read_records (length rs) e v s at ≡ accepted rs
unfolding read_records write_records
records_written s e v at [] up q all = rw (eq-eqb at (length s) (omega arith))
records_written s e v at (r ∷ rs) up q all =
    rw (
      record_written s e v at r (write_records r.end rs) up.0 q,
      records_written s r.end r.level (at + length (write_record e r)) rs up.1 (drop_after s at (write_record e r) (write_records r.end rs) q)
          (omega (arith, length-append (write_record e r) (write_records r.end rs))),
    )

-- Reading gives back the run list that was written.
pub read_schedule_lem : (rs : List Stretch) → is_run_list rs ≡ true → read_schedule (write_schedule rs) ≡ accepted rs
unfolding read_schedule read_head write_schedule
read_schedule_lem rs h =
    let count = write_number (length rs) in
    let s = count ++ write_records 0 rs in
    rw (read_number_lem s 0 (length rs) (write_records 0 rs) (omega (arith, run_list_short rs h)) refl, le-leb (length rs) most_runs (run_list_short rs h))
    (ap (λ (a : Answer (List Stretch)). or_ten a)
    (records_written s 0 0 (0 + length count) rs (run_list_rising rs h) (drop_after s 0 (write_number (length rs)) (write_records 0 rs) refl)
    (omega (arith, length-append count (write_records 0 rs)))))

pub schedule_runs : (s : List ℕ) (w : IsSchedule s) → read_schedule s ≡ accepted w.runs
schedule_runs s w = ap read_schedule w.writes ∙ read_schedule_lem w.runs w.run_list

-- What is read was written

pub or_ten_lem : {A : Type 0} (m : Answer A) (a : A) → or_ten m ≡ accepted a → m ≡ accepted a
or_ten_lem (accepted x) a e = e
or_ten_lem (refused k v) a e = cc

-- Whatever is wrong, 10 is returned.
or_ten_refused : {A : Type 0} (m : Answer A) (k v : ℕ) → or_ten m ≡ refused k v → or_ten m ≡ refused 10 0
or_ten_refused (accepted a) k v e = cc
or_ten_refused (refused x y) k v e = refl

pub refused_ten : (s : List ℕ) (k v : ℕ) → read_schedule s ≡ refused k v → read_schedule s ≡ refused 10 0
unfolding read_schedule
refused_ten s k v e = or_ten_refused (read_head s >>= λ n. read_records n.value 0 0 s n.next) k v e

-- The run of a record's three numbers.
abbrev pub run_after : (e gap len lev : ℕ) → Stretch
run_after e gap len lev = record { start = e + gap; end = e + gap + len; level = lev }

-- What is known of a record that was read: its numbers, and that its run may follow.
pub record RecordRead (e v : ℕ) (s : List ℕ) (at : ℕ) (p : ReadRun) : Type 0 where
  pub gap : Reading
  pub len : Reading
  pub lev : Reading
  pub gap_read : number_at s at ≡ accepted gap
  pub len_read : number_at s gap.next ≡ accepted len
  pub lev_read : number_at s len.next ≡ accepted lev
  pub is : record { run = run_after e gap.value len.value lev.value; next = lev.next } ≡ p
  pub may : may_follow e v p.run ≡ true

-- Of a schedule: its head, and its records.
pub record ScheduleRead (s : List ℕ) (rs : List Stretch) : Type 0 where
  pub head : Reading
  pub head_found : read_head s ≡ accepted head
  pub head_read : number_at s 0 ≡ accepted head
  pub few : leb head.value most_runs ≡ true
  pub records : read_records head.value 0 0 s head.next ≡ accepted rs

-- Of records, of which there is one more: the first and the others.
pub record FirstRead (k e v : ℕ) (s : List ℕ) (at : ℕ) (rs : List Stretch) : Type 0 where
  pub first : ReadRun
  pub others : List Stretch
  pub first_read : read_record e v s at ≡ accepted first
  pub others_read : read_records k first.run.end first.run.level s first.next ≡ accepted others
  pub is : first.run ∷ others ≡ rs

module _ (s : List ℕ) where
  pub record_read : (e v at : ℕ) (p : ReadRun) → read_record e v s at ≡ accepted p → RecordRead e v s at p
  unfolding read_record
  record_read e v at p q =
      let g = bound (number_at s at) _ p q in
      let n = bound (number_at s g.first.next) _ p g.rest in
      let l = bound (number_at s n.first.next) _ p n.rest in
      let r = run_after e g.first.value n.first.value l.first.value in
      let t = passed (may_follow e v r) Row.Schedule _ p l.rest in
      let same : record { run = r; next = l.first.next } ≡ p = let z = t.1 in cc in
      record {
        gap = g.first;
        len = n.first;
        lev = l.first;
        gap_read = g.taken;
        len_read = n.taken;
        lev_read = l.taken;
        is = same;
        may = subst (λ (x : ReadRun). may_follow e v x.run ≡ true) same t.0;
      }

  pub first_read : (k e v at : ℕ) (rs : List Stretch) → read_records (suc k) e v s at ≡ accepted rs → FirstRead k e v s at rs
  unfolding read_records
  first_read k e v at rs q =
      let p = bound (read_record e v s at) _ rs q in
      let others = bound (read_records k p.first.run.end p.first.run.level s p.first.next) _ rs p.rest in
      record { first = p.first; others = others.first; first_read = p.taken; others_read = others.taken; is = let z = others.rest in cc }

  pub schedule_parts : (rs : List Stretch) → read_schedule s ≡ accepted rs → ScheduleRead s rs
  unfolding read_schedule read_head
  schedule_parts rs q =
      let h = bound (read_head s) _ rs (or_ten_lem _ rs q) in
      let n = bound (number_at s 0) _ h.first h.taken in
      let t = passed (leb n.first.value most_runs) Row.Schedule _ h.first n.rest in
      let same : n.first ≡ h.first = let z = t.1 in cc in
      record {
        head = h.first;
        head_found = h.taken;
        head_read = n.taken ∙ ap accepted same;
        few = subst (λ (x : Reading). leb x.value most_runs ≡ true) same t.0;
        records = h.rest;
      }

  -- As many runs as were asked for, each of which may follow the one before it.
  pub records_rise : (k e v at : ℕ) (rs : List Stretch) → read_records k e v s at ≡ accepted rs → (length rs ≡ k) × (rising_runs e v rs ≡ true)
  unfolding read_records rising_runs
  records_rise zero e v at rs q =
      let none : [] ≡ rs = let z = (passed (eqb at (length s)) Row.Schedule _ rs q).1 in cc in
      subst (λ (x : List Stretch). (length x ≡ 0) × (rising_runs e v x ≡ true)) none (refl, refl)
  records_rise (suc k) e v at rs q =
      let f = first_read k e v at rs q in
      let more = records_rise k f.first.run.end f.first.run.level f.first.next f.others f.others_read in
      subst (λ (x : List Stretch). (length x ≡ suc k) × (rising_runs e v x ≡ true)) f.is
      (ap suc more.0, and_from _ _ (record_read e v at f.first f.first_read).may more.1)

  -- What can be read is a run list.
  pub read_list : (rs : List Stretch) → read_schedule s ≡ accepted rs → is_run_list rs ≡ true
  unfolding is_run_list
  read_list rs q =
      let w = schedule_parts rs q in
      let up = records_rise w.head.value 0 0 w.head.next rs w.records in
      and_from _ _ (ap (λ (n : ℕ). leb n most_runs) up.0 ∙ w.few) up.1

-- A record that was read stands there as the writing of its run.
pub record RecordStands (s : List ℕ) (e at : ℕ) (p : ReadRun) : Type 0 where
  pub next : p.next ≡ at + length (write_record e p.run)
  pub split : drop at s ≡ write_record e p.run ++ drop p.next s

module _ (s : List ℕ) (b : Bytes s) where
  pub record_stands : (e v at : ℕ) (p : ReadRun) → read_record e v s at ≡ accepted p → RecordStands s e at p
  unfolding write_record
  record_stands e v at p q =
      let r = record_read s e v at p q in
      let g = number_read s at r.gap b r.gap_read in
      let n = number_read s r.gap.next r.len b r.len_read in
      let l = number_read s r.len.next r.lev b r.lev_read in
      let start : e + r.gap.value - e ≡ r.gap.value = omega arith in
      let long : e + r.gap.value + r.len.value - (e + r.gap.value) ≡ r.len.value = omega arith in
      subst (RecordStands s e at) r.is (record {
        next = rw (start, long) (simp length-append (omega (arith, g.next, n.next, l.next)));
        split = rw (start, long) (g.split ∙ rw (n.split, l.split) (simp append_assoc));
      })

  records_stand : (k e v at : ℕ) (rs : List Stretch) → read_records k e v s at ≡ accepted rs → drop at s ≡ write_records e rs
  unfolding read_records write_records
  records_stand zero e v at rs q =
      let t = passed (eqb at (length s)) Row.Schedule _ rs q in
      let none : [] ≡ rs = let z = t.1 in cc in
      subst (λ (x : List Stretch). drop at s ≡ write_records e x) none (rw (eqb-true at (length s) t.0) (drop-length s))
  records_stand (suc k) e v at rs q =
      let f = first_read s k e v at rs q in
      let p = f.first in
      subst (λ (x : List Stretch). drop at s ≡ write_records e x) f.is
      ((record_stands e v at p f.first_read).split
      ∙ ap (λ (x : List ℕ). write_record e p.run ++ x) (records_stand k p.run.end p.run.level p.next f.others f.others_read))

-- What can be read is the writing of a run list.
pub schedule_read : (s : List ℕ) (rs : List Stretch) → Bytes s → read_schedule s ≡ accepted rs → (is_run_list rs ≡ true) × (s ≡ write_schedule rs)
unfolding write_schedule
schedule_read s rs b q =
    let w = schedule_parts s rs q in
    let n = w.head in
    let count = (records_rise s n.value 0 0 n.next rs w.records).0 in
    (read_list s rs q, (number_read s 0 n b w.head_read).split ∙ rw (count, records_stand s b n.value 0 0 n.next rs w.records))
