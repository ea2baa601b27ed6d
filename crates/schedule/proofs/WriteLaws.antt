-- Laws for writing a stored run list record by record: what the i-th run satisfies, and what the records so far are.
-- Assumes nothing.
use Prim.Native.Nat.{ℕ, ◌+◌, ◌-◌, ◌≤◌, ◌<◌}
use native.Mathlib.Omega.{arith}
use native.Mathlib.Numerals.{add-one}
use mathlib.Core.Path.{◌≡◌, refl, sym, ◌∙◌}
use mathlib.Core.Bool.{true}
use mathlib.Core.List.{List, [], ◌∷◌, ◌++◌, append_assoc, append-nil}
use lib.ListN.{length, get_or, set, length-append}
use Rattle.number.specs.Number.{write_number, group_count, placed}
use Rattle.number.proofs.WriteLaws.{number_length, group_count_lem, write_one}
use Rattle.number.proofs.PlaceLaws.{placed_append, placed_length, placed_sets}
use Rattle.runs.specs.declared.Stretch.{Stretch}
use Rattle.runs.specs.RunList.{is_run_list, runs_to, last_end}
use Rattle.runs.proofs.StoredLaws.{run, first_runs, behind, run_next}
use Rattle.schedule.specs.Schedule.{write_record, write_records}
use Rattle.schedule.specs.Writing.{RecordFits}

-- The length of a record: the group counts of its three numbers.
pub record_groups : (end : ℕ) (r : Stretch) → RecordFits end r
    → length (write_record end r) ≡ group_count (r.start - end) + group_count (r.end - r.start) + group_count r.level
unfolding write_record
record_groups end r f =
    simp length-append (omega (
      arith,
      group_count_lem (r.start - end) (omega (arith, f.long, f.ends)),
      group_count_lem (r.end - r.start) (omega (arith, f.ends)),
      group_count_lem r.level (omega (arith, f.top)),
    ))

pub record_sum : (end : ℕ) (r : Stretch)
    → length (write_record end r) ≡ length (write_number (r.start - end)) + length (write_number (r.end - r.start)) + length (write_number r.level)
unfolding write_record
record_sum end r = simp length-append (omega arith)

-- Three numbers placed one behind the other are the record placed.
pub record_placed : (s : List ℕ) (at end : ℕ) (r : Stretch) → at + length (write_record end r) ≤ length s
    → placed (placed (placed s at (write_number (r.start - end))) (at + length (write_number (r.start - end))) (write_number (r.end - r.start)))
    (at + length (write_number (r.start - end)) + length (write_number (r.end - r.start))) (write_number r.level)
    ≡ placed s at (write_record end r)
unfolding write_record
record_placed s at end r h =
    placed_append (placed s at first) (at + length first) second third (omega (arith, placed_length s at first, room, length-append second third))
    ∙ placed_append s at first (second ++ third) (omega (arith, room, length-append second third))
  where
    first : List ℕ
    first = write_number (r.start - end)

    second : List ℕ
    second = write_number (r.end - r.start)

    third : List ℕ
    third = write_number r.level

    room : at + (length first + (length second + length third)) ≤ length s
    room = simp length-append at h

-- A level is a number of one byte.
pub level_placed : (s : List ℕ) (at level : ℕ) → level < 128 → at < length s → set s at level ≡ placed s at (write_number level)
level_placed s at level small h = rw (write_one level small) (sym (placed_sets s at (level ∷ []) (omega arith)))

pub record_short : (e : ℕ) (r : Stretch) → length (write_record e r) ≤ 18
unfolding write_record
record_short e r = simp length-append (omega (arith, number_length (r.start - e), number_length (r.end - r.start), number_length r.level))

last_snoc : (e : ℕ) (rs : List Stretch) (r : Stretch) → last_end e (rs ++ r ∷ []) ≡ r.end
last_snoc e [] r = refl
last_snoc e (x ∷ rs) r = last_snoc x.end rs r

records_split : (e : ℕ) (rs : List Stretch) (r : Stretch) (ss : List Stretch)
    → write_records e (rs ++ r ∷ ss) ≡ write_records e rs ++ (write_record (last_end e rs) r ++ write_records r.end ss)
unfolding write_records
records_split e [] r ss = refl
records_split e (x ∷ rs) r ss = rw (records_split x.end rs r ss)
    (sym (append_assoc (write_record e x) (write_records x.end rs) (write_record (last_end x.end rs) r ++ write_records r.end ss)))

module _ (starts ends levels : List ℕ) where
  -- Each run of a run list fits behind those before it.
  pub run_fits : (n i : ℕ) → is_run_list (first_runs starts ends levels n) ≡ true → i < n
      → RecordFits (last_end 0 (first_runs starts ends levels i)) (run starts ends levels i)
  run_fits n i h l =
      let next = run_next starts ends levels n h i l in
      record { after = next.after; long = next.long; ends = next.ends; top = next.top }

  -- One record more.
  pub records_more : (i : ℕ) → write_records 0 (first_runs starts ends levels (i + 1)) ≡ write_records 0 (first_runs starts ends levels i)
      ++ write_record (last_end 0 (first_runs starts ends levels i)) (run starts ends levels i)
  unfolding runs_to write_records
  records_more i = rw (add-one i) (records_split 0 (first_runs starts ends levels i) (run starts ends levels i) [] ∙ rw append-nil)

  pub last_more : (i : ℕ) → last_end 0 (first_runs starts ends levels (i + 1)) ≡ get_or ends i 0
  unfolding runs_to
  last_more i = rw (add-one i) (last_snoc 0 (first_runs starts ends levels i) (run starts ends levels i))

  -- The first i records and the next are no longer than all n.
  pub records_within : (i n : ℕ) → i < n → length (write_records 0 (first_runs starts ends levels i))
      + length (write_record (last_end 0 (first_runs starts ends levels i)) (run starts ends levels i)) ≤ length (write_records 0 (first_runs starts ends levels n))
  records_within i n h =
      let b = behind starts ends levels i n h in
      rw (b.split, records_split 0 (first_runs starts ends levels i) (run starts ends levels i) b.rest, length-append, length-append) (omega arith)

  pub records_none : write_records 0 (first_runs starts ends levels 0) ≡ []
  unfolding runs_to write_records
  records_none = refl

  pub last_none : last_end 0 (first_runs starts ends levels 0) ≡ 0
  unfolding runs_to
  last_none = refl
