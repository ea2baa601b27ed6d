-- How long a schedule is: that of one road has at most 5,624 bytes.
-- Assumes nothing.
use Prim.Native.Nat.{ℕ, ◌+◌, ◌-◌, ◌*◌, ◌/◌, ◌≤◌}
use native.Mathlib.Omega.{arith}
use mathlib.Core.Path.{◌≡◌, refl}
use mathlib.Core.Bool.{true}
use mathlib.Core.List.{List, [], ◌∷◌, ◌++◌, Memᴰ}
use lib.ListN.{length, length-append}
use Rattle.number.specs.Number.{write_number}
use Rattle.number.proofs.WriteLaws.{number_length, small_length, middle_length, long_length}
use Rattle.runs.specs.declared.Stretch.{Stretch}
use Rattle.runs.specs.RunList.{is_run_list, Rising}
use Rattle.runs.proofs.LevelLaws.{EndsBy}
use Rattle.runs.proofs.RunLaws.{run_list_rising, run_list_short}
use Rattle.schedule.specs.Schedule.{write_record, write_records, write_schedule}

-- Eleven bytes for each record, and a sixth for a gap or a length from 2 to the 35th on.
records_length : (e v E : ℕ) (rs : List Stretch) → Rising e v rs → EndsBy E rs → length (write_records e rs) ≤ 11 * length rs + (E - e) / 34359738368
unfolding write_records write_record
records_length e v E [] h by = omega arith
records_length e v E (r ∷ rs) h by =
    rw (
      length-append (write_record e r) (write_records r.end rs),
      length-append (write_number (r.start - e)) (write_number (r.end - r.start) ++ write_number r.level),
      length-append (write_number (r.end - r.start)) (write_number r.level),
    )
    (omega (
      arith,
      long_length (r.start - e),
      long_length (r.end - r.start),
      small_length r.level (omega (arith, h.0.top)),
      h.0.after,
      h.0.long,
      by r (Memᴰ.head refl),
      records_length r.end r.level E rs h.1 (λ x m. by x (Memᴰ.tail m)),
    ))

-- Runs on a road from A on.
abbrev pub OnRoadFrom : (A : ℕ) → List Stretch → Type 0
OnRoadFrom A rs = (r : Stretch) → Memᴰ r rs → (A ≤ r.start) × (r.end ≤ A + 2000000000)

-- Only the first gap may be longer than a road.
road_records : (A : ℕ) (ss : List Stretch) → Rising 0 0 ss → OnRoadFrom A ss → length (write_records 0 ss) ≤ 11 * length ss + 1
unfolding write_records write_record
road_records A [] u o = omega arith
road_records A (r ∷ ss) u o =
    let here = o r (Memᴰ.head refl) in
    rw (
      length-append (write_record 0 r) (write_records r.end ss),
      length-append (write_number (r.start - 0)) (write_number (r.end - r.start) ++ write_number r.level),
      length-append (write_number (r.end - r.start)) (write_number r.level),
    )
    (omega (
      arith,
      number_length (r.start - 0),
      long_length (r.end - r.start),
      small_length r.level (omega (arith, u.0.top)),
      here.0,
      here.1,
      u.0.long,
      records_length r.end r.level (A + 2000000000) ss u.1 (λ x m. (o x (Memᴰ.tail m)).1),
    ))

-- A schedule of one road has at most 5,624 bytes: two for the count, eleven for each of 511 records, and a sixth for the
-- first gap.
pub road_bytes : (A : ℕ) (rs : List Stretch) → is_run_list rs ≡ true → OnRoadFrom A rs → length (write_schedule rs) ≤ 5624
unfolding write_schedule
road_bytes A rs h on =
    let few = run_list_short rs h in
    rw (length-append (write_number (length rs)) (write_records 0 rs))
    (omega (arith, middle_length (length rs) (omega arith), road_records A rs (run_list_rising rs h) on))
