-- Numbers up to 2,000,000,000 take five bytes at most: those of jobs and schedules that were accepted before document 02's request 11.
-- Assumes nothing.
use Rattle.std.specs.Prelude.{if◌then◌else◌}
use Prim.Native.Nat.{ℕ, ◌-◌, ◌≤◌}
use native.Mathlib.Omega.{arith}
use mathlib.Core.Path.{◌≡◌, refl, sym, ap, ap₂, ◌∙◌}
use mathlib.Core.Bool.{Bool, true, false}
use mathlib.Core.List.{List, [], ◌∷◌, ◌++◌, append_assoc, append-nil, Memᴰ}
use lib.ListN.{length, get_or, take, drop}
use lib.Dec.{leb, eqb}
use Rattle.base.specs.Choice.{all_of}
use Rattle.number.specs.Number.{write_in, write_number}
use Rattle.number.proofs.WriteLaws.{write_five}
use Rattle.job.specs.declared.Header.{Header}
use Rattle.job.specs.declared.Hazard.{Hazard}
use Rattle.job.specs.declared.Bounds.{Bounds}
use Rattle.job.specs.Job.{Job, ◌to◌, shared_ranges, header_ranges, next_in_hazard}
use Rattle.job.specs.Writing.{header_numbers, hazard_numbers, hazards_numbers, numbers_of, write_numbers, write_job}
use Rattle.job.specs.Fits.{in_ranges, hazard_in_range, HazardFits}
use Rattle.job.proofs.RangeLaws.{within_high, ranges_cons, highs_most, hazard_most}
use Rattle.runs.specs.declared.Stretch.{Stretch}
use Rattle.runs.specs.RunList.{most_runs, Rising}
use Rattle.schedule.specs.Schedule.{write_record, write_records, write_schedule}
use Rattle.as_before.specs.AcceptedBefore.{written_before, rows_before, next_before, HeaderBefore, record_numbers, all_record_numbers, schedule_before}

-- No number of a list is above 2,000,000,000.
abbrev Small : List ℕ → Type 0
Small [] = Unit {0}
Small (x ∷ xs) = (x ≤ 2000000000) × Small xs

small_parts : (xs ys : List ℕ) → Small xs → Small ys → Small (xs ++ ys)
small_parts [] ys a b = b
small_parts (x ∷ xs) ys a b = (a.0, small_parts xs ys a.1 b)

pub five_parts : (xs ys : List ℕ) → written_before (xs ++ ys) ≡ written_before xs ++ written_before ys
unfolding written_before
five_parts [] ys = refl
five_parts (x ∷ xs) ys = ap (λ (l : List ℕ). write_in 5 x ++ l) (five_parts xs ys) ∙ sym (append_assoc (write_in 5 x) (written_before xs) (written_before ys))

numbers_five : (xs : List ℕ) → Small xs → write_numbers xs ≡ written_before xs
unfolding write_numbers written_before
numbers_five [] a = refl
numbers_five (x ∷ xs) a = ap₂ (λ (l m : List ℕ). l ++ m) (write_five x (omega (arith, a.0))) (numbers_five xs a.1)

-- Jobs

ranges_small : (range_of : List ℕ → Bounds) → ((got : List ℕ) → (range_of got).high ≤ 2000000000) → (got xs : List ℕ) → in_ranges range_of got xs ≡ true → Small xs
ranges_small range_of most got [] e = tt
ranges_small range_of most got (x ∷ xs) e =
    let here = ranges_cons range_of got x xs e in
    (omega (arith, within_high (range_of got) x here.0, most got), ranges_small range_of most (got ++ x ∷ []) xs here.1)

rows_most : (got : List ℕ) → (next_before got).high ≤ 2000000000
unfolding header_ranges shared_ranges all_of
rows_most got = highs_most 2000000000 (rows_before (get_or got 0 0) (get_or got 1 0)) (rows (eqb (get_or got 0 0) 2) (get_or got 1 0)) (length got)
  where
    rows : (t : Bool) (A : ℕ) → all_of (λ (r : Bounds). leb r.high 2000000000)
        (take 3 (rows_before 1 A) ++ drop 3 (shared_ranges A) ++ (if t then 1 to 10000 ∷ 0 to 256 ∷ [] else 0 to 256 ∷ [])) ≡ true
    rows true A = refl
    rows false A = refl

hazards_small : (h : Header) → h.end ≤ 2000000000 → (zs : List Hazard) → ((z : Hazard) → Memᴰ z zs → HazardFits h z) → Small (hazards_numbers zs)
unfolding hazards_numbers hazard_in_range
hazards_small h road [] fits = tt
hazards_small h road (z ∷ zs) fits =
    small_parts (hazard_numbers z) (hazards_numbers zs)
    (ranges_small (next_in_hazard h) (hazard_most 2000000000 h (omega arith) road) [] (hazard_numbers z) (fits z (Memᴰ.head refl)))
    (hazards_small h road zs (λ y m. fits y (Memᴰ.tail m)))

pub job_five : (j : Job) → HeaderBefore j.header → j.header.end ≤ 2000000000 → ((z : Hazard) → Memᴰ z j.hazards → HazardFits j.header z)
    → write_job j ≡ written_before (numbers_of j)
unfolding write_job numbers_of
job_five j header road hazards =
    numbers_five (numbers_of j)
    (small_parts (header_numbers j.header) (hazards_numbers j.hazards) (ranges_small next_before rows_most [] (header_numbers j.header) header.numbers)
    (hazards_small j.header road j.hazards hazards))

-- Schedules

module _ (e : ℕ) (r : Stretch) (end : r.end ≤ 2000000000) (long : r.start ≤ r.end) (level : r.level ≤ 6) where
  pub record_five : write_record e r ≡ written_before (record_numbers e r)
  unfolding write_record write_numbers
  record_five =
      ap (λ (l : List ℕ). write_number (r.start - e) ++ (write_number (r.end - r.start) ++ l)) (sym (append-nil (write_number r.level)))
      ∙ numbers_five (record_numbers e r) (omega (arith, end, long), (omega (arith, end), (omega (arith, level), tt)))

pub records_five : (e v : ℕ) (rs : List Stretch) → Rising e v rs → ((r : Stretch) → Memᴰ r rs → r.end ≤ 2000000000)
    → write_records e rs ≡ written_before (all_record_numbers e rs)
unfolding write_records all_record_numbers written_before
records_five e v [] up ends = refl
records_five e v (r ∷ rs) up ends =
    ap₂ (λ (l m : List ℕ). l ++ m) (record_five e r (ends r (Memᴰ.head refl)) (omega (arith, up.0.long)) up.0.top)
    (records_five r.end r.level rs up.1 (λ q m. ends q (Memᴰ.tail m)))
    ∙ sym (five_parts (record_numbers e r) (all_record_numbers r.end rs))

pub schedule_five : (rs : List Stretch) → length rs ≤ most_runs → Rising 0 0 rs → ((r : Stretch) → Memᴰ r rs → r.end ≤ 2000000000)
    → write_schedule rs ≡ schedule_before rs
unfolding write_schedule written_before
schedule_five rs few up ends = ap₂ (λ (l m : List ℕ). l ++ m) (write_five (length rs) (omega (arith, few))) (records_five 0 0 rs up ends)
