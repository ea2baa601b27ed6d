-- The jobs that are accepted for reading are exactly the writings of jobs that fit: a job that fits reads back from its writing, and no other bytes read as it.
-- Assumes nothing.
use Rattle.std.specs.Prelude.{if◌then◌else◌}
use Prim.Native.Nat.{ℕ, suc, ◌*◌, ◌^◌, ◌≤◌, ◌<◌}
use native.Mathlib.Omega.{arith}
use mathlib.Core.Path.{◌≡◌, refl, ap, ◌∙◌}
use mathlib.Core.Bool.{Bool, true, false}
use mathlib.Core.List.{List, [], ◌∷◌, ◌++◌, append-nil, Memᴰ}
use lib.ListN.{length, length-append}
use lib.Dec.{eqb}
use borrow.Author.Tests.{le-leb}
use Rattle.base.specs.Answer.{accepted}
use Rattle.number.specs.Number.{write_number}
use Rattle.number.proofs.WriteLaws.{length_below}
use Rattle.number.specs.Form.{Bytes}
use Rattle.job.specs.declared.Header.{Header}
use Rattle.job.specs.declared.Hazard.{Hazard}
use Rattle.job.specs.Job.{Job, read_hazards, read_job, read_rest}
use Rattle.job.specs.Writing.{last_numbers, header_numbers, hazard_numbers, hazards_numbers, numbers_of, write_numbers, write_job}
use Rattle.job.specs.Fits.{in_ranges, HazardFits, JobFits}
use Rattle.job.specs.Rows.{of_hazard, BeginsWith, index_after}
use Rattle.job.proofs.StandLaws.{numbers_append, job_behind}
pub use Rattle.job.proofs.RowLaws.{job_is_written}
use Rattle.job.proofs.RangeLaws.{HeaderBounds, header_bounds, HazardBounds, hazard_bounds}
use Rattle.job.proofs.JobLaws.{job_fits}

-- A job that fits reads back from its writing.
pub job_written : (j : Job) → JobFits j → read_job (write_job j) ≡ accepted j
unfolding read_rest read_hazards write_job in_ranges
job_written j fits =
    let g = of_hazard j.header j.hazards in
    let stands : BeginsWith (write_job j) g [] [] = record { before = (fits.header, fits.hazards.each); own = refl; bytes = simp append-nil } in
    job_behind 0 stands (omega (arith, fits.hazards.count))
    ∙ rw (le-leb (length (write_job j)) (index_after g []) (omega (arith, ap length stands.bytes, length-append (write_numbers (numbers_of j ++ [])) [])))

-- The length of a writing

-- A number below 128 ^ (g + 1) takes at most g + 1 bytes.
number_within : (g n : ℕ) → n < 128 ^ suc g → length (write_number n) ≤ suc g
unfolding write_number
number_within g n h = length_below 6 g n h

last_length : (h : Header) → HeaderBounds h → length (write_numbers (last_numbers h)) ≤ 4
unfolding write_numbers
last_length h f = go (eqb h.kind 2)
  where
    panel : length (write_number h.panel) ≤ 2
    panel = number_within 1 h.panel (omega (arith, f.panel_top))

    count : length (write_number h.count) ≤ 2
    count = number_within 1 h.count (omega (arith, f.count))

    go : (t : Bool) → length (write_numbers (if t then h.panel ∷ h.count ∷ [] else h.count ∷ [])) ≤ 4
    go true = simp length-append (omega (arith, panel, count))
    go false = simp length-append (omega (arith, count))

header_length : (h : Header) → HeaderBounds h → length (write_numbers (header_numbers h)) ≤ 42
unfolding write_numbers
header_length h f =
    let kind = number_within 0 h.kind (omega (arith, f.kind_top)) in
    let begin = number_within 5 h.begin (omega (arith, f.road, f.road_end)) in
    let end = number_within 5 h.end (omega (arith, f.road_end)) in
    let forward = number_within 2 h.forward (omega (arith, f.forward_top)) in
    let opposite = number_within 2 h.opposite (omega (arith, f.opposite_top)) in
    let zone = number_within 2 h.zone (omega (arith, f.clear_top)) in
    let way = number_within 2 h.way (omega (arith, f.way_top)) in
    let offset = number_within 2 h.offset (omega (arith, f.offset_top)) in
    let deflection = number_within 1 h.deflection (omega (arith, f.deflection_top)) in
    let along = number_within 0 h.along (omega (arith, f.along_top)) in
    let across = number_within 0 h.across (omega (arith, f.across_top)) in
    let straight = number_within 2 h.straight (omega (arith, f.straight_top)) in
    let continuity = number_within 2 h.continuity (omega (arith, f.continuity_top)) in
    simp length-append (omega (arith, last_length h f))

hazard_length : (h : Header) (z : Hazard) → h.end ≤ 1000000000000 → HazardBounds h z → length (write_numbers (hazard_numbers z)) ≤ 20
unfolding write_numbers
hazard_length h z road f =
    let side = number_within 0 z.side (omega (arith, f.side)) in
    let start = number_within 5 z.start (omega (arith, f.long, f.ends)) in
    let end = number_within 5 z.end (omega (arith, f.ends)) in
    let near = number_within 2 z.near (omega (arith, f.offsets, f.far_top)) in
    let far = number_within 2 z.far (omega (arith, f.far_top)) in
    let level = number_within 0 z.level (omega (arith, f.level_top)) in
    simp length-append (omega arith)

hazards_length : (h : Header) (zs : List Hazard) → h.end ≤ 1000000000000 → ((z : Hazard) → Memᴰ z zs → HazardFits h z)
    → length (write_numbers (hazards_numbers zs)) ≤ 20 * length zs
unfolding hazards_numbers write_numbers
hazards_length h [] road fits = omega arith
hazards_length h (z ∷ zs) road fits =
    let one = hazard_length h z road (hazard_bounds h z (fits z (Memᴰ.head refl))) in
    let others = hazards_length h zs road (λ y m. fits y (Memᴰ.tail m)) in
    rw (numbers_append (hazard_numbers z) (hazards_numbers zs), length-append (write_numbers (hazard_numbers z)) (write_numbers (hazards_numbers zs))) (omega arith)

-- "No accepted job is that long": 42 bytes of header and 20 of each hazard at most.
pub written_length : (j : Job) → JobFits j → length (write_job j) ≤ 5162
unfolding write_job numbers_of
written_length j fits =
    let bounds = header_bounds j.header fits.header in
    rw (
      numbers_append (header_numbers j.header) (hazards_numbers j.hazards),
      length-append (write_numbers (header_numbers j.header)) (write_numbers (hazards_numbers j.hazards)),
    )
    (omega (
      arith,
      header_length j.header bounds,
      hazards_length j.header j.hazards bounds.road_end fits.hazards.each,
      fits.hazards.count,
      bounds.count,
    ))

pub read_length : (s : List ℕ) (j : Job) → Bytes s → read_job s ≡ accepted j → length s ≤ 5162
read_length s j b e = omega (arith, ap length (job_is_written s j b e), written_length j (job_fits s j e))
