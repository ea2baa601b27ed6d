-- What stands behind the first 8,192 bytes changes no report, of refused inputs neither. Reading looks at no byte behind the first 8,031: 90 for 15 header
-- numbers of at most six bytes; 31 for each of 255 hazards, whose side was read as 0 or 1 and took one; and 36 for the last, six numbers of six bytes.
-- Assumes nothing.
use Rattle.std.specs.Prelude.{if◌then◌else◌}
use Prim.Native.Nat.{ℕ, zero, suc, ◌+◌, ◌-◌, ◌*◌, ◌≤◌, ◌<◌}
use native.Mathlib.Omega.{arith}
use native.Mathlib.Decide.{dec_le}
use mathlib.Core.Path.{◌≡◌, refl, ap}
use mathlib.Core.Bool.{Bool, true, false}
use mathlib.Core.List.{List, [], ◌∷◌, ◌++◌}
use lib.ListN.{length, get_or, take, drop}
use lib.Seq.{take_all, length-take-le}
use lib.Dec.{ltb, leb, eqb}
use borrow.Author.Tests.{leb-true, lt-leb}
use Rattle.base.specs.Answer.{accepted}
use Rattle.refusal.specs.Refusal.{unless_refuse, answer_of}
use Rattle.refusal.specs.declared.Refusal.{Refusal}
use Rattle.std.proofs.lemmas.Bool.{and_parts}
use Rattle.base.proofs.AnswerLaws.{bound, bind_same}
use Rattle.refusal.proofs.RefuseLaws.{passed}
use Rattle.number.specs.Number.{Scan, whole, prefixed, scan, read_number, read_of, number_at}
use Rattle.number.specs.declared.Reading.{Reading}
use Rattle.number.proofs.ReadLaws.{found, answered, read_bounds}
use Rattle.number.proofs.WriteLaws.{small_length}
use Rattle.job.specs.declared.Bounds.{Bounds}
use Rattle.job.specs.declared.Header.{Header}
use Rattle.job.specs.declared.Hazard.{Hazard}
use Rattle.job.specs.Job.{within, hazard_ranges, next_in_header, next_in_hazard, Fields, read_fields, more_numbers, outside_header, outside_hazard, read_header}
use Rattle.job.specs.Job.{header_of, hazard_of, Hazards, read_hazards, read_rest, read_job}
use Rattle.job.proofs.JobLaws.{header_in, header_fits}
use Rattle.job.proofs.RangeLaws.{header_bounds}
use Rattle.planning.specs.Envelope.{accept_job}
use Rattle.report.specs.Text.{reported}
use Rattle.report.specs.Input.{passed_on}

-- A scan of at most k bytes sees k bytes alone.
scan_first : (k n : ℕ) (s : List ℕ) → k ≤ n → scan k (take n s) ≡ scan k s
unfolding scan
scan_first zero n s h = refl
scan_first (suc k) zero s h = absurd (omega arith)
scan_first (suc k) (suc n) [] h = refl
scan_first (suc k) (suc n) (x ∷ xs) h = ap (λ (rest : Scan). if ltb x 128 then whole x 1 else prefixed (x - 128) rest) (scan_first k n xs (omega arith))

scan_cut : (k at n : ℕ) (s : List ℕ) → at + k ≤ n → scan k (drop at (take n s)) ≡ scan k (drop at s)
scan_cut k zero n s h = scan_first k n s (omega arith)
scan_cut k (suc at) zero s h = absurd (omega arith)
scan_cut k (suc at) (suc n) [] h = refl
scan_cut k (suc at) (suc n) (x ∷ xs) h = scan_cut k at n xs (omega arith)

-- A number that was read takes at most six bytes, one below 128 one.
number_near : (s : List ℕ) (at : ℕ) (x : Reading) → number_at s at ≡ accepted x → x.next ≤ at + 6
unfolding number_at
number_near s at x e = (read_bounds s at x.value x.next (answered (read_number s at) x e)).near

small_near : (s : List ℕ) (at : ℕ) (x : Reading) → number_at s at ≡ accepted x → x.value < 128 → x.next ≡ at + 1
unfolding number_at
small_near s at x e small = omega (arith, (found s at x.value x.next (answered (read_number s at) x e)).next, small_length x.value small)

fields_near : (range_of : List ℕ → Bounds) (outside : List ℕ → Refusal) (k : ℕ) (got s : List ℕ) (at : ℕ) (f : Fields)
    → read_fields range_of outside k got s at ≡ accepted f → f.next ≤ at + 6 * k
unfolding read_fields
fields_near range_of outside zero got s at f e =
    let w : record { numbers = got; next = at } ≡ f = cc in
    omega (arith, ap (λ (z : Fields). z.next) w)
fields_near range_of outside (suc k) got s at f e =
    let b = bound (number_at s at) _ f e in
    let x = b.first in
    let p = passed (within (range_of got) x.value) (outside got) _ f b.rest in
    omega (arith, number_near s at x b.taken, fields_near range_of outside k (got ++ x.value ∷ []) s x.next f p.1)

hazard_near : (h : Header) (outside : List ℕ → Refusal) (s : List ℕ) (at : ℕ) (f : Fields)
    → read_fields (next_in_hazard h) outside 6 [] s at ≡ accepted f → f.next ≤ at + 31
unfolding read_fields hazard_ranges
hazard_near h outside s at f e =
    let b = bound (number_at s at) _ f e in
    let x = b.first in
    let p = passed (within (next_in_hazard h []) x.value) (outside []) _ f b.rest in
    let side : x.value ≤ 1 = leb-true x.value 1 (and_parts (leb 0 x.value) (leb x.value 1) p.0).1 in
    omega (arith, small_near s at x b.taken (omega arith), fields_near (next_in_hazard h) outside 5 (x.value ∷ []) s x.next f p.1)

hazards_near : (h : Header) (k : ℕ) (got : List Hazard) (s : List ℕ) (at : ℕ) (r : Hazards) → read_hazards h k got s at ≡ accepted r → r.next ≤ at + 31 * k
unfolding read_hazards
hazards_near h zero got s at r e =
    let w : record { list = got; next = at } ≡ r = cc in
    omega (arith, ap (λ (z : Hazards). z.next) w)
hazards_near h (suc k) got s at r e =
    let b = bound (read_fields (next_in_hazard h) (outside_hazard (length got)) 6 [] s at) _ r e in
    let z = b.first in
    omega (arith, hazard_near h (outside_hazard (length got)) s at z b.taken, hazards_near h k (got ++ hazard_of z.numbers ∷ []) s z.next r b.rest)

-- Of either kind at most one header number comes after the first fourteen.
one_more : (t : Bool) → (if t then 15 else 14) - 14 ≤ 1
one_more true = omega arith
one_more false = omega arith

header_near : (s : List ℕ) (f : Fields) → read_header s ≡ accepted f → f.next ≤ 90
unfolding read_header
header_near s f e =
    let b = bound (read_fields next_in_header outside_header 14 [] s 0) _ f e in
    let g = b.first in
    omega (
      arith,
      fields_near next_in_header outside_header 14 [] s 0 g b.taken,
      fields_near next_in_header outside_header (more_numbers g.numbers) g.numbers s g.next f b.rest,
      one_more (eqb (get_or g.numbers 0 0) 2),
    )

-- What is read of the first n bytes is what is read of all, as far as they go.
module _ (n : ℕ) (s : List ℕ) where
  number_cut : (at : ℕ) → at + 6 ≤ n → number_at (take n s) at ≡ number_at s at
  unfolding number_at read_number
  number_cut at h = ap (λ (c : Scan). answer_of (read_of at c)) (scan_cut 6 at n s h)

  fields_cut : (range_of : List ℕ → Bounds) (outside : List ℕ → Refusal) (k : ℕ) (got : List ℕ) (at : ℕ) → at + 6 * k ≤ n
      → read_fields range_of outside k got (take n s) at ≡ read_fields range_of outside k got s at
  unfolding read_fields
  fields_cut range_of outside zero got at h = refl
  fields_cut range_of outside (suc k) got at h =
      rw (number_cut at (omega arith))
      (bind_same (number_at s at) _ _ (λ x e.
      bind_same (unless_refuse (within (range_of got) x.value) (outside got)) _ _ (λ _ _.
      fields_cut range_of outside k (got ++ x.value ∷ []) x.next (omega (arith, number_near s at x e)))))

  hazards_cut : (h : Header) (k : ℕ) (got : List Hazard) (at : ℕ) → at + 31 * k + 5 ≤ n → read_hazards h k got (take n s) at ≡ read_hazards h k got s at
  unfolding read_hazards
  hazards_cut h zero got at room = refl
  hazards_cut h (suc k) got at room =
      rw (fields_cut (next_in_hazard h) (outside_hazard (length got)) 6 [] at (omega arith))
      (bind_same (read_fields (next_in_hazard h) (outside_hazard (length got)) 6 [] s at) _ _ (λ z e.
      hazards_cut h k (got ++ hazard_of z.numbers ∷ []) z.next (omega (arith, hazard_near h (outside_hazard (length got)) s at z e))))

  -- Where there are more, the index behind the last hazard lies before both ends.
  rest_cut : n < length s → (h : Header) (k : ℕ) (at : ℕ) → at + 31 * k + 5 ≤ n → read_rest h k [] (take n s) at ≡ read_rest h k [] s at
  unfolding read_rest
  rest_cut more h k at room =
      rw (hazards_cut h k [] at room)
      (bind_same (read_hazards h k [] s at) _ _ (λ r e.
      let near = hazards_near h k [] s at r e in
      let cut : leb (length (take n s)) r.next ≡ false = lt-leb (length (take n s)) r.next (omega (arith, length-take-le n s (omega arith))) in
      let whole : leb (length s) r.next ≡ false = lt-leb (length s) r.next (omega arith) in
      rw (cut, whole)))

  header_cut : 90 ≤ n → read_header (take n s) ≡ read_header s
  unfolding read_header
  header_cut h =
      rw (fields_cut next_in_header outside_header 14 [] 0 (omega arith))
      (bind_same (read_fields next_in_header outside_header 14 [] s 0) _ _ (λ g e.
      fields_cut next_in_header outside_header (more_numbers g.numbers) g.numbers g.next
      (omega (arith, fields_near next_in_header outside_header 14 [] s 0 g e, one_more (eqb (get_or g.numbers 0 0) 2)))))

  job_cut : n < length s → 8031 ≤ n → read_job (take n s) ≡ read_job s
  unfolding read_job
  job_cut more h =
      rw (header_cut (omega arith))
      (bind_same (read_header s) _ _ (λ f e.
      let fits = header_bounds (header_of f.numbers) (header_fits f.numbers (header_in s f e)) in
      rest_cut more (header_of f.numbers) (header_of f.numbers).count f.next (omega (arith, header_near s f e, fits.count))))

-- "It passes on the first 8,192 bytes": for every input, of whatever length, that is no other report.
pub reported_cut : (s : List ℕ) → reported (take passed_on s) ≡ reported s
unfolding reported accept_job
reported_cut s = go (dec_le (length s) passed_on)
  where
    go : Dec (length s ≤ passed_on) → reported (take passed_on s) ≡ reported s
    go (yes few) = ap reported (take_all passed_on s few)
    go (no many) = rw (job_cut passed_on s (omega arith) (omega arith))
