-- Numbers that stand in the bytes, each in its range, are read, and the reading goes on behind them: where a row of the table holds, its refusal is returned.
-- Assumes nothing.
use Rattle.std.specs.Prelude.{if◌then◌else◌}
use Prim.Native.Nat.{ℕ, zero, suc, ◌+◌, ◌-◌, ◌≤◌, ◌<◌}
use native.Mathlib.Omega.{arith}
use native.Mathlib.Nat.{zero-add}
use native.Mathlib.Decide.{dec_lt}
use mathlib.Core.Path.{◌≡◌, refl, sym, ap, ◌∙◌}
use mathlib.Core.Bool.{Bool, true, false, ◌||◌}
use mathlib.Core.List.{List, [], ◌∷◌, ◌++◌, append_assoc, append-nil, Memᴰ}
use lib.ListN.{length, get_or, drop, length-append}
use lib.Seq.{drop-append_seam}
use lib.Dec.{eqb}
use borrow.Author.Tests.{lt-leb, eqb-true}
use Rattle.base.specs.Answer.{accepted, refused}
use Rattle.base.proofs.ListLaws.{drop_after}
use Rattle.refusal.specs.declared.Refusal.TheVariants as Row
use Rattle.refusal.specs.Refusal.{refusal, number_of, value_of, answer_of}
use Rattle.refusal.specs.declared.Refusal.{Refusal}
use Rattle.std.specs.Prelude.{Result, Err}
use Rattle.number.specs.declared.Reading.{Reading}
use Rattle.number.specs.Number.{write_number, greatest_number, read_number, number_at}
use Rattle.number.proofs.ReadLaws.{read_number_lem}
use Rattle.number.proofs.FormLaws.{read_ended, ill_formed}
use Rattle.job.specs.declared.Header.{Header}
use Rattle.job.specs.declared.Hazard.{Hazard}
use Rattle.job.specs.declared.Bounds.{Bounds}
use Rattle.job.specs.Job.{header_with, header_of, next_in_header, next_in_hazard, read_fields, more_numbers, read_header, read_hazards, read_rest, read_job}
use Rattle.job.specs.Job.{outside_header, outside_hazard, shared_numbers}
use Rattle.job.specs.Writing.{header_numbers, hazard_numbers, hazards_numbers, numbers_of, write_numbers}
use Rattle.job.specs.Fits.{in_ranges, hazard_in_range, HeaderFits, HazardFits}
use Rattle.job.specs.Rows.{Group, of_header, of_hazard, next_in, numbers_before, BeforeFits, BeginsWith, index_after, NextNumber, Unread, OutOfRange}
use Rattle.job.specs.Rows.{BytesAfter, ReadRow, ended, malformed, header_range, hazard_range, left_over}
use Rattle.job.proofs.RangeLaws.{within_high, ranges_cons, ranges_split, header_split, header_bounds, header_most, hazard_most}

pub numbers_append : (xs ys : List ℕ) → write_numbers (xs ++ ys) ≡ write_numbers xs ++ write_numbers ys
unfolding write_numbers
numbers_append [] ys = refl
numbers_append (x ∷ xs) ys = rw (numbers_append xs ys) (sym (append_assoc (write_number x) (write_numbers xs) (write_numbers ys)))

-- Numbers of one group, whose ranges do not reach beyond the greatest value.
abbrev Within : (List ℕ → Bounds) → Type 0
Within range_of = (got : List ℕ) → (range_of got).high ≤ greatest_number

fields_behind : (range_of : List ℕ → Bounds) → Within range_of → (outside : List ℕ → Refusal) (m k : ℕ) (xs got s : List ℕ) (at : ℕ) (rest : List ℕ)
    → m ≡ length xs + k → in_ranges range_of got xs ≡ true → drop at s ≡ write_numbers xs ++ rest
    → read_fields range_of outside m got s at ≡ read_fields range_of outside k (got ++ xs) s (at + length (write_numbers xs))
unfolding read_fields write_numbers in_ranges
fields_behind range_of most outside m k [] got s at rest size fit e =
    rw (append-nil got, (let z : at + 0 ≡ at = omega arith in z), (let z : m ≡ k = omega arith in z))
fields_behind range_of most outside zero k (x ∷ xs) got s at rest size fit e = absurd (omega arith)
fields_behind range_of most outside (suc m) k (x ∷ xs) got s at rest size fit e =
    let fits = ranges_cons range_of got x xs fit in
    let here : drop at s ≡ write_number x ++ (write_numbers xs ++ rest) = e ∙ append_assoc (write_number x) (write_numbers xs) rest in
    let later = fields_behind range_of most outside m k xs (got ++ x ∷ []) s (at + length (write_number x)) rest (omega arith) fits.1
    (drop_after s at (write_number x) (write_numbers xs ++ rest) here) in
    rw (read_number_lem s at x (write_numbers xs ++ rest) (omega (arith, within_high (range_of got) x fits.0, most got)) here, fits.0)
    (later ∙ rw (
      append_assoc got (x ∷ []) xs,
      length-append (write_number x) (write_numbers xs),
      (let z : at + (length (write_number x) + length (write_numbers xs)) ≡ at + length (write_number x) + length (write_numbers xs) = omega arith in z),
    ))

fields_written : (range_of : List ℕ → Bounds) → Within range_of → (outside : List ℕ → Refusal) (xs s : List ℕ) (at : ℕ) (rest : List ℕ)
    → in_ranges range_of [] xs ≡ true → drop at s ≡ write_numbers xs ++ rest
    → read_fields range_of outside (length xs) [] s at ≡ accepted (record { numbers = xs; next = at + length (write_numbers xs) })
unfolding read_fields
fields_written range_of most outside xs s at rest fit e = fields_behind range_of most outside (length xs) 0 xs [] s at rest (omega arith) fit e

-- A header: fourteen numbers, and as many more as its kind has.
header_behind : (first more s rest : List ℕ) → in_ranges next_in_header [] first ≡ true → in_ranges next_in_header first more ≡ true → length first ≡ 14
    → more_numbers first ≡ length more
    → s ≡ write_numbers (first ++ more) ++ rest → read_header s ≡ accepted (record { numbers = first ++ more; next = length (write_numbers (first ++ more)) })
unfolding read_header read_fields
header_behind first more s rest fit later long count e =
    let one = write_numbers first in
    let two = write_numbers more in
    let here : s ≡ one ++ (two ++ rest) = e ∙ ap (λ (l : List ℕ). l ++ rest) (numbers_append first more) ∙ append_assoc one two rest in
    let fourteen = fields_behind next_in_header header_most outside_header 14 0 first [] s 0 (two ++ rest) (omega (arith, long)) fit here in
    let others = fields_behind next_in_header header_most outside_header (more_numbers first) 0 more first s (0 + length one) rest (omega (arith, count)) later
    (drop_after s 0 one (two ++ rest) here) in
    rw (fourteen, others, numbers_append first more, length-append one two, zero-add (length one))

header_written : (h : Header) (s rest : List ℕ) → in_ranges next_in_header [] (header_numbers h) ≡ true → s ≡ write_numbers (header_numbers h) ++ rest
    → read_header s ≡ accepted (record { numbers = header_numbers h; next = length (write_numbers (header_numbers h)) })
unfolding in_ranges
header_written h s rest fit e = go (eqb h.kind 2) refl fit e
  where
    -- Its numbers after the thirteenth, where the kind was looked at.
    last : Bool → List ℕ
    last t = if t then h.panel ∷ h.count ∷ [] else h.count ∷ []

    go : (t : Bool) → eqb h.kind 2 ≡ t → in_ranges next_in_header [] (shared_numbers h ++ last t) ≡ true → s ≡ write_numbers (shared_numbers h ++ last t) ++ rest
        → read_header s ≡ accepted (record { numbers = shared_numbers h ++ last t; next = length (write_numbers (shared_numbers h ++ last t)) })
    go true k f d =
        let first = shared_numbers h ++ h.panel ∷ [] in
        let more = h.count ∷ [] in
        let parts = ranges_split next_in_header [] first more f in
        header_behind first more s rest parts.0 parts.1 refl (rw k) d
    go false k f d = header_behind (shared_numbers h ++ h.count ∷ []) [] s rest f refl refl (rw k) d

-- Its numbers make it again.
header_again : (h : Header) → HeaderFits h → header_of (header_numbers h) ≡ h
header_again h fits = go (eqb h.kind 2) refl (header_split h fits).1
  where
    go : (t : Bool) → eqb h.kind 2 ≡ t → t || eqb h.panel 1 ≡ true
        → header_of (shared_numbers h ++ (if eqb h.kind 2 then h.panel ∷ h.count ∷ [] else h.count ∷ [])) ≡ h
    go true e plain = rw e
    go false e plain = rw e (ap (λ (p : ℕ). header_with (shared_numbers h ++ h.count ∷ []) p h.count) (sym (eqb-true h.panel 1 plain)))

-- Hazards.
hazards_behind : (h : Header) → Within (next_in_hazard h) → (m k : ℕ) (zs got : List Hazard) (s : List ℕ) (at : ℕ) (rest : List ℕ)
    → m ≡ length zs + k → ((z : Hazard) → Memᴰ z zs → HazardFits h z) → drop at s ≡ write_numbers (hazards_numbers zs) ++ rest
    → read_hazards h m got s at ≡ read_hazards h k (got ++ zs) s (at + length (write_numbers (hazards_numbers zs)))
unfolding read_hazards hazards_numbers write_numbers hazard_in_range
hazards_behind h most m k [] got s at rest size fit e =
    rw (append-nil got, (let z : at + 0 ≡ at = omega arith in z), (let z : m ≡ k = omega arith in z))
hazards_behind h most zero k (z ∷ zs) got s at rest size fit e = absurd (omega arith)
hazards_behind h most (suc m) k (z ∷ zs) got s at rest size fit e =
    let one = write_numbers (hazard_numbers z) in
    let others = write_numbers (hazards_numbers zs) in
    let both : write_numbers (hazard_numbers z ++ hazards_numbers zs) ≡ one ++ others = numbers_append (hazard_numbers z) (hazards_numbers zs) in
    let here : drop at s ≡ one ++ (others ++ rest) = e ∙ ap (λ (l : List ℕ). l ++ rest) both ∙ append_assoc one others rest in
    let first = fields_written (next_in_hazard h) most (outside_hazard (length got)) (hazard_numbers z) s at (others ++ rest) (fit z (Memᴰ.head refl)) here in
    let later = hazards_behind h most m k zs (got ++ z ∷ []) s (at + length one) rest (omega arith) (λ y i. fit y (Memᴰ.tail i))
    (drop_after s at one (others ++ rest) here) in
    rw first
    (later ∙ rw (
      append_assoc got (z ∷ []) zs,
      both,
      length-append one others,
      (let w : at + (length one + length others) ≡ at + length one + length others = omega arith in w),
    ))

-- The header and hazards.
behind_own : (g : Group) (got : List ℕ) → index_after g got ≡ index_after g [] + length (write_numbers got)
unfolding write_numbers
behind_own g got = simp (numbers_append, length-append) (omega arith)

bytes_behind : {s : List ℕ} {g : Group} {got rest : List ℕ} → BeginsWith s g got rest → drop (index_after g []) s ≡ write_numbers got ++ rest
bytes_behind {s} {g} {got} {rest} stands =
    let split : s ≡ write_numbers (numbers_before g ++ []) ++ (write_numbers got ++ rest) = stands.bytes ∙ simp (append-nil, numbers_append, append_assoc) in
    rw split (drop-append_seam (write_numbers (numbers_before g ++ [])) (write_numbers got ++ rest))

group_most : (g : Group) → BeforeFits g → Within (next_in g)
group_most of_header b = header_most
group_most (of_hazard h before) b = hazard_most greatest_number h (omega arith) (omega (arith, (header_bounds h b.0).road_end))

pub job_behind : {s : List ℕ} {h : Header} {zs : List Hazard} {got rest : List ℕ} (k : ℕ) → BeginsWith s (of_hazard h zs) got rest → h.count ≡ length zs + k
    → read_job s ≡ read_rest h k zs s (index_after (of_hazard h zs) [])
unfolding read_job read_rest numbers_of
job_behind {s} {h} {zs} {got} {rest} k stands count =
    let one = write_numbers (header_numbers h) in
    let others = write_numbers (hazards_numbers zs) in
    let split : s ≡ one ++ (others ++ (write_numbers got ++ rest)) = stands.bytes ∙ simp (numbers_append, append_assoc) in
    let fits : HeaderFits h = stands.before.0 in
    let header = header_written h s (others ++ (write_numbers got ++ rest)) (header_split h fits).0 split in
    let hazards = hazards_behind h (group_most (of_hazard h zs) stands.before) h.count k zs [] s (length one) (write_numbers got ++ rest) count
    stands.before.1 (rw (zero-add (length one)) at (drop_after s 0 one (others ++ (write_numbers got ++ rest)) split)) in
    let index : length one + length others ≡ index_after (of_hazard h zs) [] = simp (append-nil, numbers_append, length-append) (omega arith) in
    rw (header, header_again h fits, hazards, index)

-- Refusals

-- What a number outside its range is refused with, by its group.
abbrev pub outside_of : Group → List ℕ → Refusal
outside_of of_header = outside_header
outside_of (of_hazard h before) = outside_hazard (length before)

module _ {s : List ℕ} where
  -- Where a group's next number is refused, the job is.
  own_refused : {g : Group} {got rest : List ℕ} (n v size : ℕ) → length got < size → BeginsWith s g got rest
      → ((k : ℕ) → read_fields (next_in g) (outside_of g) (suc k) got s (index_after g got) ≡ refused n v)
      → read_fields (next_in g) (outside_of g) size [] s (index_after g []) ≡ refused n v
  own_refused {g} {got} {rest} n v size more stands e =
      let left = size - suc (length got) in
      fields_behind (next_in g) (group_most g stands.before) (outside_of g) size (suc left) got [] s (index_after g []) rest (omega arith) stands.own
      (bytes_behind stands)
      ∙ rw (sym (behind_own g got)) (e left)

  -- Of the header, among its first fourteen numbers or behind them.
  own_header_refused : {got rest : List ℕ} (n v : ℕ) → NextNumber s of_header got rest
      → ((k : ℕ) → read_fields next_in_header outside_header (suc k) got s (index_after of_header got) ≡ refused n v) → read_header s ≡ refused n v
  unfolding read_header read_fields write_numbers
  own_header_refused {got} {rest} n v next e = go (dec_lt (length got) 14)
    where
      behind_fourteen : (t : Bool) → eqb (get_or got 0 0) 2 ≡ t → length got < (if t then 15 else 14) → (length got < 14 → ⊥) → read_header s ≡ refused n v
      behind_fourteen true two l many =
          let all = fields_behind next_in_header header_most outside_header 14 0 got [] s 0 rest (omega arith) next.stands.own (bytes_behind next.stands) in
          rw (all, two, zero-add (length (write_numbers got))) (e 0)
      behind_fourteen false two l many = absurd (many l)

      go : Dec (length got < 14) → read_header s ≡ refused n v
      go (yes few) = rw (own_refused n v 14 few next.stands e)
      go (no many) = behind_fourteen (eqb (get_or got 0 0) 2) refl next.more many

  number_refused : (g : Group) {got rest : List ℕ} (n v : ℕ) → NextNumber s g got rest
      → ((k : ℕ) → read_fields (next_in g) (outside_of g) (suc k) got s (index_after g got) ≡ refused n v) → read_job s ≡ refused n v
  unfolding read_job read_rest read_hazards
  number_refused of_header n v next e = rw (own_header_refused n v next e)
  number_refused (of_hazard h zs) n v next e =
      job_behind (suc (h.count - suc (length zs))) next.stands (omega (arith, next.has)) ∙ rw (own_refused n v 6 next.more next.stands e)

  rest_behind : {g : Group} {got rest : List ℕ} → BeginsWith s g got rest → drop (index_after g got) s ≡ rest
  rest_behind {g} {got} {rest} stands = rw stands.bytes (drop-append_seam (write_numbers (numbers_before g ++ got)) rest)

  unread_refused : {Fault : List ℕ → Type 0} {at : ℕ} (n : ℕ) (c : ℕ → Result Reading Refusal) → ((i : ℕ) → answer_of (c i) ≡ refused n i)
      → ((i : ℕ) → Fault (drop i s) → read_number s i ≡ c i)
      → Unread Fault s at → read_job s ≡ refused n at
  unfolding read_fields number_at
  unread_refused n c number fault w =
      number_refused w.group n _ w.next (λ k. rw
      (fault (index_after w.group w.got) (rw (rest_behind w.next.stands) w.fault), number (index_after w.group w.got))
      (ap (refused n) (sym w.begins)))

  outside_refused : {g : Group} {got : List ℕ} → OutOfRange s g got → read_job s ≡ refusal (outside_of g got)
  unfolding read_fields
  outside_refused {g} {got} w =
      number_refused g (number_of (outside_of g got)) (value_of (outside_of g got)) w.next
      (λ k. rw (read_number_lem s (index_after g got) w.number w.rest w.fits (rest_behind w.next.stands), w.outside))

  after_refused : {at : ℕ} → BytesAfter s at → read_job s ≡ refused 7 at
  unfolding read_rest read_hazards
  after_refused w =
      let g = of_hazard w.job.header w.job.hazards in
      let longer : index_after g [] < length s = rw (w.stands.bytes, length-append) (omega (arith, w.some)) in
      job_behind 0 w.stands (omega (arith, w.all)) ∙ rw (lt-leb (length s) (index_after g []) longer, w.first)

pub row_refused : (s : List ℕ) (r : Refusal) → ReadRow r s → read_job s ≡ refusal r
row_refused s r (ended at e w) = unread_refused 1 (λ i. Err (Row.Ended i)) (λ i. refl) (λ i. (read_ended s i).1) w ∙ ap refusal (sym e)
row_refused s r (malformed at e w) = unread_refused 2 (λ i. Err (Row.Malformed i)) (λ i. refl) (λ i. ill_formed s i) w ∙ ap refusal (sym e)
row_refused s r (header_range got e w) = outside_refused w ∙ ap refusal (sym e)
row_refused s r (hazard_range h before got e w) = outside_refused w ∙ ap refusal (sym e)
row_refused s r (left_over at e w) = after_refused w ∙ ap refusal (sym e)
