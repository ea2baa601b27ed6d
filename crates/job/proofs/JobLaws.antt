-- What a job that could be read is known to satisfy: each number lies in its range, and there are as many hazards as the header says.
-- Assumes nothing.
use Rattle.std.specs.Prelude.{if◌then◌else◌}
use Prim.Native.Nat.{ℕ, zero, suc, ◌+◌, ◌-◌}
use native.Mathlib.Omega.{arith}
use native.Mathlib.Nat.{zero-add}
use mathlib.Core.Path.{◌≡◌, refl, sym, subst, ap, ◌∙◌}
use mathlib.Core.Bool.{Bool, true, false, ◌||◌}
use mathlib.Core.List.Memᴰ
use mathlib.Core.List.{List, [], ◌∷◌, ◌++◌, append_assoc, append-nil, Memᴰ}
use lib.ListN.{length, get_or, drop, length-append, drop_of_length-le, get_or-append}
use lib.Seq.{drop-cons}
use lib.Dec.{leb, eqb}
use Rattle.base.specs.Answer.{accepted}
use Rattle.refusal.specs.Refusal.{unless_refuse}
use Rattle.refusal.specs.declared.Refusal.TheVariants as Row
use Rattle.refusal.specs.declared.Refusal.{Refusal}
use Rattle.std.proofs.lemmas.Bool.{and_from}
use Rattle.base.proofs.AnswerLaws.{bound}
use Rattle.refusal.proofs.RefuseLaws.{tested}
use Rattle.base.proofs.ListLaws.{snoc_each}
use Rattle.number.specs.Number.{number_at}
use Rattle.job.specs.declared.Header.{Header}
use Rattle.job.specs.declared.Hazard.{Hazard}
use Rattle.job.specs.declared.Bounds.{Bounds}
use Rattle.job.specs.Job.{Job, within, header_size, next_in_header, next_in_hazard, Fields, read_fields, more_numbers, read_header, header_of, hazard_of, Hazards}
use Rattle.job.specs.Job.{read_hazards, read_job, read_rest, outside_header, outside_hazard}
use Rattle.job.specs.Writing.{header_numbers, hazard_numbers}
use Rattle.job.specs.Fits.{in_ranges, header_in_range, hazard_in_range, HeaderFits, HazardFits, HazardsFit, JobFits}
use Rattle.job.specs.declared.hazard_fields.HazardReading.{HazardReading}
use Rattle.job.specs.declared.header_fields.HeaderReading.{HeaderReading}
use Rattle.job.specs.Reply.{header_reading, header_at, hazard_reading, read_hazard_at}
use Rattle.job.proofs.RangeLaws.{ranges_parts}

-- The numbers read behind `got`: k of them, each in its range.
pub record FieldsIn (range_of : List ℕ → Bounds) (k : ℕ) (got numbers : List ℕ) : Type 0 where
  pub own : List ℕ
  pub whole : numbers ≡ got ++ own
  pub size : length own ≡ k
  pub fit : in_ranges range_of got own ≡ true

pub fields_in : (range_of : List ℕ → Bounds) (outside : List ℕ → Refusal) (k : ℕ) (got s : List ℕ) (at : ℕ) (f : Fields)
    → read_fields range_of outside k got s at ≡ accepted f → FieldsIn range_of k got f.numbers
unfolding read_fields in_ranges
fields_in range_of outside zero got s at f e =
    let w : record { numbers = got; next = at } ≡ f = cc in
    record { own = []; whole = sym (ap (λ (z : Fields). z.numbers) w) ∙ sym (append-nil got); size = refl; fit = refl }
fields_in range_of outside (suc k) got s at f e =
    let b1 = bound (number_at s at) _ f e in
    let x = b1.first.value in
    let b2 = bound (unless_refuse (within (range_of got) x) (outside got)) _ f b1.rest in
    let later = fields_in range_of outside k (got ++ x ∷ []) s b1.first.next f b2.rest in
    record {
      own = x ∷ later.own;
      whole = later.whole ∙ append_assoc got (x ∷ []) later.own;
      size = ap suc later.size;
      fit = and_from (within (range_of got) x) _ (tested _ (outside got) _ b2.taken) later.fit;
    }

-- A list is its elements.
abbrev elements : (from n : ℕ) → List ℕ → List ℕ
elements from zero l = []
elements from (suc n) l = get_or l from 0 ∷ elements (suc from) n l

pub listed : (from n : ℕ) (l : List ℕ) → length l ≡ from + n → elements from n l ≡ drop from l
listed from zero l size = sym (drop_of_length-le l {i = from} (omega arith))
listed from (suc n) l size = ap (◌∷◌ (get_or l from 0)) (listed (suc from) n l (omega arith)) ∙ sym (drop-cons l from 0 (omega arith))

-- The numbers of a header: as many as its kind has, each in its range.
pub record HeaderIn (numbers : List ℕ) : Type 0 where
  pub size : length numbers ≡ header_size (get_or numbers 0 0)
  pub fit : in_ranges next_in_header [] numbers ≡ true

pub header_in : (s : List ℕ) (f : Fields) → read_header s ≡ accepted f → HeaderIn f.numbers
unfolding read_header
header_in s f e =
    let next = next_in_header in
    let b = bound (read_fields next outside_header 14 [] s 0) _ f e in
    let first = b.first.numbers in
    let one = fields_in next outside_header 14 [] s 0 b.first b.taken in
    let two = fields_in next outside_header (more_numbers first) first s b.first.next f b.rest in
    let fit : in_ranges next [] first ≡ true = rw one.whole one.fit in
    let long : length first ≡ 14 = ap length one.whole ∙ one.size in
    rw two.whole
    (record {
      size = rw (get_or-append first two.own 0 0 (omega arith), length-append first two.own, long) (more (eqb (get_or first 0 0) 2) two.size);
      fit = ranges_parts next [] first two.own ∙ and_from _ _ fit two.fit;
    })
  where
    more : {n : ℕ} (t : Bool) → n ≡ (if t then 15 else 14) - 14 → 14 + n ≡ (if t then 15 else 14)
    more true e = omega arith
    more false e = omega arith

-- A header has the numbers that it was made of, and fits.
pub header_own : (numbers : List ℕ) → length numbers ≡ header_size (get_or numbers 0 0) → header_numbers (header_of numbers) ≡ numbers
header_own numbers size = go (eqb (get_or numbers 0 0) 2) refl size
  where
    go : (t : Bool) → eqb (get_or numbers 0 0) 2 ≡ t → length numbers ≡ (if t then 15 else 14) → header_numbers (header_of numbers) ≡ numbers
    go true e l = simp e (listed 0 15 numbers l)
    go false e l = simp e (listed 0 14 numbers l)

pub header_fits : (numbers : List ℕ) → HeaderIn numbers → HeaderFits (header_of numbers)
unfolding header_in_range
header_fits numbers h = and_from (in_ranges next_in_header [] (header_numbers (header_of numbers))) _ (rw (header_own numbers h.size) h.fit)
    (plain (eqb (get_or numbers 0 0) 2) refl)
  where
    plain : (t : Bool) → eqb (get_or numbers 0 0) 2 ≡ t → eqb (header_of numbers).kind 2 || eqb (header_of numbers).panel 1 ≡ true
    plain true e = simp e
    plain false e = simp e

-- So has a hazard.
pub hazard_own : (numbers : List ℕ) → length numbers ≡ 6 → hazard_numbers (hazard_of numbers) ≡ numbers
hazard_own numbers size = listed 0 6 numbers size

pub hazard_fits : (h : Header) (numbers : List ℕ) → FieldsIn (next_in_hazard h) 6 [] numbers → HazardFits h (hazard_of numbers)
unfolding hazard_in_range
hazard_fits h numbers f = rw (hazard_own numbers (ap length f.whole ∙ f.size), f.whole) f.fit

-- All hazards read fit, and there are as many as asked for.
hazards_fit : (h : Header) (k : ℕ) (got : List Hazard) (s : List ℕ) (at : ℕ) (r : Hazards) → ((z : Hazard) → Memᴰ z got → HazardFits h z)
    → read_hazards h k got s at ≡ accepted r → HazardsFit h (length got + k) r.list
unfolding read_hazards
hazards_fit h zero got s at r all e =
    let w : record { list = got; next = at } ≡ r = cc in
    subst (λ (x : Hazards). HazardsFit h (length got + 0) x.list) w (record { count = omega arith; each = all })
hazards_fit h (suc k) got s at r all e =
    let b1 = bound (read_fields (next_in_hazard h) (outside_hazard (length got)) 6 [] s at) _ r e in
    let fit = hazard_fits h b1.first.numbers (fields_in (next_in_hazard h) (outside_hazard (length got)) 6 [] s at b1.first b1.taken) in
    let rest = hazards_fit h k (got ++ hazard_of b1.first.numbers ∷ []) s b1.first.next r (snoc_each (HazardFits h) got all fit) b1.rest in
    subst (λ (n : ℕ). HazardsFit h n r.list) (count (hazard_of b1.first.numbers)) rest
  where
    count : (y : Hazard) → length (got ++ y ∷ []) + k ≡ length got + suc k
    count y = rw (length-append got (y ∷ [])) (omega arith)

-- A hazard that could be read.
pub hazard_at_fits : (h : Header) (index : ℕ) (s : List ℕ) (at : ℕ) (x : HazardReading) → read_hazard_at h index s at ≡ accepted x → HazardFits h x.hazard
unfolding read_hazard_at
hazard_at_fits h index s at x e =
    let b = bound (read_fields (next_in_hazard h) (outside_hazard index) 6 [] s at) (λ f. accepted (hazard_reading f)) x e in
    let same : hazard_reading b.first ≡ x = cc in
    subst (λ (y : HazardReading). HazardFits h y.hazard) same
    (hazard_fits h b.first.numbers (fields_in (next_in_hazard h) (outside_hazard index) 6 [] s at b.first b.taken))

-- A header that could be read.
pub header_at_fits : (s : List ℕ) (x : HeaderReading) → header_at s ≡ accepted x → HeaderFits x.header
unfolding header_at
header_at_fits s x e =
    let b = bound (read_header s) (λ f. accepted (header_reading f)) x e in
    let same : header_reading b.first ≡ x = cc in
    subst (λ (y : HeaderReading). HeaderFits y.header) same (header_fits b.first.numbers (header_in s b.first b.taken))

-- A job that could be read.
pub job_fits : (s : List ℕ) (j : Job) → read_job s ≡ accepted j → JobFits j
unfolding read_job read_rest
job_fits s j e =
    let b1 = bound (read_header s) _ j e in
    let b2 = bound (read_hazards (header_of b1.first.numbers) (header_of b1.first.numbers).count [] s b1.first.next) _ j b1.rest in
    let b3 = bound (unless_refuse (leb (length s) b2.first.next) (Row.LeftOver b2.first.next)) _ j b2.rest in
    finish b1.first b2.first (header_fits b1.first.numbers (header_in s b1.first b1.taken))
    (subst (λ (n : ℕ). HazardsFit (header_of b1.first.numbers) n b2.first.list) (zero-add _)
    (hazards_fit (header_of b1.first.numbers) (header_of b1.first.numbers).count [] s b1.first.next b2.first (λ z m. absurd (Memᴰ.not-nil m))
    b2.taken)) b3.rest
  where
    finish : (f : Fields) (r : Hazards) → HeaderFits (header_of f.numbers) → HazardsFit (header_of f.numbers) (header_of f.numbers).count r.list
        → accepted (record { header = header_of f.numbers; hazards = r.list }) ≡ accepted j → JobFits j
    finish f r hf hr c =
        let w : record { header = header_of f.numbers; hazards = r.list } ≡ j = cc in
        subst JobFits w (record { header = hf; hazards = hr })
